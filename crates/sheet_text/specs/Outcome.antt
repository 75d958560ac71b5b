-- What the sheet's call answers and what the lent bytes hold afterwards, for every version, file, query and slice.
use Rattle.std.specs.Prelude.{ℕ, cond, List, leb, length, Option, Some, None}
use Rattle.file_layout.specs.declared.Format.{Format}
use Rattle.numbers.specs.Over.{over}
use Rattle.sheet_text.specs.Room.{sheet_room}
use Rattle.sheet_text.specs.Sheet.{sheet_text}

-- where the text ends, or that there is too little room for one; and the bytes afterwards
pub record SheetOutcome : Type 0 where
  pub answer : Option ℕ
  pub out : List ℕ

-- where the text ends, the text and then the bytes beyond it unchanged
unfoldable pub text_given : List ℕ → List ℕ → SheetOutcome
text_given text out = record { answer = Some (length text); out = over text out }

-- too little room changes nothing
unfoldable pub sheet_outcome : Format → (sailings query out : List ℕ) → SheetOutcome
sheet_outcome f sailings query out =
    cond (leb sheet_room (length out)) (text_given (sheet_text f sailings query) out) (record { answer = None; out = out })
