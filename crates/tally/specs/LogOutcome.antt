-- Document 02, E4: a log tallied landing by landing; the first landing that is refused ends it.
use Rattle.std.specs.Prelude.{ℕ, zero, suc, ◌+◌, ◌/◌, List, [], ◌∷◌, length, Result, Ok, Err}
use Rattle.numbers.specs.Numbers.{u16_at}
use Rattle.timetable.specs.Verdict.{refused}
use Rattle.timetable.specs.declared.Refusal.{Refusal}
use Rattle.file_layout.specs.declared.Format.{Format}
use Rattle.file_layout.specs.Check.{Answer}
use Rattle.tally.specs.declared.Landing.{Landing}
use Rattle.tally.specs.Landing.{landing_at}
use Rattle.tally.specs.Outcome.{landing_outcome}

-- a log's bytes: four for a landing, the planned and the actual minute (u16, little-endian)
unfoldable pub landings_from : List ℕ → (at n : ℕ) → List Landing
landings_from s at zero = []
landings_from s at (suc n) = landing_at (u16_at s at) (u16_at s (at + 2)) ∷ landings_from s (at + 4) n

-- as many landings as there are four bytes for
unfoldable pub landings_in : List ℕ → List Landing
landings_in s = landings_from s 0 (length s / 4)

pub record LogOutcome : Type 0 where
  pub answer : Result ℕ (Refusal ℕ)
  pub tally : List ℕ

-- a landing that is counted goes on, one that is refused ends the log at its number
abbrev pub goes_on : (i : ℕ) → List ℕ → LogOutcome → Result Unit (Refusal ℕ) → LogOutcome
goes_on i tally later (Ok counted) = later
goes_on i tally later (Err refusal) = record { answer = refused refusal.number i; tally = tally }

-- landings from the i-th on
unfoldable pub log_outcome : Format → (i : ℕ) → List Landing → List ℕ → LogOutcome
log_outcome f i [] tally = record { answer = Ok i; tally = tally }
log_outcome f i (l ∷ log) tally =
    let counted = landing_outcome f l tally in
    let later = log_outcome f (suc i) log counted.tally in
    goes_on i counted.tally later counted.answer

-- by document 01's number, place and values: a refusal's place is the landing's number in the log
unfoldable pub log_answer : Result ℕ (Refusal ℕ) → Answer
log_answer (Ok landings) = record { number = 0; place = 0; values = landings ∷ [] }
log_answer (Err refusal) = record { number = refusal.number; place = refusal.place; values = [] }
