-- Document 01, "Numbers returned on refusal": what the check answers, in the order of the refusals 1 to 5.
use Rattle.std.specs.Prelude.{ℕ, zero, suc, ◌+◌, ◌*◌, Bool, ◌&&◌, ◌||◌, List, [], ◌∷◌, leb, eqb, length, Result, Ok, Err}
use Rattle.timetable.specs.Verdict.{Verdict, fine, or_else, unless, by_verdict, refused}
use Rattle.timetable.specs.declared.Refusal.{Refusal}
use Rattle.timetable.specs.Classes.{shares_rule}
use Rattle.timetable.specs.Rows.{rows_verdict}
use Rattle.timetable.specs.declared.Ranges.{Ranges}
use Rattle.file_layout.specs.declared.Format.{Format}
use Rattle.file_layout.specs.declared.Trailer.{Trailer}
use Rattle.file_layout.specs.Format.{version_one}
use Rattle.timetable.specs.Limits.{fewest_stops, most_stops, most_rows, fewest_classes, most_classes}
use Rattle.numbers.specs.Numbers.{u16_at}
use Rattle.file_layout.specs.Decode.{trailer_start, trailer_of, table_at, block_end, tables_end, decode}

-- file length, version, S, n and K are in their ranges, else 1
unfoldable pub length_rule : Format → List ℕ → Bool
length_rule f s = leb f.fewestbytes (length s) && leb (length s) f.mostbytes

unfoldable pub trailer_rule : Format → Trailer → Bool
trailer_rule f h =
    eqb h.version f.version && leb fewest_stops h.stops && leb h.stops most_stops && leb h.rows most_rows
    && leb fewest_classes h.classes && leb h.classes most_classes

-- one class block that starts at byte `at`, class number k: M's two bytes fit, else 2; M, else 3; shares fit, else 2; sum and last share, else 3
unfoldable pub class_verdict : Format → List ℕ → ℕ → ℕ → ℕ → Verdict
class_verdict f s end k at =
    or_else (unless (leb (at + 2) end) 2 0)
    (or_else (unless (leb (u16_at s at) f.delay) 3 k)
    (or_else (unless (leb (block_end s at) end) 2 0) (unless (shares_rule (table_at s at)) 3 k)))

-- class by class: `left` blocks from class k on
unfoldable pub classes_verdict : Format → List ℕ → ℕ → ℕ → ℕ → ℕ → Verdict
classes_verdict f s end k at zero = fine
classes_verdict f s end k at (suc left) =
    let later = classes_verdict f s end (suc k) (block_end s at) left in or_else (class_verdict f s end k at) later

-- two sections in either order: one starts at 0, the other starts where that one ends, and the second ends where the trailer starts, else 2
unfoldable pub sections_join : (rows rows_end tables tables_end end : ℕ) → Bool
sections_join rows rows_end tables ends end =
    (eqb rows 0 && eqb tables rows_end && eqb ends end) || (eqb tables 0 && eqb rows ends && eqb rows_end end)

unfoldable pub joined : Format → List ℕ → Trailer → Bool
joined f s h =
    sections_join h.rowstart (h.rowstart + f.width * h.rows) h.tablestart (tables_end s h.tablestart h.classes)
    (trailer_start f s)

-- 1; then class by class; then joining
unfoldable pub sections_verdict : Format → List ℕ → Verdict
sections_verdict f s =
    let h = trailer_of f s in
    let behind =
    let classes = classes_verdict f s (trailer_start f s) 0 h.tablestart h.classes in
    or_else classes (unless (joined f s h) 2 0)
    in
    or_else (unless (length_rule f s) 1 0) (or_else (unless (trailer_rule f h) 1 0) behind)

-- what the rows of a file are held to
abbrev pub ranges_of : Format → Trailer → Ranges
ranges_of f h = record { stops = h.stops; classes = h.classes; lastminute = f.lastminute }

-- then row by row
unfoldable pub file_verdict : Format → List ℕ → Verdict
file_verdict f s =
    let rows = rows_verdict (ranges_of f (trailer_of f s)) [] 0 (decode f s).rows in
    or_else (sections_verdict f s) rows

-- a sound file's trailer is handed on; a refusal carries its number and place and nothing else
unfoldable pub answered : Trailer → Verdict → Result Trailer (Refusal ℕ)
answered h v = by_verdict refused (Ok h) v

unfoldable pub checked_as : Format → List ℕ → Result Trailer (Refusal ℕ)
checked_as f s = answered (trailer_of f s) (file_verdict f s)

unfoldable pub checked : List ℕ → Result Trailer (Refusal ℕ)
checked s = checked_as version_one s

-- A case of an answer by document 01's number, place and values: one that is no refusal has number 0 and place 0
pub record Answer : Type 0 where
  pub number : ℕ
  pub place : ℕ
  pub values : List ℕ

-- The check answers a sound file with S, n and K
unfoldable pub answer_of : Result Trailer (Refusal ℕ) → Answer
answer_of (Ok h) = record { number = 0; place = 0; values = h.stops ∷ h.rows ∷ h.classes ∷ [] }
answer_of (Err r) = record { number = r.number; place = r.place; values = [] }
