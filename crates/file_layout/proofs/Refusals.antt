-- Document 01, "Numbers returned on refusal": what a refusal of the check carries, by number and place. Assumes nothing.
use Prim.Native.Nat.{ℕ, zero, suc, ◌+◌, ◌≤◌, ◌<◌}
use mathlib.Core.List.{List, []}
use mathlib.Core.Path.{◌≡◌, ap, subst, ◌∙◌}
use native.Mathlib.Omega.{arith}
use lib.Dec.{leb}
use lib.ListN.{length, get_or}
use Rattle.timetable.specs.Verdict.{Verdict, fine, fault, or_else, unless, refused, told_fault}
use Rattle.timetable.specs.Classes.{shares_rule}
use Rattle.timetable.specs.Rows.{rows_verdict}
use Rattle.timetable.specs.Places.{Placed, WellPlaced, outside, unjoined, class}
use Rattle.timetable.proofs.Places.{number_small, place_small, one_of_two_placed, rule_placed, rows_placed}
use Rattle.file_layout.specs.declared.Format.{Format}
use Rattle.file_layout.specs.declared.Trailer.{Trailer}
use Rattle.numbers.specs.Numbers.{u16_at}
use Rattle.file_layout.specs.Decode.{trailer_start, trailer_at, trailer_of, table_at, block_end, decode}
use Rattle.file_layout.specs.Check.{length_rule, trailer_rule, class_verdict, classes_verdict, joined, sections_verdict, ranges_of, file_verdict, answered, checked_as}
use Rattle.file_layout.proofs.FileRows.{rows_length}
use Rattle.file_layout.proofs.Sound.{decoded_rows}

classes_placed : (classes rows : ℕ) (f : Format) (s : List ℕ) (end k at left : ℕ) → k + left ≤ classes
    → WellPlaced classes rows (classes_verdict f s end k at left)
unfolding classes_verdict class_verdict
classes_placed classes rows f s end k at zero h = tt
classes_placed classes rows f s end k at (suc left) h =
    let shares = unless (shares_rule (table_at s at)) 3 k in
    let block = unless (leb (block_end s at) end) 2 0 in
    let delay = unless (leb (u16_at s at) f.delay) 3 k in
    let bytes = unless (leb (at + 2) end) 2 0 in
    one_of_two_placed classes rows (or_else bytes (or_else delay (or_else block shares)))
    (classes_verdict f s end (suc k) (block_end s at) left)
    (one_of_two_placed classes rows bytes (or_else delay (or_else block shares)) (rule_placed (leb (at + 2) end) unjoined)
    (one_of_two_placed classes rows delay (or_else block shares) (rule_placed (leb (u16_at s at) f.delay) (class (omega arith)))
    (one_of_two_placed classes rows block shares (rule_placed (leb (block_end s at) end) unjoined)
    (rule_placed (shares_rule (table_at s at)) (class (omega arith))))))
    (classes_placed classes rows f s end (suc k) (block_end s at) left (omega arith))

sections_placed : (f : Format) (s : List ℕ) (rows : ℕ) → WellPlaced (trailer_of f s).classes rows (sections_verdict f s)
unfolding sections_verdict
sections_placed f s rows =
    let h = trailer_of f s in
    let classes = classes_verdict f s (trailer_start f s) 0 h.tablestart h.classes in
    let join = unless (joined f s h) 2 0 in
    let range = unless (trailer_rule f h) 1 0 in
    one_of_two_placed h.classes rows (unless (length_rule f s) 1 0) (or_else range (or_else classes join))
    (rule_placed (length_rule f s) outside)
    (one_of_two_placed h.classes rows range (or_else classes join) (rule_placed (trailer_rule f h) outside)
    (one_of_two_placed h.classes rows classes join
    (classes_placed h.classes rows f s (trailer_start f s) 0 h.tablestart h.classes (omega arith))
    (rule_placed (joined f s h) unjoined)))

-- a file's verdict is fine or a fault at its place
pub file_placed : (f : Format) (s : List ℕ) → WellPlaced (trailer_of f s).classes (trailer_of f s).rows (file_verdict f s)
unfolding file_verdict
file_placed f s =
    let h = trailer_of f s in
    let count : length (decode f s).rows ≡ h.rows =
    ap length (decoded_rows f s) ∙ rows_length f.width s h.rowstart h.rows
    in
    one_of_two_placed h.classes h.rows (sections_verdict f s) (rows_verdict (ranges_of f h) [] 0 (decode f s).rows)
    (sections_placed f s h.rows) (rows_placed h.classes h.rows (ranges_of f h) [] 0 (decode f s).rows (omega (arith, count)))

refused_answer : (h : Trailer) (v : Verdict) (number place : ℕ) → answered h v ≡ refused number place → v ≡ fault number place
unfolding answered
refused_answer h fine number place e = absurd (let z : ◌≡◌ {A = ℕ} 0 1 = cc in let y : ⊥ = omega arith in y)
refused_answer h (fault n p) number place e = ap told_fault e

-- a refusal carries its fault's number and place
pub refused_checked : (f : Format) (s : List ℕ) (number place : ℕ) → checked_as f s ≡ refused number place
    → file_verdict f s ≡ fault number place
unfolding checked_as
refused_checked f s number place e = refused_answer (trailer_of f s) (file_verdict f s) number place e

-- and these are 1 to 5, the place a class for 3, a row for 4 and 5, otherwise 0
pub refused_placed : (f : Format) (s : List ℕ) (number place : ℕ) → checked_as f s ≡ refused number place
    → Placed (trailer_of f s).classes (trailer_of f s).rows number place
refused_placed f s number place e =
    subst (WellPlaced (trailer_of f s).classes (trailer_of f s).rows) (refused_checked f s number place e) (file_placed f s)

-- numbers of two bytes are small, and so a refusal's number and place fit a cell
module _ (f : Format) (s : List ℕ) (bytes : (i : ℕ) → get_or s i 0 < 256) where
  u16_small : (at : ℕ) → u16_at s at < 65536
  unfolding u16_at
  u16_small at = omega (arith, bytes at, bytes (at + 1))

  trailer_small : (trailer_of f s).classes + (trailer_of f s).rows < 131072
  unfolding trailer_of trailer_at
  trailer_small = omega (arith, u16_small (trailer_start f s + 6), u16_small (trailer_start f s + 4))

  pub refusal_fits : (number place : ℕ) → checked_as f s ≡ refused number place → (number < 4294967296) × (place < 4294967296)
  refusal_fits number place e =
      let placed = refused_placed f s number place e in
      (omega (arith, (number_small placed).1), omega (arith, place_small placed, trailer_small))
