-- What a fine verdict tells of a file's trailer: its ranges, its classes and where its sections lie. Assumes nothing.
use Prim.Native.Nat.{ℕ, ◌+◌, ◌*◌, ◌≤◌}
use mathlib.Core.Bool.{true, ◌&&◌}
use mathlib.Core.List.{List, []}
use mathlib.Core.Logic.{inl, inr}
use mathlib.Core.Path.{◌≡◌, refl, ap, ◌∙◌}
use native.Mathlib.Omega.{arith}
use lib.Dec.{leb, eqb}
use lib.ListN.{length, get_or}
use borrow.Author.Tests.{leb-true, eqb-true}
use Rattle.laws.proofs.Tests.{both_left, both_right, either}
use Rattle.timetable.specs.Verdict.{fine, or_else, unless}
use Rattle.timetable.proofs.Verdicts.{first_fine, second_fine, rule_holds}
use Rattle.file_layout.specs.declared.Format.{Format}
use Rattle.file_layout.specs.declared.Trailer.{Trailer}
use Rattle.timetable.specs.Limits.{fewest_stops, most_stops, most_rows, fewest_classes, most_classes}
use Rattle.file_layout.specs.Decode.{trailer_start, trailer_of, tables_from, tables_end, decode}
use Rattle.file_layout.specs.Check.{length_rule, trailer_rule, classes_verdict, sections_join, joined, sections_verdict}
use Rattle.file_layout.specs.Sound.{InRange, Joins, TrailerSound}
use Rattle.file_layout.proofs.Blocks.{classes_give, table_of_block, tables_length, tables_forward}

range_gives : (f : Format) (s : List ℕ) (h : Trailer) → length_rule f s ≡ true → trailer_rule f h ≡ true → InRange f s h
unfolding length_rule trailer_rule
range_gives f s h l e =
    let not_short = leb f.fewestbytes (length s) in
    let version = eqb h.version f.version in
    let least = version && leb fewest_stops h.stops in
    let most = least && leb h.stops most_stops in
    let rows = most && leb h.rows most_rows in
    let classes = rows && leb fewest_classes h.classes in
    let e₄ = both_left classes (leb h.classes most_classes) e in
    let e₃ = both_left rows (leb fewest_classes h.classes) e₄ in
    let e₂ = both_left most (leb h.rows most_rows) e₃ in
    let e₁ = both_left least (leb h.stops most_stops) e₂ in
    record {
      not_short = leb-true f.fewestbytes (length s) (both_left not_short (leb (length s) f.mostbytes) l);
      not_long = leb-true (length s) f.mostbytes (both_right not_short (leb (length s) f.mostbytes) l);
      version = eqb-true h.version f.version (both_left version (leb fewest_stops h.stops) e₁);
      stops_least = leb-true fewest_stops h.stops (both_right version (leb fewest_stops h.stops) e₁);
      stops_most = leb-true h.stops most_stops (both_right least (leb h.stops most_stops) e₂);
      rows_most = leb-true h.rows most_rows (both_right most (leb h.rows most_rows) e₃);
      classes_least = leb-true fewest_classes h.classes (both_right rows (leb fewest_classes h.classes) e₄);
      classes_most = leb-true h.classes most_classes (both_right classes (leb h.classes most_classes) e);
    }

three_equal : (a b c d x y : ℕ) → (eqb a b && eqb c d && eqb x y) ≡ true → (a ≡ b) × (c ≡ d) × (x ≡ y)
three_equal a b c d x y e =
    let two = both_left (eqb a b && eqb c d) (eqb x y) e in (
      eqb-true a b (both_left (eqb a b) (eqb c d) two),
      eqb-true c d (both_right (eqb a b) (eqb c d) two),
      eqb-true x y (both_right (eqb a b && eqb c d) (eqb x y) e),
    )

pub joined_gives : (rows rows_end tables ends end : ℕ) → sections_join rows rows_end tables ends end ≡ true
    → Joins rows rows_end tables ends end
unfolding sections_join
joined_gives rows rows_end tables ends end e =
    elim (either (eqb rows 0 && eqb tables rows_end && eqb ends end) (eqb tables 0 && eqb rows ends && eqb rows_end end) e)
    [ inl p ↦ inl (three_equal rows 0 tables rows_end ends end p) | inr p ↦ inr (three_equal tables 0 rows ends rows_end end p) ]

-- joined sections lie ahead of the trailer
sections_inside : (rows rows_end tables ends end : ℕ) → Joins rows rows_end tables ends end → rows ≤ rows_end → tables ≤ ends
    → (rows_end ≤ end) × (ends ≤ end)
sections_inside rows rows_end tables ends end (inl j) p q = (omega arith, omega arith)
sections_inside rows rows_end tables ends end (inr j) p q = (omega arith, omega arith)

sections_kept : (f : Format) (s : List ℕ) (h : Trailer) → joined f s h ≡ true
    → Joins h.rowstart (h.rowstart + f.width * h.rows) h.tablestart (tables_end s h.tablestart h.classes) (trailer_start f s)
unfolding joined
sections_kept f s h e =
    joined_gives h.rowstart (h.rowstart + f.width * h.rows) h.tablestart (tables_end s h.tablestart h.classes)
    (trailer_start f s) e

trailer_ends : (f : Format) (s : List ℕ) → f.trailer ≤ length s → trailer_start f s + f.trailer ≡ length s
unfolding trailer_start
trailer_ends f s h = omega arith

-- the four tests behind the sections' verdict
pub sections_tests : (f : Format) (s : List ℕ) → sections_verdict f s ≡ fine
    → (length_rule f s ≡ true) × (trailer_rule f (trailer_of f s) ≡ true)
    × (classes_verdict f s (trailer_start f s) 0 (trailer_of f s).tablestart (trailer_of f s).classes ≡ fine) × (joined f s (trailer_of f s) ≡ true)
unfolding sections_verdict
sections_tests f s e =
    let h = trailer_of f s in
    let classes = classes_verdict f s (trailer_start f s) 0 h.tablestart h.classes in
    let join = unless (joined f s h) 2 0 in
    let range = unless (trailer_rule f h) 1 0 in
    let size = unless (length_rule f s) 1 0 in
    let e₁ = second_fine size (or_else range (or_else classes join)) e in
    let e₂ = second_fine range (or_else classes join) e₁ in (
      rule_holds (length_rule f s) 1 0 (first_fine size (or_else range (or_else classes join)) e),
      rule_holds (trailer_rule f h) 1 0 (first_fine range (or_else classes join) e₁),
      first_fine classes join e₂,
      rule_holds (joined f s h) 2 0 (second_fine classes join e₂),
    )

decoded_tables : (f : Format) (s : List ℕ) → (decode f s).tables ≡ tables_from s (trailer_of f s).tablestart (trailer_of f s).classes
unfolding decode
decoded_tables f s = refl

-- all that a fine trailer tells
pub trailer_gives : (f : Format) (s : List ℕ) → sections_verdict f s ≡ fine → TrailerSound f s
trailer_gives f s e =
    let h = trailer_of f s in
    let tests = sections_tests f s e in
    let range = range_gives f s h tests.0 tests.1 in
    let sections = sections_kept f s h tests.3 in
    let inside =
    sections_inside h.rowstart (h.rowstart + f.width * h.rows) h.tablestart (tables_end s h.tablestart h.classes)
    (trailer_start f s) sections (omega arith) (tables_forward s h.tablestart h.classes)
    in
    record {
      in_range = range;
      sections = sections;
      rows_inside = inside.0;
      tables_inside = inside.1;
      trailer_last = λ small. trailer_ends f s (omega (arith, range.not_short));
      class_sound = classes_give f s (trailer_start f s) 0 h.tablestart h.classes tests.2;
      tables_count = ap length (decoded_tables f s) ∙ tables_length s h.tablestart h.classes;
      table_read =
          λ k inside. ap (λ tables. get_or tables k []) (decoded_tables f s) ∙ table_of_block s h.tablestart h.classes k inside;
    }
