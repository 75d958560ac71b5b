-- A file that keeps all rules has a fine verdict: the check refuses nothing else. Assumes nothing.
use Prim.Native.Nat.{ℕ, zero, suc, ◌+◌, ◌*◌, ◌≤◌, ◌<◌}
use mathlib.Core.Bool.{true, ◌&&◌, ◌||◌}
use mathlib.Core.List.{List, []}
use mathlib.Core.Logic.{inl, inr}
use mathlib.Core.Path.{◌≡◌, refl, ap}
use native.Mathlib.Omega.{arith}
use lib.Dec.{leb, eqb}
use lib.ListN.{length}
use borrow.Author.Tests.{le-leb, eq-eqb}
use Rattle.laws.proofs.Tests.{ifb, both}
use Rattle.timetable.specs.Verdict.{fine, or_else, unless}
use Rattle.timetable.specs.Classes.{sum, share_total, last_share, shares_rule}
use Rattle.timetable.specs.Rows.{rows_verdict}
use Rattle.timetable.proofs.Verdicts.{both_fine, holding_fine}
use Rattle.file_encoding.proofs.RowsFine.{rows_fine}
use Rattle.file_layout.specs.declared.Format.{Format}
use Rattle.file_layout.specs.declared.Trailer.{Trailer}
use Rattle.timetable.specs.Limits.{fewest_stops, most_stops, most_rows, fewest_classes, most_classes}
use Rattle.numbers.specs.Numbers.{u16_at}
use Rattle.file_layout.specs.Decode.{trailer_start, trailer_of, table_at, block_end, tables_end, decode}
use Rattle.file_layout.specs.Check.{length_rule, trailer_rule, class_verdict, classes_verdict, sections_join, joined, sections_verdict, ranges_of, file_verdict}
use Rattle.file_layout.specs.Sound.{block_at, ClassSound, InRange, Joins, TrailerSound, SoundFile}

length_rule_kept : (f : Format) (s : List ℕ) (h : Trailer) → InRange f s h → length_rule f s ≡ true
unfolding length_rule
length_rule_kept f s h range =
    both (le-leb f.fewestbytes (length s) range.not_short) (le-leb (length s) f.mostbytes range.not_long)

trailer_rule_kept : (f : Format) (s : List ℕ) (h : Trailer) → InRange f s h → trailer_rule f h ≡ true
unfolding trailer_rule
trailer_rule_kept f s h range =
    both (both (both (both (both (eq-eqb h.version f.version range.version) (le-leb fewest_stops h.stops range.stops_least))
    (le-leb h.stops most_stops range.stops_most)) (le-leb h.rows most_rows range.rows_most))
    (le-leb fewest_classes h.classes range.classes_least)) (le-leb h.classes most_classes range.classes_most)

shares_rule_kept : (shares : List ℕ) → sum shares ≡ share_total → 1 ≤ last_share shares → shares_rule shares ≡ true
unfolding shares_rule
shares_rule_kept shares total last = both (eq-eqb (sum shares) share_total total) (le-leb 1 (last_share shares) last)

class_fine : (f : Format) (s : List ℕ) (end k at : ℕ) → ClassSound f s end at → class_verdict f s end k at ≡ fine
unfolding class_verdict
class_fine f s end k at c =
    let shares = unless (shares_rule (table_at s at)) 3 k in
    let block = unless (leb (block_end s at) end) 2 0 in
    let delay = unless (leb (u16_at s at) f.delay) 3 k in
    both_fine (unless (leb (at + 2) end) 2 0) (or_else delay (or_else block shares))
    (holding_fine (leb (at + 2) end) 2 0 (le-leb (at + 2) end c.delay_inside))
    (both_fine delay (or_else block shares)
    (holding_fine (leb (u16_at s at) f.delay) 3 k (le-leb (u16_at s at) f.delay c.delay_small))
    (both_fine block shares (holding_fine (leb (block_end s at) end) 2 0 (le-leb (block_end s at) end c.block_inside))
    (holding_fine (shares_rule (table_at s at)) 3 k (shares_rule_kept (table_at s at) c.shares_whole c.last_counts))))

classes_fine : (f : Format) (s : List ℕ) (end k at left : ℕ) → ((j : ℕ) → j < left → ClassSound f s end (block_at s at j))
    → classes_verdict f s end k at left ≡ fine
unfolding classes_verdict block_at
classes_fine f s end k at zero sound = refl
classes_fine f s end k at (suc left) sound =
    both_fine (class_verdict f s end k at) (classes_verdict f s end (suc k) (block_end s at) left)
    (class_fine f s end k at (sound 0 (omega arith)))
    (classes_fine f s end (suc k) (block_end s at) left (λ j h. sound (suc j) (omega arith)))

sections_join_lem : (rows rows_end tables ends end : ℕ) → Joins rows rows_end tables ends end
    → sections_join rows rows_end tables ends end ≡ true
unfolding sections_join
sections_join_lem rows rows_end tables ends end (inl j) =
    ap (λ first. first || (eqb tables 0 && eqb rows ends && eqb rows_end end))
    (both (both (eq-eqb rows 0 j.0) (eq-eqb tables rows_end j.1)) (eq-eqb ends end j.2))
sections_join_lem rows rows_end tables ends end (inr j) =
    let second = both (both (eq-eqb tables 0 j.0) (eq-eqb rows ends j.1)) (eq-eqb rows_end end j.2) in
    ifb (λ first. (first || (eqb tables 0 && eqb rows ends && eqb rows_end end)) ≡ true)
    (eqb rows 0 && eqb tables rows_end && eqb ends end) (λ e. refl) (λ e. second)

sections_joined : (f : Format) (s : List ℕ) → TrailerSound f s → joined f s (trailer_of f s) ≡ true
unfolding joined
sections_joined f s sound =
    let h = trailer_of f s in
    sections_join_lem h.rowstart (h.rowstart + f.width * h.rows) h.tablestart (tables_end s h.tablestart h.classes)
    (trailer_start f s) sound.sections

-- a trailer that keeps all rules is fine
pub sections_fine : (f : Format) (s : List ℕ) → TrailerSound f s → sections_verdict f s ≡ fine
unfolding sections_verdict
sections_fine f s sound =
    let h = trailer_of f s in
    let classes = classes_verdict f s (trailer_start f s) 0 h.tablestart h.classes in
    let join = unless (joined f s h) 2 0 in
    let range = unless (trailer_rule f h) 1 0 in
    both_fine (unless (length_rule f s) 1 0) (or_else range (or_else classes join))
    (holding_fine (length_rule f s) 1 0 (length_rule_kept f s h sound.in_range))
    (both_fine range (or_else classes join) (holding_fine (trailer_rule f h) 1 0 (trailer_rule_kept f s h sound.in_range))
    (both_fine classes join (classes_fine f s (trailer_start f s) 0 h.tablestart h.classes sound.class_sound)
    (holding_fine (joined f s h) 2 0 (sections_joined f s sound))))

-- a file that keeps all rules is fine
pub sound_fine : (f : Format) (s : List ℕ) → SoundFile f s → file_verdict f s ≡ fine
unfolding file_verdict
sound_fine f s sound =
    both_fine (sections_verdict f s) (rows_verdict (ranges_of f (trailer_of f s)) [] 0 (decode f s).rows) (sections_fine f s sound.trailer)
    (rows_fine (ranges_of f (trailer_of f s)) (decode f s).rows sound.rows)
