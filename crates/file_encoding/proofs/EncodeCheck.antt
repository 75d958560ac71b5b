-- What the check says of a written file: the trailer is fine, and the answer is the verdict on the timetable's own rows. Assumes nothing.
use Prim.Native.Nat.{ℕ, suc, ◌+◌, ◌*◌, ◌<◌, ◌≤◌, suc-le-suc}
use mathlib.Core.Bool.{true}
use mathlib.Core.List.{List, [], ◌∷◌, ◌++◌}
use mathlib.Core.Path.{◌≡◌, refl, sym, ap, ◌∙◌}
use mathlib.Core.Logic.{◌↔◌}
use native.Mathlib.Nat.{zero-lt-suc}
use native.Mathlib.Omega.{arith}
use lib.Dec.{leb}
use lib.ListN.{length, drop}
use borrow.Author.Tests.{le-leb, eq-eqb}
use Rattle.laws.proofs.Tests.{both}
use Rattle.timetable.specs.Timetable.{Timetable, maximum_delay, shares_of}
use Rattle.timetable.specs.Verdict.{fine}
use Rattle.timetable.specs.Classes.{shares_rule}
use Rattle.timetable.specs.Rows.{rows_verdict}
use Rattle.file_layout.specs.declared.Format.{Format}
use Rattle.file_layout.specs.declared.Trailer.{Trailer}
use Rattle.std.specs.Prelude.{Ok}
use Rattle.timetable.specs.Limits.{fewest_stops, most_stops, most_rows, fewest_classes, most_classes}
use Rattle.numbers.specs.Numbers.{u16_at}
use Rattle.file_layout.specs.Decode.{trailer_start, trailer_of, table_at, block_end, tables_end}
use Rattle.file_layout.specs.Check.{length_rule, trailer_rule, class_verdict, classes_verdict, sections_join, joined, sections_verdict, ranges_of, file_verdict, answered, checked_as}
use Rattle.file_encoding.specs.Encode.{tables_bytes, trailer_bytes, encode}
use Rattle.file_encoding.specs.Writable.{Writable, WritableTable, WithinLimits, block_size, tables_size, trailer_for}
use Rattle.file_layout.proofs.Sound.{sound_checked}
use Rattle.file_encoding.proofs.Sizes.{length_encode}
use Rattle.file_encoding.proofs.Written.{BlockAt, first_block, tables_end_lem}
use Rattle.file_encoding.proofs.Encode.{rows_end_lem, trailer_at_lem, trailer_encode, tables_start, decode_encode}

-- a class block that ends by `end` and keeps its rules is fine
pub class_fine : (f : Format) (s : List ℕ) (end k at : ℕ) (shares rest : List ℕ)
    → BlockAt s at shares rest → at + block_size shares ≤ end → maximum_delay shares ≤ f.delay → shares_rule shares ≡ true
    → class_verdict f s end k at ≡ fine
unfolding class_verdict block_size
class_fine f s end k at shares rest b fits delay rule =
    let two : leb (at + 2) end ≡ true = le-leb (at + 2) end (omega arith) in
    let short : leb (u16_at s at) f.delay ≡ true = ap (λ (m : ℕ). leb m f.delay) b.delay ∙ le-leb (maximum_delay shares) f.delay delay in
    let inside : leb (block_end s at) end ≡ true = ap (λ (m : ℕ). leb m end) b.ends ∙ le-leb (at + (2 + 2 * length shares)) end fits in
    let sums : shares_rule (table_at s at) ≡ true = ap shares_rule b.table ∙ rule in
    cc

classes_fine : (tables : List (List ℕ)) (f : Format) (s : List ℕ) (end k at : ℕ) (rest : List ℕ)
    → ((j : ℕ) → j < length tables → WritableTable (shares_of tables j))
    → ((j : ℕ) → j < length tables → maximum_delay (shares_of tables j) ≤ f.delay)
    → ((j : ℕ) → j < length tables → shares_rule (shares_of tables j) ≡ true) → at + tables_size tables ≤ end
    → drop at s ≡ tables_bytes tables ++ rest → classes_verdict f s end k at (length tables) ≡ fine
unfolding classes_verdict tables_size
classes_fine [] f s end k at rest w delays rules fits e = refl
classes_fine (shares ∷ tables) f s end k at rest w delays rules fits e =
    let now = zero-lt-suc (length tables) in
    let block = first_block shares tables s at rest (w 0 now) e in
    let first : class_verdict f s end k at ≡ fine =
    class_fine f s end k at shares (tables_bytes tables ++ rest) block (omega arith) (delays 0 now) (rules 0 now)
    in
    let others : classes_verdict f s end (suc k) (block_end s at) (length tables) ≡ fine =
    classes_fine
    tables
    f
    s
    end
    (suc k)
    (block_end s at)
    rest
    (λ j h. w (suc j) (suc-le-suc h))
    (λ j h. delays (suc j) (suc-le-suc h))
    (λ j h. rules (suc j) (suc-le-suc h))
    (omega (arith, block.ends))
    block.behind
    in
    cc

length_fine : (f : Format) (t : Timetable) → WithinLimits f t → length_rule f (encode f t) ≡ true
unfolding length_rule
length_fine f t r =
    let size = length_encode f t in
    both
    (le-leb f.fewestbytes (length (encode f t)) (omega (arith, r.not_short)))
    (le-leb (length (encode f t)) f.mostbytes (omega (arith, r.not_long)))

ranges_fine : (f : Format) (t : Timetable) → WithinLimits f t → trailer_rule f (trailer_for f t) ≡ true
unfolding trailer_rule trailer_for
ranges_fine f t r =
    both
    (both
    (both
    (both
    (both (eq-eqb f.version f.version refl) (le-leb fewest_stops t.stops r.enough_stops))
    (le-leb t.stops most_stops r.few_stops))
    (le-leb (length t.rows) most_rows r.few_rows))
    (le-leb fewest_classes (length t.tables) r.enough_classes))
    (le-leb (length t.tables) most_classes r.few_classes)

-- rows first, then class blocks, then the trailer
rows_first : (rows_end tables ends end : ℕ) → tables ≡ rows_end → ends ≡ end → sections_join 0 rows_end tables ends end ≡ true
unfolding sections_join
rows_first rows_end tables ends end p q =
    let start = eq-eqb tables rows_end p in
    let finish = eq-eqb ends end q in
    cc

join_fine : (f : Format) (t : Timetable) → Writable f t → joined f (encode f t) (trailer_for f t) ≡ true
unfolding joined trailer_for
join_fine f t w =
    let start = f.width * length t.rows in
    let ends = tables_end_lem t.tables (encode f t) start (trailer_bytes f t) w.each_table (tables_start f t w) in
    rows_first
    (0 + start)
    start
    (tables_end (encode f t) start (length t.tables))
    (trailer_start f (encode f t))
    (omega arith)
    (omega (arith, ends, rows_end_lem f t w, trailer_at_lem f t w))

tables_fine : (f : Format) (t : Timetable) → Writable f t → WithinLimits f t
    → classes_verdict f (encode f t) (trailer_start f (encode f t)) 0 (f.width * length t.rows) (length t.tables) ≡ fine
tables_fine f t w r =
    classes_fine
    t.tables
    f
    (encode f t)
    (trailer_start f (encode f t))
    0
    (f.width * length t.rows)
    (trailer_bytes f t)
    w.each_table
    r.delays
    r.shares
    (omega (arith, rows_end_lem f t w, trailer_at_lem f t w))
    (tables_start f t w)

-- a trailer whose every rule is kept is fine
rules_kept : (f : Format) (s : List ℕ) (h : Trailer) → trailer_of f s ≡ h → length_rule f s ≡ true → trailer_rule f h ≡ true
    → classes_verdict f s (trailer_start f s) 0 h.tablestart h.classes ≡ fine → joined f s h ≡ true → sections_verdict f s ≡ fine
unfolding sections_verdict
rules_kept f s h trailer sized ranged classes joins = cc

pub sections_accepted : (f : Format) (t : Timetable) → Writable f t → WithinLimits f t → sections_verdict f (encode f t) ≡ fine
unfolding trailer_for
sections_accepted f t w r =
    rules_kept
    f
    (encode f t)
    (trailer_for f t)
    (trailer_encode f t w)
    (length_fine f t r)
    (ranges_fine f t r)
    (tables_fine f t w r)
    (join_fine f t w)

pub verdict_encode : (f : Format) (t : Timetable) → Writable f t → WithinLimits f t
    → file_verdict f (encode f t) ≡ rows_verdict (ranges_of f (trailer_for f t)) [] 0 t.rows
unfolding file_verdict
verdict_encode f t w r =
    let trailer = trailer_encode f t w in
    let accepted = sections_accepted f t w r in
    let read = decode_encode f t w in
    cc

-- the answer is the verdict on the timetable's own rows
pub check_encode : (f : Format) (t : Timetable) → Writable f t → WithinLimits f t
    → checked_as f (encode f t) ≡ answered (trailer_for f t) (rows_verdict (ranges_of f (trailer_for f t)) [] 0 t.rows)
unfolding checked_as
check_encode f t w r =
    let trailer = trailer_encode f t w in
    let verdict = verdict_encode f t w r in
    cc

-- a written file is sound exactly if its rows are fine
pub sound_encode : (f : Format) (t : Timetable) → Writable f t → WithinLimits f t
    → (checked_as f (encode f t) ≡ Ok (trailer_for f t))
    ↔ (rows_verdict (ranges_of f (trailer_for f t)) [] 0 t.rows ≡ fine)
unfolding answered trailer_for
sound_encode f t w r = (
  (λ sound. sym (verdict_encode f t w r) ∙ (sound_checked f (encode f t) (trailer_for f t) sound).0),
  (λ rows. check_encode f t w r ∙ ap (answered (trailer_for f t)) rows),
)
