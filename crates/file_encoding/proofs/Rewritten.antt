-- A sound file, whichever section stands first, can be written anew, and what is written is as sound. Assumes nothing.
use Prim.Native.Nat.{ℕ, zero, suc, pred, ◌+◌, ◌*◌, ◌<◌, ◌≤◌}
use mathlib.Core.Bool.{true}
use mathlib.Core.List.{List, [], ◌∷◌}
use mathlib.Core.Logic.{inl, inr}
use mathlib.Core.Path.{◌≡◌, sym, ap, subst, ◌∙◌}
use native.Mathlib.Nat.{add-zero, add_assoc}
use native.Mathlib.Omega.{arith}
use lib.Dec.{lit<}
use lib.ListN.{length, get_or}
use borrow.Author.Tests.{le-leb, eq-eqb}
use Rattle.laws.proofs.Tests.{both}
use Rattle.timetable.specs.Timetable.{maximum_delay, shares_of}
use Rattle.timetable.specs.Verdict.{fine}
use Rattle.timetable.specs.Classes.{sum, share_total, last_share, shares_rule}
use Rattle.timetable.specs.Rows.{rows_verdict}
use Rattle.file_layout.specs.declared.Format.{Format}
use Rattle.file_layout.specs.declared.Trailer.{Trailer}
use Rattle.std.specs.Prelude.{Ok}
use Rattle.file_layout.specs.Format.{Readable}
use Rattle.file_layout.specs.Small.{SmallRow}
use Rattle.numbers.specs.Bytes.{Bytes}
use Rattle.numbers.specs.Numbers.{u16_at}
use Rattle.file_layout.specs.Decode.{trailer_start, trailer_at, trailer_of, row_at, shares_from, table_at, block_end, tables_from, tables_end, decode}
use Rattle.file_encoding.specs.Encode.{encode}
use Rattle.file_layout.specs.Check.{joined, file_verdict, ranges_of, checked_as, answer_of}
use Rattle.file_encoding.specs.Writable.{Plain, WritableTable, Writable, WithinLimits, block_size, tables_size, file_size, trailer_for}
use Rattle.file_layout.proofs.Blocks.{table_has}
use Rattle.file_layout.proofs.TrailerSound.{joined_gives, sections_tests}
use Rattle.file_layout.proofs.Sound.{sound_gives, sound_checked, fine_answered, file_tests}
use Rattle.file_layout.specs.Sound.{block_at, SharesSound, SoundFile}
use Rattle.numbers.proofs.Bytes.{u16_small}
use Rattle.file_encoding.proofs.EncodeCheck.{sound_encode}

-- numbers that were read fit their bytes
row_small : (s : List ℕ) (at : ℕ) → Bytes s → SmallRow (row_at s at)
unfolding row_at
row_small s at b =
    record {
      board = u16_small s at b;
      land = u16_small s (at + 2) b;
      departure = u16_small s (at + 4) b;
      arrival = u16_small s (at + 6) b;
      trip = u16_small s (at + 8) b;
      class = u16_small s (at + 10) b;
    }

share_small : (s : List ℕ) (at n v : ℕ) → Bytes s → v < n → get_or (shares_from s at n) v 0 < 65536
unfolding shares_from
share_small s at zero v b h = lit< tt
share_small s at (suc n) zero b h = u16_small s at b
share_small s at (suc n) (suc v) b h = share_small s (at + 2) n v b (omega arith)

table_small : (s : List ℕ) (at : ℕ) → Bytes s → WritableTable (table_at s at)
unfolding table_at
table_small s at b =
    let has = table_has s at in
    record {
      some = omega arith;
      delay = omega (arith, ap pred has, u16_small s at b);
      each_share = λ v h. share_small s (at + 2) (suc (u16_at s at)) v b (omega arith);
    }

trailer_small : (f : Format) (s : List ℕ) → Bytes s
    → ((trailer_of f s).version < 65536) × ((trailer_of f s).stops < 65536) × ((trailer_of f s).rows < 65536) × ((trailer_of f s).classes < 65536)
unfolding trailer_of trailer_at
trailer_small f s b =
    let at = trailer_start f s in
    (u16_small s at b, u16_small s (at + 2) b, u16_small s (at + 4) b, u16_small s (at + 6) b)

-- the timetable of a sound file can be written
pub sound_writable : (f : Format) (s : List ℕ) → Plain f → Bytes s → SoundFile f s → Writable f (decode f s)
sound_writable f s p b sound =
    let small = trailer_small f s b in
    record {
      plain = p;
      version = omega (arith, small.0, sound.trailer.in_range.version);
      stops = omega (arith, small.1, sound.stops_read);
      rows = omega (arith, small.2, sound.rows_count);
      tables = omega (arith, small.3, sound.tables_count);
      each_row =
          λ i h. subst SmallRow (sym (sound.row_read i (omega (arith, sound.rows_count))))
          (row_small s ((trailer_of f s).rowstart + f.width * i) b);
      each_table =
          λ k h. subst WritableTable (sym (sound.trailer.table_read k (omega (arith, sound.tables_count))))
          (table_small s (block_at s (trailer_of f s).tablestart k) b);
    }

-- the class blocks that were read are as long as they lie
block_measure : (s : List ℕ) (at : ℕ) → at + block_size (table_at s at) ≡ block_end s at
unfolding block_size block_end
block_measure s at = omega (arith, table_has s at)

tables_measure : (s : List ℕ) (at k : ℕ) → at + tables_size (tables_from s at k) ≡ tables_end s at k
unfolding tables_size tables_from tables_end
tables_measure s at zero = add-zero at
tables_measure s at (suc k) =
    sym (add_assoc at (block_size (table_at s at)) (tables_size (tables_from s (block_end s at) k)))
    ∙ ap (λ (n : ℕ). n + tables_size (tables_from s (block_end s at) k)) (block_measure s at)
    ∙ tables_measure s (block_end s at) k

-- two sections, whichever stands first, and no byte between them
sections_fill : (f : Format) (s : List ℕ) (h : Trailer) (size : ℕ) → joined f s h ≡ true
    → h.tablestart + size ≡ tables_end s h.tablestart h.classes → f.width * h.rows + size ≡ trailer_start f s
unfolding joined
sections_fill f s h size join measure =
    elim
    (joined_gives h.rowstart (h.rowstart + f.width * h.rows) h.tablestart (tables_end s h.tablestart h.classes)
    (trailer_start f s) join)
    [ inl j ↦ omega arith | inr j ↦ omega arith ]

pub size_kept : (f : Format) (s : List ℕ) → Plain f → SoundFile f s → joined f s (trailer_of f s) ≡ true
    → file_size (decode f s) ≡ length s
unfolding file_size decode
size_kept f s p sound join =
    let h = trailer_of f s in
    let size = tables_size (tables_from s h.tablestart h.classes) in
    let fill = sections_fill f s h size join (tables_measure s h.tablestart h.classes) in
    let twelve : f.width * h.rows ≡ 12 * h.rows = ap (λ (n : ℕ). n * h.rows) p.width in
    omega (arith, fill, twelve, sound.rows_count, sound.trailer_last, p.trailer)

rule_kept : (f : Format) (shares : List ℕ) → SharesSound f shares → shares_rule shares ≡ true
unfolding shares_rule
rule_kept f shares c = both (eq-eqb (sum shares) share_total c.shares_whole) (le-leb 1 (last_share shares) c.last_counts)

delay_kept : (f : Format) (shares : List ℕ) → SharesSound f shares → maximum_delay shares ≤ f.delay
delay_kept f shares c = let h : pred (length shares) ≤ f.delay = omega (arith, c.few_shares) in h

pub sound_within : (f : Format) (s : List ℕ) → Plain f → Readable f → file_verdict f s ≡ fine → WithinLimits f (decode f s)
sound_within f s p readable e =
    let sound = sound_gives f s readable e in
    let range = sound.trailer.in_range in
    let size = size_kept f s p sound (sections_tests f s (file_tests f s e).0).3 in
    let shares : (k : ℕ) → k < length (decode f s).tables → SharesSound f (shares_of (decode f s).tables k) =
    λ k h. sound.class_shares k (omega (arith, sound.tables_count))
    in
    record {
      not_short = omega (arith, size, range.not_short);
      not_long = omega (arith, size, range.not_long);
      enough_stops = omega (arith, sound.stops_read, range.stops_least);
      few_stops = omega (arith, sound.stops_read, range.stops_most);
      few_rows = omega (arith, sound.rows_count, range.rows_most);
      enough_classes = omega (arith, sound.tables_count, range.classes_least);
      few_classes = omega (arith, sound.tables_count, range.classes_most);
      delays = λ k h. delay_kept f (shares_of (decode f s).tables k) (shares k h);
      shares = λ k h. rule_kept f (shares_of (decode f s).tables k) (shares k h);
    }

-- what the rows are held to stays the same
ranges_kept : (f : Format) (s : List ℕ) → SoundFile f s → ranges_of f (trailer_for f (decode f s)) ≡ ranges_of f (trailer_of f s)
unfolding trailer_for
ranges_kept f s sound =
    λ i. record { stops = sound.stops_read i; classes = sound.tables_count i; lastminute = f.lastminute }

-- a sound file, written anew, gets the same answer
pub sound_again : (f : Format) (s : List ℕ) (h : Trailer) → Plain f → Readable f → Bytes s → checked_as f s ≡ Ok h
    → answer_of (checked_as f (encode f (decode f s))) ≡ answer_of (checked_as f s)
unfolding answer_of trailer_for
sound_again f s h p readable b answer =
    let told = sound_checked f s h answer in
    let sound = sound_gives f s readable told.0 in
    let fine_rows = (file_tests f s told.0).1 in
    let held = ap (λ g. rows_verdict g [] 0 (decode f s).rows) (ranges_kept f s sound) ∙ fine_rows in
    let again = (sound_encode f (decode f s) (sound_writable f s p b sound) (sound_within f s p readable told.0)).1 held in
    ap answer_of again
    ∙ (λ i. record { number = 0; place = 0; values = sound.stops_read i ∷ sound.rows_count i ∷ sound.tables_count i ∷ [] })
    ∙ sym (ap answer_of (fine_answered f s told.0))
