-- A sound file whose rows stand first is what the encoder writes of its timetable: `encode_decode`. Assumes nothing.
use Prim.Native.Nat.{ℕ, zero, suc, ◌+◌, ◌*◌, ◌<◌, ◌≤◌}
use mathlib.Core.List.{List, ◌++◌}
use mathlib.Core.Bool.{true}
use mathlib.Core.Logic.{inl, inr}
use mathlib.Core.Path.{◌≡◌, refl, sym, ap, ◌∙◌}
use native.Mathlib.Omega.{arith}
use lib.ListN.{length, drop}
use Rattle.timetable.specs.Verdict.{fine}
use Rattle.file_layout.specs.declared.Format.{Format}
use Rattle.file_layout.specs.declared.Trailer.{Trailer}
use Rattle.std.specs.Prelude.{Ok}
use Rattle.file_layout.specs.Format.{Readable, version_one}
use Rattle.file_layout.specs.Check.{joined, sections_verdict, checked_as, checked}
use Rattle.numbers.specs.Bytes.{Bytes}
use Rattle.numbers.specs.Numbers.{u16_at}
use Rattle.file_layout.specs.Decode.{trailer_start, trailer_of, rows_from, block_end, tables_from, tables_end, decode}
use Rattle.file_encoding.specs.Encode.{rows_bytes, tables_bytes, bytes_of_trailer, trailer_bytes, encode}
use Rattle.file_encoding.specs.Writable.{Plain, trailer_for}
use Rattle.file_layout.proofs.Blocks.{tables_length, tables_forward}
use Rattle.file_layout.proofs.FileRows.{rows_length}
use Rattle.file_layout.proofs.TrailerSound.{trailer_gives, joined_gives, sections_tests}
use Rattle.file_encoding.proofs.Encode.{same_trailer}
use Rattle.file_layout.proofs.Sound.{sound_checked, file_tests, version_one_readable}
use Rattle.file_encoding.proofs.ReadAgain.{rows_again, tables_again, trailer_reread}

-- a trailer whose numbers are those of its sections, rows first
pub record RowsFirst (f : Format) (s : List ℕ) : Type 0 where
  pub version : (trailer_of f s).version ≡ f.version
  pub rows_start : (trailer_of f s).rowstart ≡ 0
  pub tables_start : (trailer_of f s).tablestart ≡ f.width * (trailer_of f s).rows
  pub tables_stop : tables_end s (trailer_of f s).tablestart (trailer_of f s).classes ≡ trailer_start f s
  pub trailer_last : trailer_start f s + 16 ≡ length s

-- the trailer of a decoded file
trailer_kept : (f : Format) (s : List ℕ) → RowsFirst f s → trailer_for f (decode f s) ≡ trailer_of f s
unfolding trailer_for decode
trailer_kept f s r =
    let h = trailer_of f s in
    let count = rows_length f.width s h.rowstart h.rows in
    same_trailer
    (trailer_for f (decode f s))
    h
    (sym r.version)
    refl
    count
    (tables_length s h.tablestart h.classes)
    (sym r.rows_start)
    (ap (λ (n : ℕ). f.width * n) count ∙ sym r.tables_start)

trailer_again : (f : Format) (s : List ℕ) → Bytes s → RowsFirst f s → trailer_bytes f (decode f s) ≡ drop (trailer_start f s) s
unfolding trailer_bytes bytes_of_trailer trailer_for trailer_of
trailer_again f s b r = ap bytes_of_trailer (trailer_kept f s r) ∙ trailer_reread s (trailer_start f s) b r.trailer_last

rows_from_start : (s : List ℕ) (width start n tables : ℕ) → Bytes s → width ≡ 12 → start ≡ 0 → tables ≡ width * n → tables ≤ length s
    → rows_bytes (rows_from width s start n) ++ drop tables s ≡ s
rows_from_start s width start n tables b twelve zeroth join h =
    let end : tables ≡ 0 + 12 * n = join ∙ ap (λ (w : ℕ). w * n) twelve ∙ omega arith in
    cc (rows_again s 0 n b (omega arith))

-- a file whose rows stand first is written again
pub first_again : (f : Format) (s : List ℕ) → Plain f → Bytes s → RowsFirst f s → encode f (decode f s) ≡ s
unfolding encode decode
first_again f s p b r =
    let h = trailer_of f s in
    let rows = rows_bytes (rows_from f.width s h.rowstart h.rows) in
    let tables = tables_bytes (tables_from s h.tablestart h.classes) in
    let inside : tables_end s h.tablestart h.classes ≤ length s = omega (arith, r.tables_stop, r.trailer_last) in
    ap (λ (l : List ℕ). rows ++ (tables ++ l)) (trailer_again f s b r ∙ ap (λ (n : ℕ). drop n s) (sym r.tables_stop))
    ∙ ap (λ (l : List ℕ). rows ++ l) (tables_again s h.tablestart h.classes b inside)
    ∙ rows_from_start s f.width h.rowstart h.rows h.tablestart b p.width r.rows_start r.tables_start
    (omega (arith, tables_forward s h.tablestart h.classes))

-- a class block has bytes, so that blocks never end where they start
tables_past : (s : List ℕ) (at k : ℕ) → 1 ≤ k → at < tables_end s at k
unfolding tables_end block_end
tables_past s at zero h = omega arith
tables_past s at (suc k) h = omega (arith, tables_forward s (at + 2 + 2 * suc (u16_at s at)) k)

-- rows at 0 are the first section, since the other is not empty
joined_rows_first : (f : Format) (s : List ℕ) (h : Trailer) → joined f s h ≡ true → 1 ≤ h.classes → h.rowstart ≡ 0
    → (h.tablestart ≡ h.rowstart + f.width * h.rows) × (tables_end s h.tablestart h.classes ≡ trailer_start f s)
unfolding joined
joined_rows_first f s h join some start =
    elim
    (joined_gives
    h.rowstart
    (h.rowstart + f.width * h.rows)
    h.tablestart
    (tables_end s h.tablestart h.classes)
    (trailer_start f s)
    join)
    [ inl j ↦ (j.1, j.2) | inr j ↦ absurd (let z : ⊥ = omega (arith, tables_past s h.tablestart h.classes some) in z) ]

rows_first : (f : Format) (s : List ℕ) → Plain f → Readable f → sections_verdict f s ≡ fine → (trailer_of f s).rowstart ≡ 0 → RowsFirst f s
rows_first f s p readable e start =
    let trailer = trailer_gives f s e in
    let join = joined_rows_first f s (trailer_of f s) (sections_tests f s e).3 trailer.in_range.classes_least start in
    record {
      version = trailer.in_range.version;
      rows_start = start;
      tables_start = join.0 ∙ omega (arith, start);
      tables_stop = join.1;
      trailer_last = omega (arith, trailer.trailer_last readable.file_holds_trailer, p.trailer);
    }

-- what was read of a sound file, rows first, is written as it was
pub encode_decode_as : (f : Format) (s : List ℕ) (h : Trailer) → Plain f → Readable f → Bytes s
    → checked_as f s ≡ Ok h → (trailer_of f s).rowstart ≡ 0 → encode f (decode f s) ≡ s
encode_decode_as f s h p readable b sound start =
    let sections = (file_tests f s (sound_checked f s h sound).0).0 in
    first_again f s p b (rows_first f s p readable sections start)

pub version_one_plain : Plain version_one
version_one_plain = record { trailer = refl; width = refl }

pub encode_decode : (s : List ℕ) (h : Trailer) → Bytes s → checked s ≡ Ok h
    → (trailer_of version_one s).rowstart ≡ 0 → encode version_one (decode version_one s) ≡ s
unfolding checked
encode_decode s h b sound start =
    encode_decode_as version_one s h version_one_plain version_one_readable b sound start
