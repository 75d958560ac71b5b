-- A timetable that was written is read as it was: `decode_encode`. Assumes nothing.
use Prim.Native.Nat.{ℕ, ◌+◌, ◌*◌, ◌<◌}
use mathlib.Core.List.{List, ◌++◌}
use mathlib.Core.Path.{◌≡◌, refl, sym, ap, ◌∙◌}
use native.Mathlib.Nat.{zero-add}
use native.Mathlib.Omega.{arith}
use lib.ListN.{length, drop}
use Rattle.laws.proofs.Lists.{drop_past}
use Rattle.timetable.specs.Timetable.{Timetable}
use Rattle.file_layout.specs.declared.Format.{Format}
use Rattle.file_layout.specs.declared.Trailer.{Trailer}
use Rattle.numbers.specs.Numbers.{u16_at, u32_at, u16_bytes, u32_bytes}
use Rattle.file_layout.specs.Decode.{trailer_start, trailer_at, trailer_of, rows_from, tables_from, decode}
use Rattle.file_encoding.specs.Encode.{rows_bytes, tables_bytes, trailer_bytes, encode}
use Rattle.file_encoding.specs.Writable.{Writable, tables_size, file_size, trailer_for}
use Rattle.numbers.proofs.Bytes.{u16_value, u32_value, u16_here, u16_from, u32_from}
use Rattle.file_encoding.proofs.Sizes.{rows_size, tables_size_lem, length_encode}
use Rattle.file_encoding.proofs.Written.{rows_written, tables_written}

-- trailers are equal by their six numbers
pub same_trailer : (g h : Trailer) → g.version ≡ h.version → g.stops ≡ h.stops → g.rows ≡ h.rows → g.classes ≡ h.classes
    → g.rowstart ≡ h.rowstart → g.tablestart ≡ h.tablestart → g ≡ h
same_trailer g h version stops rows classes rowstart tablestart =
    λ i. record {
      version = version i;
      stops = stops i;
      rows = rows i;
      classes = classes i;
      rowstart = rowstart i;
      tablestart = tablestart i;
    }

trailer_from : (s : List ℕ) (at : ℕ) → trailer_at s at ≡ trailer_at (drop at s) 0
unfolding trailer_at
trailer_from s at =
    cc (u16_here s at, u16_from s at 2, u16_from s at 4, u16_from s at 6, u32_from s at 8, u32_from s at 12)

-- a table offset, and that it never needs more than four bytes
pub rows_end_lem : (f : Format) (t : Timetable) → Writable f t → f.width * length t.rows ≡ 12 * length t.rows
rows_end_lem f t w = ap (λ (n : ℕ). n * length t.rows) w.plain.width

reach : (f : Format) (t : Timetable) → Writable f t → f.width * length t.rows < 4294967296
reach f t w = omega (arith, rows_end_lem f t w, w.rows)

trailer_read : (f : Format) (t : Timetable) → Writable f t → trailer_at (trailer_bytes f t) 0 ≡ trailer_for f t
unfolding trailer_at u16_at u32_at trailer_bytes u16_bytes u32_bytes trailer_for
trailer_read f t w =
    same_trailer
    (trailer_at (trailer_bytes f t) 0)
    (trailer_for f t)
    (u16_value f.version w.version)
    (u16_value t.stops w.stops)
    (u16_value (length t.rows) w.rows)
    (u16_value (length t.tables) w.tables)
    refl
    (u32_value (f.width * length t.rows) (reach f t w))

-- where the parts of a written file stand
tables_here : (f : Format) (t : Timetable)
    → drop (12 * length t.rows) (encode f t) ≡ tables_bytes t.tables ++ trailer_bytes f t
unfolding encode
tables_here f t =
    ap (λ (n : ℕ). drop n (encode f t)) (sym (zero-add (length (rows_bytes t.rows)) ∙ rows_size t.rows))
    ∙ drop_past (encode f t) 0 (rows_bytes t.rows) (tables_bytes t.tables ++ trailer_bytes f t) refl

trailer_here : (f : Format) (t : Timetable)
    → drop (12 * length t.rows + tables_size t.tables) (encode f t) ≡ trailer_bytes f t
trailer_here f t =
    ap (λ (n : ℕ). drop (12 * length t.rows + n) (encode f t)) (sym (tables_size_lem t.tables))
    ∙ drop_past (encode f t) (12 * length t.rows) (tables_bytes t.tables) (trailer_bytes f t) (tables_here f t)

pub trailer_at_lem : (f : Format) (t : Timetable) → Writable f t
    → trailer_start f (encode f t) ≡ 12 * length t.rows + tables_size t.tables
unfolding trailer_start file_size
trailer_at_lem f t w = omega (arith, length_encode f t, w.plain.trailer)

pub trailer_encode : (f : Format) (t : Timetable) → Writable f t → trailer_of f (encode f t) ≡ trailer_for f t
unfolding trailer_of
trailer_encode f t w =
    ap (trailer_at (encode f t)) (trailer_at_lem f t w)
    ∙ trailer_from (encode f t) (12 * length t.rows + tables_size t.tables)
    ∙ ap (λ (l : List ℕ). trailer_at l 0) (trailer_here f t)
    ∙ trailer_read f t w

pub rows_encode : (f : Format) (t : Timetable) → Writable f t → rows_from f.width (encode f t) 0 (length t.rows) ≡ t.rows
unfolding encode
rows_encode f t w =
    ap (λ (width : ℕ). rows_from width (encode f t) 0 (length t.rows)) w.plain.width
    ∙ rows_written t.rows (encode f t) 0 (tables_bytes t.tables ++ trailer_bytes f t) w.each_row refl

-- the class blocks stand where the rows end
pub tables_start : (f : Format) (t : Timetable) → Writable f t
    → drop (f.width * length t.rows) (encode f t) ≡ tables_bytes t.tables ++ trailer_bytes f t
tables_start f t w = ap (λ (n : ℕ). drop n (encode f t)) (rows_end_lem f t w) ∙ tables_here f t

pub tables_encode : (f : Format) (t : Timetable) → Writable f t
    → tables_from (encode f t) (f.width * length t.rows) (length t.tables) ≡ t.tables
tables_encode f t w =
    tables_written
    t.tables
    (encode f t)
    (f.width * length t.rows)
    (trailer_bytes f t)
    w.each_table
    (tables_start f t w)

-- what a file with this trailer decodes to
under : Format → List ℕ → Trailer → Timetable
under f s h =
    record {
      stops = h.stops;
      rows = rows_from f.width s h.rowstart h.rows;
      tables = tables_from s h.tablestart h.classes;
    }

-- what was written is read
pub decode_encode : (f : Format) (t : Timetable) → Writable f t → decode f (encode f t) ≡ t
unfolding decode under trailer_for
decode_encode f t w =
    ap (under f (encode f t)) (trailer_encode f t w)
    ∙ (λ i. record { stops = t.stops; rows = rows_encode f t w i; tables = tables_encode f t w i })
