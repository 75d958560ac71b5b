-- How many bytes the encoder writes: 12 a row, 2 (M + 2) a class block, 16 for the trailer. Assumes nothing.
use Prim.Native.Nat.{ℕ, ◌*◌}
use mathlib.Core.List.{List, [], ◌∷◌, ◌++◌}
use mathlib.Core.Path.{◌≡◌, refl}
use native.Mathlib.Omega.{arith}
use lib.ListN.{length, length-append}
use Rattle.timetable.specs.Timetable.{Timetable, maximum_delay}
use Rattle.timetable.specs.declared.Row.{Row}
use Rattle.file_layout.specs.declared.Format.{Format}
use Rattle.numbers.specs.Numbers.{u16_bytes, u32_bytes}
use Rattle.file_encoding.specs.Encode.{row_bytes, rows_bytes, shares_bytes, table_bytes, tables_bytes, trailer_bytes, encode}
use Rattle.file_encoding.specs.Writable.{block_size, tables_size, file_size}

row_size : (r : Row) → length (row_bytes r) ≡ 12
unfolding row_bytes u16_bytes
row_size r = refl

pub rows_size : (rows : List Row) → length (rows_bytes rows) ≡ 12 * length rows
unfolding rows_bytes
rows_size [] = refl
rows_size (r ∷ rows) =
    omega (arith, length-append (row_bytes r) (rows_bytes rows), row_size r, rows_size rows)

u16_size : (x : ℕ) → length (u16_bytes x) ≡ 2
unfolding u16_bytes
u16_size x = refl

shares_size : (shares : List ℕ) → length (shares_bytes shares) ≡ 2 * length shares
unfolding shares_bytes
shares_size [] = refl
shares_size (p ∷ shares) =
    omega (arith, length-append (u16_bytes p) (shares_bytes shares), u16_size p, shares_size shares)

pub table_size : (shares : List ℕ) → length (table_bytes shares) ≡ block_size shares
unfolding table_bytes block_size
table_size shares =
    omega
    (arith, length-append (u16_bytes (maximum_delay shares)) (shares_bytes shares), u16_size (maximum_delay shares), shares_size shares)

pub tables_size_lem : (tables : List (List ℕ)) → length (tables_bytes tables) ≡ tables_size tables
unfolding tables_bytes tables_size
tables_size_lem [] = refl
tables_size_lem (shares ∷ tables) =
    omega (arith, length-append (table_bytes shares) (tables_bytes tables), table_size shares, tables_size_lem tables)

pub trailer_size : (f : Format) (t : Timetable) → length (trailer_bytes f t) ≡ 16
unfolding trailer_bytes u16_bytes u32_bytes
trailer_size f t = refl

pub length_encode : (f : Format) (t : Timetable) → length (encode f t) ≡ file_size t
unfolding encode file_size
length_encode f t =
    omega (
      arith,
      length-append (rows_bytes t.rows) (tables_bytes t.tables ++ trailer_bytes f t),
      length-append (tables_bytes t.tables) (trailer_bytes f t),
      rows_size t.rows,
      tables_size_lem t.tables,
      trailer_size f t,
    )
