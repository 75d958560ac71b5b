-- Every byte that the encoder writes is below 256: `encode_bytes`. Assumes nothing.
use Prim.Native.Nat.{ℕ, zero, suc, ◌*◌, ◌/◌, ◌%◌, ◌<◌}
use mathlib.Core.List.{List, [], ◌∷◌, ◌++◌}
use native.Mathlib.Nat.{le_of_suc-le-suc, not-suc-le-zero}
use native.Mathlib.Omega.{arith}
use lib.ListN.{length, get_or}
use Rattle.timetable.specs.Timetable.{Timetable, maximum_delay}
use Rattle.timetable.specs.declared.Row.{Row}
use Rattle.file_layout.specs.declared.Format.{Format}
use Rattle.numbers.specs.Bytes.{Bytes}
use Rattle.numbers.specs.Numbers.{u16_bytes, u32_bytes}
use Rattle.file_encoding.specs.Encode.{row_bytes, rows_bytes, shares_bytes, table_bytes, tables_bytes, trailer_bytes, encode}

none : Bytes []
none = record { byte = λ i h. absurd (not-suc-le-zero h) }

one_more : (x : ℕ) (s : List ℕ) → x < 256 → Bytes s → Bytes (x ∷ s)
one_more x s small b = record { byte = at }
  where
    at : (i : ℕ) → i < length (x ∷ s) → get_or (x ∷ s) i 0 < 256
    at zero h = small
    at (suc i) h = b.byte i (le_of_suc-le-suc h)

tail_bytes : (x : ℕ) (s : List ℕ) → Bytes (x ∷ s) → Bytes s
tail_bytes x s b = record { byte = λ i h. b.byte (suc i) (omega arith) }

-- what stands behind bytes is bytes with them
joined_bytes : (a b : List ℕ) → Bytes a → Bytes b → Bytes (a ++ b)
joined_bytes [] b p q = q
joined_bytes (x ∷ a) b p q = one_more x (a ++ b) (p.byte 0 (omega arith)) (joined_bytes a b (tail_bytes x a p) q)

u16_written_bytes : (x : ℕ) → Bytes (u16_bytes x)
unfolding u16_bytes
u16_written_bytes x =
    one_more (x % 256) (x / 256 % 256 ∷ []) (omega arith) (one_more (x / 256 % 256) [] (omega arith) none)

u16_ahead : (x : ℕ) (rest : List ℕ) → Bytes rest → Bytes (u16_bytes x ++ rest)
u16_ahead x rest b = joined_bytes (u16_bytes x) rest (u16_written_bytes x) b

u32_written_bytes : (x : ℕ) → Bytes (u32_bytes x)
unfolding u32_bytes
u32_written_bytes x = u16_ahead (x % 65536) (u16_bytes (x / 65536)) (u16_written_bytes (x / 65536))

row_bytes_lem : (r : Row) → Bytes (row_bytes r)
unfolding row_bytes
row_bytes_lem r =
    u16_ahead r.board _
    (u16_ahead r.land _
    (u16_ahead r.departure _
    (u16_ahead r.arrival _ (u16_ahead r.trip (u16_bytes r.class) (u16_written_bytes r.class)))))

rows_bytes_lem : (rows : List Row) → Bytes (rows_bytes rows)
unfolding rows_bytes
rows_bytes_lem [] = none
rows_bytes_lem (r ∷ rows) = joined_bytes (row_bytes r) (rows_bytes rows) (row_bytes_lem r) (rows_bytes_lem rows)

shares_bytes_lem : (shares : List ℕ) → Bytes (shares_bytes shares)
unfolding shares_bytes
shares_bytes_lem [] = none
shares_bytes_lem (p ∷ shares) = u16_ahead p (shares_bytes shares) (shares_bytes_lem shares)

tables_bytes_lem : (tables : List (List ℕ)) → Bytes (tables_bytes tables)
unfolding tables_bytes table_bytes
tables_bytes_lem [] = none
tables_bytes_lem (shares ∷ tables) =
    joined_bytes (table_bytes shares) (tables_bytes tables)
    (u16_ahead (maximum_delay shares) (shares_bytes shares) (shares_bytes_lem shares)) (tables_bytes_lem tables)

trailer_bytes_lem : (f : Format) (t : Timetable) → Bytes (trailer_bytes f t)
unfolding trailer_bytes
trailer_bytes_lem f t =
    u16_ahead f.version _
    (u16_ahead t.stops _
    (u16_ahead (length t.rows) _
    (u16_ahead (length t.tables) _
    (joined_bytes (u32_bytes 0) (u32_bytes (f.width * length t.rows)) (u32_written_bytes 0)
    (u32_written_bytes (f.width * length t.rows))))))

pub encode_bytes : (f : Format) (t : Timetable) → Bytes (encode f t)
unfolding encode
encode_bytes f t =
    joined_bytes (rows_bytes t.rows) (tables_bytes t.tables ++ trailer_bytes f t) (rows_bytes_lem t.rows)
    (joined_bytes (tables_bytes t.tables) (trailer_bytes f t) (tables_bytes_lem t.tables) (trailer_bytes_lem f t))
