-- Rows, class blocks and the trailer, once written, are read as they were. Assumes nothing.
use Prim.Native.Nat.{ℕ, suc, ◌+◌, ◌*◌, ◌<◌, suc-le-suc}
use mathlib.Core.List.{List, [], ◌∷◌, ◌++◌, append_assoc}
use mathlib.Core.Path.{◌≡◌, refl, sym, ap, ◌∙◌}
use native.Mathlib.Nat.{add-zero, add_assoc, zero-lt-suc, suc-pred-eq_of_pos}
use native.Mathlib.Omega.{arith}
use lib.ListN.{length, get_or, drop}
use Rattle.laws.proofs.Lists.{drop_past}
use Rattle.timetable.specs.Timetable.{maximum_delay, row_of, shares_of}
use Rattle.timetable.specs.declared.Row.{Row}
use Rattle.file_layout.specs.Small.{SmallRow}
use Rattle.numbers.specs.Numbers.{u16_at, u16_bytes}
use Rattle.file_layout.specs.Decode.{row_at, rows_from, shares_from, table_at, block_end, tables_from, tables_end}
use Rattle.file_encoding.specs.Encode.{row_bytes, rows_bytes, shares_bytes, table_bytes, tables_bytes}
use Rattle.file_encoding.specs.Writable.{WritableTable, block_size, tables_size}
use Rattle.file_encoding.proofs.Sizes.{table_size}
use Rattle.numbers.proofs.Bytes.{u16_value, u16_here, u16_from, u16_written}

u16_there : (s : List ℕ) (at x : ℕ) (rest : List ℕ) → x < 65536 → drop at s ≡ u16_bytes x ++ rest → u16_at s at ≡ x
u16_there s at x rest small e = u16_here s at ∙ ap (λ (l : List ℕ). u16_at l 0) e ∙ u16_written x rest small

past_u16 : (s : List ℕ) (at x : ℕ) (rest : List ℕ) → drop at s ≡ u16_bytes x ++ rest → drop (at + 2) s ≡ rest
unfolding u16_bytes
past_u16 s at x rest e = drop_past s at (u16_bytes x) rest e

row_here : (s : List ℕ) (at : ℕ) → row_at s at ≡ row_at (drop at s) 0
unfolding row_at
row_here s at =
    cc (u16_here s at, u16_from s at 2, u16_from s at 4, u16_from s at 6, u16_from s at 8, u16_from s at 10)

-- rows are equal by their six numbers
same_row : (p r : Row) → p.board ≡ r.board → p.land ≡ r.land → p.departure ≡ r.departure → p.arrival ≡ r.arrival
    → p.trip ≡ r.trip → p.class ≡ r.class → p ≡ r
same_row p r board land departure arrival trip class =
    λ i. record {
      board = board i;
      land = land i;
      departure = departure i;
      arrival = arrival i;
      trip = trip i;
      class = class i;
    }

row_read : (r : Row) (rest : List ℕ) → SmallRow r → row_at (row_bytes r ++ rest) 0 ≡ r
unfolding row_at u16_at row_bytes u16_bytes
row_read r rest small =
    same_row
    (row_at (row_bytes r ++ rest) 0)
    r
    (u16_value r.board small.board)
    (u16_value r.land small.land)
    (u16_value r.departure small.departure)
    (u16_value r.arrival small.arrival)
    (u16_value r.trip small.trip)
    (u16_value r.class small.class)

pub row_written : (s : List ℕ) (at : ℕ) (r : Row) (rest : List ℕ) → SmallRow r → drop at s ≡ row_bytes r ++ rest → row_at s at ≡ r
row_written s at r rest small e = row_here s at ∙ ap (λ (l : List ℕ). row_at l 0) e ∙ row_read r rest small

past_row : (s : List ℕ) (at : ℕ) (r : Row) (rest : List ℕ) → drop at s ≡ row_bytes r ++ rest → drop (at + 12) s ≡ rest
unfolding row_bytes u16_bytes
past_row s at r rest e = drop_past s at (row_bytes r) rest e

pub rows_written : (rows : List Row) (s : List ℕ) (at : ℕ) (rest : List ℕ)
    → ((i : ℕ) → i < length rows → SmallRow (row_of rows i)) → drop at s ≡ rows_bytes rows ++ rest
    → rows_from 12 s at (length rows) ≡ rows
unfolding rows_from rows_bytes
rows_written [] s at rest small e = refl
rows_written (r ∷ rows) s at rest small e =
    let here : drop at s ≡ row_bytes r ++ (rows_bytes rows ++ rest) = e ∙ append_assoc (row_bytes r) (rows_bytes rows) rest in
    let first = row_written s at r (rows_bytes rows ++ rest) (small 0 (zero-lt-suc (length rows))) here in
    let others =
    rows_written
    rows
    s
    (at + 12)
    rest
    (λ i h. small (suc i) (suc-le-suc h))
    (past_row s at r (rows_bytes rows ++ rest) here)
    in
    cc

-- class blocks
shares_written : (shares : List ℕ) (s : List ℕ) (at : ℕ) (rest : List ℕ)
    → ((v : ℕ) → v < length shares → get_or shares v 0 < 65536) → drop at s ≡ shares_bytes shares ++ rest
    → shares_from s at (length shares) ≡ shares
unfolding shares_from shares_bytes
shares_written [] s at rest small e = refl
shares_written (p ∷ shares) s at rest small e =
    let here : drop at s ≡ u16_bytes p ++ (shares_bytes shares ++ rest) = e ∙ append_assoc (u16_bytes p) (shares_bytes shares) rest in
    let first = u16_there s at p (shares_bytes shares ++ rest) (small 0 (zero-lt-suc (length shares))) here in
    let others =
    shares_written
    shares
    s
    (at + 2)
    rest
    (λ v h. small (suc v) (suc-le-suc h))
    (past_u16 s at p (shares_bytes shares ++ rest) here)
    in
    cc

-- a class block at `at`: what it says, and where it ends
pub record BlockAt (s : List ℕ) (at : ℕ) (shares rest : List ℕ) : Type 0 where
  pub delay : u16_at s at ≡ maximum_delay shares
  pub table : table_at s at ≡ shares
  pub ends : block_end s at ≡ at + block_size shares
  pub behind : drop (block_end s at) s ≡ rest

pub table_written : (shares : List ℕ) (s : List ℕ) (at : ℕ) (rest : List ℕ)
    → WritableTable shares → drop at s ≡ table_bytes shares ++ rest → BlockAt s at shares rest
unfolding table_bytes table_at block_end block_size
table_written shares s at rest w e =
    let here : drop at s ≡ u16_bytes (maximum_delay shares) ++ (shares_bytes shares ++ rest) =
    e ∙ append_assoc (u16_bytes (maximum_delay shares)) (shares_bytes shares) rest
    in
    let delay = u16_there s at (maximum_delay shares) (shares_bytes shares ++ rest) w.delay here in
    let count : suc (u16_at s at) ≡ length shares = ap suc delay ∙ suc-pred-eq_of_pos w.some in
    let ends : at + 2 + 2 * suc (u16_at s at) ≡ at + (2 + 2 * length shares) = omega (arith, count) in
    record {
      delay = delay;
      table =
          ap (shares_from s (at + 2)) count
          ∙ shares_written shares s (at + 2) rest w.each_share (past_u16 s at (maximum_delay shares) (shares_bytes shares ++ rest) here);
      ends = ends;
      behind =
          ap
          (λ (n : ℕ). drop n s)
          (ends ∙ ap (λ (n : ℕ). at + n) (sym (table_size shares)))
          ∙ drop_past s at (table_bytes shares) rest e;
    }

-- the first of several blocks
pub first_block : (shares : List ℕ) (tables : List (List ℕ)) (s : List ℕ) (at : ℕ) (rest : List ℕ)
    → WritableTable shares → drop at s ≡ tables_bytes (shares ∷ tables) ++ rest
    → BlockAt s at shares (tables_bytes tables ++ rest)
unfolding tables_bytes
first_block shares tables s at rest w e =
    table_written shares s at (tables_bytes tables ++ rest) w (e ∙ append_assoc (table_bytes shares) (tables_bytes tables) rest)

pub tables_written : (tables : List (List ℕ)) (s : List ℕ) (at : ℕ) (rest : List ℕ)
    → ((k : ℕ) → k < length tables → WritableTable (shares_of tables k)) → drop at s ≡ tables_bytes tables ++ rest
    → tables_from s at (length tables) ≡ tables
unfolding tables_from
tables_written [] s at rest w e = refl
tables_written (shares ∷ tables) s at rest w e =
    let first = first_block shares tables s at rest (w 0 (zero-lt-suc (length tables))) e in
    let others = tables_written tables s (block_end s at) rest (λ k h. w (suc k) (suc-le-suc h)) first.behind in
    cc first.table

pub tables_end_lem : (tables : List (List ℕ)) (s : List ℕ) (at : ℕ) (rest : List ℕ)
    → ((k : ℕ) → k < length tables → WritableTable (shares_of tables k)) → drop at s ≡ tables_bytes tables ++ rest
    → tables_end s at (length tables) ≡ at + tables_size tables
unfolding tables_end tables_size
tables_end_lem [] s at rest w e = sym (add-zero at)
tables_end_lem (shares ∷ tables) s at rest w e =
    let first = first_block shares tables s at rest (w 0 (zero-lt-suc (length tables))) e in
    let others = tables_end_lem tables s (block_end s at) rest (λ k h. w (suc k) (suc-le-suc h)) first.behind in
    others ∙ ap (λ (n : ℕ). n + tables_size tables) first.ends ∙ add_assoc at (block_size shares) (tables_size tables)
