-- Rows, class blocks and the trailer, once read, are written as they were. Assumes nothing.
use Prim.Native.Nat.{ℕ, zero, suc, pred, ◌+◌, ◌*◌, ◌≤◌}
use mathlib.Core.List.{List, [], ◌++◌, append_assoc, append-nil}
use mathlib.Core.Path.{◌≡◌, refl, sym, ap, ◌∙◌}
use native.Mathlib.Nat.{add-zero}
use native.Mathlib.Omega.{arith}
use lib.ListN.{length, drop}
use lib.Seq.{drop-length}
use Rattle.timetable.specs.Timetable.{maximum_delay}
use Rattle.numbers.specs.Bytes.{Bytes}
use Rattle.numbers.specs.Numbers.{u16_at, u32_at, u16_bytes, u32_bytes}
use Rattle.file_layout.specs.Decode.{trailer_at, row_at, rows_from, shares_from, table_at, block_end, tables_from, tables_end}
use Rattle.file_encoding.specs.Encode.{row_bytes, rows_bytes, shares_bytes, table_bytes, tables_bytes, bytes_of_trailer}
use Rattle.file_layout.proofs.Blocks.{shares_length, tables_forward}
use Rattle.numbers.proofs.Bytes.{u16_again, u32_again}

-- the bytes of the row at `at`, ahead of what stands behind it
row_again : (s : List ℕ) (at : ℕ) → Bytes s → at + 12 ≤ length s → row_bytes (row_at s at) ++ drop (at + 12) s ≡ drop at s
unfolding row_bytes row_at
row_again s at b h =
    simp
    append_assoc
    (u16_again s at (at + 2) b refl (omega arith)
    (u16_again s (at + 2) (at + 4) b (omega arith) (omega arith)
    (u16_again s (at + 4) (at + 6) b (omega arith) (omega arith)
    (u16_again s (at + 6) (at + 8) b (omega arith) (omega arith)
    (u16_again s (at + 8) (at + 10) b (omega arith) (omega arith)
    (u16_again s (at + 10) (at + 12) b (omega arith) h refl))))))

pub rows_again : (s : List ℕ) (at n : ℕ) → Bytes s → at + 12 * n ≤ length s
    → rows_bytes (rows_from 12 s at n) ++ drop (at + 12 * n) s ≡ drop at s
unfolding rows_bytes rows_from
rows_again s at zero b h = ap (λ (m : ℕ). drop m s) (add-zero at)
rows_again s at (suc n) b h =
    let further : at + 12 * suc n ≡ at + 12 + 12 * n = omega arith in
    append_assoc (row_bytes (row_at s at)) (rows_bytes (rows_from 12 s (at + 12) n)) (drop (at + 12 * suc n) s)
    ∙ ap
    (λ (l : List ℕ). row_bytes (row_at s at) ++ l)
    (ap (λ (m : ℕ). rows_bytes (rows_from 12 s (at + 12) n) ++ drop m s) further ∙ rows_again s (at + 12) n b (omega arith))
    ∙ row_again s at b (omega arith)

shares_again : (s : List ℕ) (at n : ℕ) → Bytes s → at + 2 * n ≤ length s
    → shares_bytes (shares_from s at n) ++ drop (at + 2 * n) s ≡ drop at s
unfolding shares_bytes shares_from
shares_again s at zero b h = ap (λ (m : ℕ). drop m s) (add-zero at)
shares_again s at (suc n) b h =
    let further : at + 2 * suc n ≡ at + 2 + 2 * n = omega arith in
    append_assoc (u16_bytes (u16_at s at)) (shares_bytes (shares_from s (at + 2) n)) (drop (at + 2 * suc n) s)
    ∙ u16_again s at (at + 2) b refl (omega arith)
    (ap (λ (m : ℕ). shares_bytes (shares_from s (at + 2) n) ++ drop m s) further ∙ shares_again s (at + 2) n b (omega arith))

table_again : (s : List ℕ) (at : ℕ) → Bytes s → block_end s at ≤ length s
    → table_bytes (table_at s at) ++ drop (block_end s at) s ≡ drop at s
unfolding table_bytes table_at block_end
table_again s at b h =
    let shares = shares_from s (at + 2) (suc (u16_at s at)) in
    let delay : maximum_delay shares ≡ u16_at s at = ap pred (shares_length s (at + 2) (suc (u16_at s at))) in
    ap (λ (m : ℕ). u16_bytes m ++ shares_bytes shares ++ drop (at + 2 + 2 * suc (u16_at s at)) s) delay
    ∙ append_assoc (u16_bytes (u16_at s at)) (shares_bytes shares) (drop (at + 2 + 2 * suc (u16_at s at)) s)
    ∙ u16_again s at (at + 2) b refl (omega arith) (shares_again s (at + 2) (suc (u16_at s at)) b h)

pub tables_again : (s : List ℕ) (at k : ℕ) → Bytes s → tables_end s at k ≤ length s
    → tables_bytes (tables_from s at k) ++ drop (tables_end s at k) s ≡ drop at s
unfolding tables_bytes tables_from tables_end
tables_again s at zero b h = refl
tables_again s at (suc k) b h =
    let next = block_end s at in
    append_assoc (table_bytes (table_at s at)) (tables_bytes (tables_from s next k)) (drop (tables_end s next k) s)
    ∙ ap (λ (l : List ℕ). table_bytes (table_at s at) ++ l) (tables_again s next k b h)
    ∙ table_again s at b (omega (arith, tables_forward s next k))

pub trailer_reread : (s : List ℕ) (at : ℕ) → Bytes s → at + 16 ≡ length s → bytes_of_trailer (trailer_at s at) ≡ drop at s
unfolding bytes_of_trailer trailer_at
trailer_reread s at b e =
    let nothing : [] ≡ drop (at + 16) s = sym (drop-length s) ∙ ap (λ (n : ℕ). drop n s) (sym e) in
    u16_again s at (at + 2) b refl (omega arith)
    (u16_again s (at + 2) (at + 4) b (omega arith) (omega arith)
    (u16_again s (at + 4) (at + 6) b (omega arith) (omega arith)
    (u16_again s (at + 6) (at + 8) b (omega arith) (omega arith)
    (u32_again s (at + 8) (at + 12) b (omega arith) (omega arith)
    (sym (append-nil (u32_bytes (u32_at s (at + 12)))) ∙ u32_again s (at + 12) (at + 16) b (omega arith) (omega arith) nothing)))))
