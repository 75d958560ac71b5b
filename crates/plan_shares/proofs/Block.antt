-- A class's block of cells: its running sums, then its maximum and its expected delay. Assumes nothing.
use Prim.Native.Nat.{ℕ, suc, pred, ◌+◌, ◌*◌, ◌/◌, ◌≤◌, ◌<◌}
use mathlib.Core.List.{List}
use mathlib.Core.Path.{◌≡◌, sym, ap, subst, ◌∙◌}
use native.Mathlib.Omega.{arith}
use lib.ListN.{length, get_or, set, length-set}
use lib.Seq.{get_or-set_same, get_or-set_other}
use Rattle.timetable.specs.Timetable.{maximum_delay}
use Rattle.timetable.specs.Classes.{share_total, sum}
use Rattle.file_layout.specs.Decode.{shares_from, table_at, block_end}
use Rattle.numbers.specs.Numbers.{u16_at}
use Rattle.file_layout.proofs.Blocks.{table_has}
use Rattle.timetable.specs.Ticks.{quotient_up}
use Rattle.plans.specs.Worth.{weigh}
use Rattle.plan_cells.specs.Outside.{SameOutside}
use Rattle.plan_cells.proofs.Outside.{outside_then, outside_wider, outside_set}
use Rattle.plan_rows.specs.Reading.{block_cell, BlockHeld}
use Rattle.plan_shares.specs.Summed.{BlockStands, SharesStand, Summed}

-- the two cells ahead of the running sums
module _
    (cells cells' : List ℕ)
    (k : ℕ)
    (shares : List ℕ)
    (few : length shares ≤ 254)
    (room : block_cell (suc k) ≤ length cells)
    (summed : Summed cells cells' (block_cell k + 2) shares (length shares))
    (longest_cell expected_cell : ℕ)
  where
    -- a cell that is neither of the two
    apart : (i : ℕ) → (i ≡ block_cell k + 0 → ⊥) → (i ≡ block_cell k + 1 → ⊥)
        → get_or (set (set cells' (block_cell k + 0) longest_cell) (block_cell k + 1) expected_cell) i 0 ≡ get_or cells' i 0
    apart i not_first not_second =
        get_or-set_other (set cells' (block_cell k + 0) longest_cell) (block_cell k + 1) i expected_cell 0 not_second
        ∙ get_or-set_other cells' (block_cell k + 0) i longest_cell 0 not_first

    pub block_held : longest_cell ≡ maximum_delay shares → expected_cell ≡ quotient_up 16 (weigh shares 0 (λ v. v))
        → BlockHeld (set (set cells' (block_cell k + 0) longest_cell) (block_cell k + 1) expected_cell) k shares
    block_held l e =
        let first : block_cell k ≡ block_cell k + 0 = omega arith in
        record {
          longest_held =
              ap (λ i. get_or (set (set cells' (block_cell k + 0) longest_cell) (block_cell k + 1) expected_cell) i 0) first
              ∙ get_or-set_other (set cells' (block_cell k + 0) longest_cell) (block_cell k + 1) (block_cell k + 0) expected_cell 0
              (λ q. let z : ⊥ = omega arith in z)
              ∙ get_or-set_same cells' (block_cell k + 0) longest_cell 0 (omega (arith, summed.outside.same_length)) ∙ l;
          expected_held =
              get_or-set_same (set cells' (block_cell k + 0) longest_cell) (block_cell k + 1) expected_cell 0
              (omega (arith, summed.outside.same_length, length-set cells' (block_cell k + 0) longest_cell))
              ∙ e;
          cumulative_held =
              λ v h.
              apart (block_cell k + 2 + v) (λ q. let z : ⊥ = omega arith in z) (λ q. let z : ⊥ = omega arith in z) ∙ summed.sums v h;
        }

    pub others_kept :
        SameOutside (block_cell k) (block_cell (suc k)) cells (set (set cells' (block_cell k + 0) longest_cell) (block_cell k + 1) expected_cell)
    others_kept =
        outside_then (outside_wider (omega arith) (omega arith) summed.outside)
        (outside_then (outside_set cells' (block_cell k + 0) longest_cell (omega arith) (omega arith))
        (outside_set (set cells' (block_cell k + 0) longest_cell) (block_cell k + 1) expected_cell (omega arith) (omega arith)))

-- where a standing block's shares stand
pub block_shares : (file : List ℕ) (at : ℕ) → BlockStands file at → SharesStand file (at + 2) (u16_at file at)
unfolding block_end table_at
block_shares file at b =
    record {
      inside = omega (arith, b.inside);
      few = omega (arith, b.shares_fit.few_shares, table_has file at);
      not_more = omega (arith, b.shares_fit.shares_whole);
    }

-- the sum of delay × share is small
pub late_bound : (shares : List ℕ) (minute top : ℕ) → minute + length shares ≤ top → weigh shares minute (λ v. v) ≤ top * sum shares
unfolding weigh sum
late_bound mathlib.Core.List.[] minute top h = omega arith
late_bound (mathlib.Core.List.◌∷◌ p shares) minute top h =
    omega (arith, late_bound shares (suc minute) top (omega arith), native.Mathlib.Nat.mul-le-mul_left {m = minute} {n = top} p (omega arith))

-- what is read of a standing block, as the code leaves it
module _
    (file : List ℕ)
    (at longest' late : ℕ)
    (stands : BlockStands file at)
    (read : longest' ≡ u16_at file at)
    (summed_late : late ≡ weigh (shares_from file (at + 2) (suc longest')) 0 (λ v. v))
  where
    same_shares : shares_from file (at + 2) (suc longest') ≡ table_at file at
    unfolding table_at
    same_shares = ap (λ n. shares_from file (at + 2) (suc n)) read

    counted : suc longest' ≡ length (table_at file at)
    counted = ap suc read ∙ sym (table_has file at)

    late_of_table : late ≡ weigh (table_at file at) 0 (λ v. v)
    late_of_table = summed_late ∙ ap (λ xs. weigh xs 0 (λ v. v)) same_shares

    -- the sum of delay × share is no more than 254 wholes
    pub late_small : late ≤ 254 * share_total
    late_small =
        omega (
          arith,
          late_of_table,
          late_bound (table_at file at) 0 254 (omega (arith, stands.shares_fit.few_shares)),
          ap (λ n. 254 * n)
              stands.shares_fit.shares_whole,
        )

    pub block_ends : at + 4 + 2 * longest' ≡ block_end file at
    unfolding block_end
    block_ends = omega (arith, read)

    pub table_held : (cells cells' : List ℕ) (k longest_cell expected_cell : ℕ) → k < 16 → length cells ≡ 4096
        → Summed cells cells' (256 * k + 2) (shares_from file (at + 2) (suc longest')) (suc longest') → longest_cell ≡ longest'
        → expected_cell ≡ (late + 15) / 16
        → BlockHeld (set (set cells' (256 * k + 0) longest_cell) (256 * k + 1) expected_cell) k (table_at file at)
        × SameOutside (block_cell k) (block_cell (suc k)) cells (set (set cells' (256 * k + 0) longest_cell) (256 * k + 1) expected_cell)
    table_held cells cells' k longest_cell expected_cell inside room summed l e =
        let held : Summed cells cells' (block_cell k + 2) (table_at file at) (length (table_at file at)) =
        subst (Summed cells cells' (block_cell k + 2) (table_at file at)) counted
        (subst (λ xs. Summed cells cells' (block_cell k + 2) xs (suc longest')) same_shares summed)
        in
        let fits : block_cell (suc k) ≤ length cells = omega arith in (
          block_held cells cells' k (table_at file at) stands.shares_fit.few_shares fits held longest_cell expected_cell
              (l ∙ ap pred counted) (e ∙ ap (λ n. (n + 15) / 16) late_of_table),
          others_kept cells cells' k (table_at file at) stands.shares_fit.few_shares fits held longest_cell expected_cell,
        )
