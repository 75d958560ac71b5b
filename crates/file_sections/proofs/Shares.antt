-- Laws on the shares of a class block: their sum one by one, the last of them, and their rule. Assumes nothing.
use Prim.Native.Nat.{ℕ, suc, ◌+◌, ◌*◌, ◌-◌, ◌≤◌, ◌<◌}
use mathlib.Core.Path.{◌≡◌, sym, ap, ◌∙◌}
use mathlib.Core.List.{List}
use native.Mathlib.Omega.{arith}
use Rattle.timetable.specs.Classes.{sum, last_share}
use Rattle.numbers.specs.Numbers.{u16_at}
use Rattle.file_layout.specs.Decode.{shares_from, table_at}
use Rattle.file_layout.proofs.Blocks.{shares_length, share_at}

-- the shares from share i on, which are share i and those behind it
abbrev pub sum_behind : List ℕ → (first count i : ℕ) → ℕ
sum_behind s first count i = sum (shares_from s (first + 2 * i) (count - i))

pub sum_on : (s : List ℕ) (first count i : ℕ) → i < count → sum_behind s first count i ≡ u16_at s (first + 2 * i) + sum_behind s first count (i + 1)
unfolding sum shares_from
sum_on s first count i more =
    let one : count - i ≡ suc (count - (i + 1)) = omega arith in
    let next : first + 2 * i + 2 ≡ first + 2 * (i + 1) = omega arith in
    rw (one, shares_from, sum, next)

pub sum_end : (s : List ℕ) (first count i : ℕ) → count ≤ i → sum_behind s first count i ≡ 0
unfolding sum shares_from
sum_end s first count i all =
    let none : count - i ≡ 0 = omega arith in
    rw none

-- the last of M + 1 shares
pub last_at : (s : List ℕ) (at : ℕ) → last_share (table_at s at) ≡ u16_at s (at + 2 + 2 * u16_at s at)
unfolding table_at
last_at s at =
    rw (shares_length s (at + 2) (suc (u16_at s at)))
    (share_at s (at + 2) (suc (u16_at s at)) (u16_at s at) (omega arith))

-- the rule of the shares by its two tests, where M is read and the shares are summed
module _ (s : List ℕ) (at delay total : ℕ) (read : delay ≡ u16_at s at) (summed : total ≡ sum (shares_from s (at + 2) (delay + 1))) where
  pub table_sum : sum (table_at s at) ≡ total
  unfolding table_at
  table_sum =
      let count : suc (u16_at s at) ≡ delay + 1 = omega arith in
      ap (λ k. sum (shares_from s (at + 2) k)) count ∙ sym summed

  pub table_last : (last : ℕ) → last ≡ u16_at s (at + 2 + 2 * delay) → last_share (table_at s at) ≡ last
  table_last last e = last_at s at ∙ ap (λ m. u16_at s (at + 2 + 2 * m)) (sym read) ∙ sym e
