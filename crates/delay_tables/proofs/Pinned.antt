-- Facts that pin what rises: both sides of each of the three lines. Assumes nothing.
use Prim.Native.Nat.{ℕ, zero, suc}
use mathlib.Core.Path.{◌≡◌, refl}
use mathlib.Core.List.{List, [], ◌∷◌}
use native.Mathlib.Omega.{arith}
use Rattle.delay_tables.specs.Rising.{Rising, differences, shares_of_cumulative, running_sums, cumulative_of_shares}

-- a table whose last step is flat has a last share of 0, so it does not rise; nor does one that falls, or ends below 4,096
pub flat_last_step : Rising (4096 ∷ 4096 ∷ []) → ⊥
flat_last_step rising = omega (arith, rising.rises_last (omega arith))

pub falling : Rising (5 ∷ 4 ∷ 4096 ∷ []) → ⊥
falling rising = omega (arith, rising.never_falls 0 (omega arith))

pub short_of_whole : Rising (5 ∷ 4095 ∷ []) → ⊥
short_of_whole rising = omega (arith, rising.ends_whole)

-- a table and its cumulative shares, either way
pub differences_taken : shares_of_cumulative (5 ∷ 5 ∷ 4096 ∷ []) ≡ 5 ∷ 0 ∷ 4091 ∷ []
unfolding shares_of_cumulative differences
differences_taken = refl

pub sums_taken : cumulative_of_shares (5 ∷ 0 ∷ 4091 ∷ []) ≡ 5 ∷ 5 ∷ 4096 ∷ []
unfolding cumulative_of_shares running_sums
sums_taken = refl
