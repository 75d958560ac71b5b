-- Any rising list of cumulative shares gives, by differences of neighbours, a table that the check accepts. Assumes nothing.
use Prim.Native.Nat.{ℕ, zero, suc, ◌+◌, ◌-◌, ◌<◌, ◌≤◌, pred}
use mathlib.Core.Path.{◌≡◌, refl, ap, sym, ◌∙◌}
use mathlib.Core.Bool.{true}
use mathlib.Core.List.{List, [], ◌∷◌}
use native.Mathlib.Omega.{arith}
use native.Mathlib.Nat.{add-sub_of_le}
use lib.ListN.{length, get_or}
use borrow.Author.Tests.{eq-eqb, le-leb}
use Rattle.laws.proofs.Tests.{both}
use Rattle.timetable.specs.Timetable.{maximum_delay}
use Rattle.timetable.specs.Classes.{share_total, sum, last_share, shares_rule}
use Rattle.delay_tables.specs.Rising.{Rising, MadeOf, differences, shares_of_cumulative, running_sums, cumulative_of_shares}

-- no entry is below the one ahead of it, nor the first below `ahead`
data RisesFrom : ℕ → List ℕ → Type 0 where
  end : {ahead : ℕ} → RisesFrom ahead []
  step : {ahead c : ℕ} {cs : List ℕ} → ahead ≤ c → RisesFrom c cs → RisesFrom ahead (c ∷ cs)

rises_from : (ahead : ℕ) (cs : List ℕ) → (0 < length cs → ahead ≤ get_or cs 0 0)
    → ((x : ℕ) → suc x < length cs → get_or cs x 0 ≤ get_or cs (suc x) 0) → RisesFrom ahead cs
rises_from ahead [] first never_falls = end
rises_from ahead (c ∷ cs) first never_falls =
    step (first (omega arith))
    (rises_from c cs (λ more. never_falls 0 (omega (arith, more))) (λ x h. never_falls (suc x) (omega (arith, h))))

pub length_differences : (ahead : ℕ) (cs : List ℕ) → length (differences ahead cs) ≡ length cs
unfolding differences
length_differences ahead [] = refl
length_differences ahead (c ∷ cs) = ap suc (length_differences c cs)

running_differences : {ahead : ℕ} {cs : List ℕ} → RisesFrom ahead cs → running_sums ahead (differences ahead cs) ≡ cs
unfolding differences running_sums
running_differences end = refl
running_differences (step {c = c} {cs = cs} h rises) =
    ap (λ (k : ℕ). k ∷ running_sums k (differences c cs)) (add-sub_of_le h) ∙ ap (λ (l : List ℕ). c ∷ l) (running_differences rises)

sum_differences : {ahead : ℕ} (cs : List ℕ) → RisesFrom ahead cs → 0 < length cs
    → ahead + sum (differences ahead cs) ≡ get_or cs (maximum_delay cs) 0
unfolding differences sum
sum_differences [] rises more = absurd (let z : ⊥ = omega arith in z)
sum_differences (c ∷ []) (step h rises) more = omega arith
sum_differences (c ∷ e ∷ cs) (step h rises) more = omega (arith, sum_differences (e ∷ cs) rises (omega arith))

differences_at : (ahead : ℕ) (cs : List ℕ) (x : ℕ) → suc x < length cs
    → get_or (differences ahead cs) (suc x) 0 ≡ get_or cs (suc x) 0 - get_or cs x 0
unfolding differences
differences_at ahead [] x h = absurd (let z : ⊥ = omega arith in z)
differences_at ahead (c ∷ []) x h = absurd (let z : ⊥ = omega arith in z)
differences_at ahead (c ∷ e ∷ cs) zero h = refl
differences_at ahead (c ∷ e ∷ cs) (suc x) h = differences_at c (e ∷ cs) x (omega arith)

-- the list has an entry, since it ends at 4,096
some_entry : (cs : List ℕ) → get_or cs (maximum_delay cs) 0 ≡ share_total → 0 < length cs
some_entry [] ends = absurd (let z : ⊥ = omega arith in z)
some_entry (c ∷ cs) ends = omega arith

-- the last share is the last step; with M = 0 it is all of 4,096
last_step : (cs : List ℕ) → Rising cs → 1 ≤ last_share (differences 0 cs)
unfolding differences
last_step [] rising = absurd (let z : ⊥ = omega (arith, rising.ends_whole) in z)
last_step (c ∷ []) rising = omega (arith, rising.ends_whole)
last_step (c ∷ e ∷ cs) rising =
    rw (length_differences e cs)
    (omega (arith, differences_at 0 (c ∷ e ∷ cs) (length cs) (omega arith), rising.ends_whole, rising.rises_last (omega arith)))

pub rising_table_accepted : (cs : List ℕ) → Rising cs → MadeOf cs (shares_of_cumulative cs)
unfolding shares_rule shares_of_cumulative cumulative_of_shares
rising_table_accepted cs rising = record {
  accepted = both (eq-eqb (sum (differences 0 cs)) share_total sums) (le-leb _ _ (last_step cs rising));
  one_each = length_differences 0 cs;
  sums_back = running_differences rises;
}
  where
    rises : RisesFrom 0 cs
    rises = rises_from 0 cs (λ more. omega arith) rising.never_falls

    sums : sum (differences 0 cs) ≡ share_total
    sums = omega (arith, sum_differences cs rises (some_entry cs rising.ends_whole), rising.ends_whole)
