-- Laws on sums of counts that keep their limit. Assumes nothing.
use Prim.Native.Nat.{ℕ, zero, suc, ◌+◌, ◌*◌, ◌<◌, ◌≤◌}
use mathlib.Core.Bool.{true}
use mathlib.Core.List.{List, [], ◌∷◌}
use mathlib.Core.Path.{◌≡◌, refl}
use native.Mathlib.Omega.{arith}
use lib.Dec.{leb}
use lib.ListN.{length, take, length-take}
use borrow.Author.Tests.{leb-true}
use Rattle.laws.proofs.Tests.{both, both_left, both_right}
use Rattle.std.specs.Prelude.{fold, sum as sum_of}
use Rattle.timetable.specs.Classes.{sum}
use Rattle.file_layout.specs.declared.Format.{Format}
use Rattle.tally.specs.Tally.{most_count, counts_rule}
use Rattle.tally_table.specs.Fits.{TableFits}

-- a sum by addition from the first number on
sum_from : (before : ℕ) (counts : List ℕ) → fold (λ (a : ℕ) (x : ℕ). a + x) before counts ≡ before + sum counts
unfolding sum
sum_from before [] = omega arith
sum_from before (c ∷ counts) = omega (arith, sum_from (before + c) counts)

pub same_sum : (counts : List ℕ) → sum_of counts ≡ sum counts
same_sum counts = omega (arith, sum_from 0 counts)

-- counts within their limit have a sum within as many limits
pub sum_within : (counts : List ℕ) → counts_rule counts ≡ true → sum counts ≤ length counts * most_count
unfolding counts_rule sum
sum_within [] kept = omega arith
sum_within (c ∷ counts) kept =
    omega (
      arith,
      leb-true c most_count (both_left (leb c most_count) (counts_rule counts) kept),
      sum_within counts (both_right (leb c most_count) (counts_rule counts) kept),
    )

-- the first counts of a tally keep the limit too
rule_first : (counts : List ℕ) (n : ℕ) → counts_rule counts ≡ true → counts_rule (take n counts) ≡ true
unfolding counts_rule
rule_first counts zero kept = refl
rule_first [] (suc n) kept = refl
rule_first (c ∷ counts) (suc n) kept =
    both (both_left (leb c most_count) (counts_rule counts) kept)
    (rule_first counts n (both_right (leb c most_count) (counts_rule counts) kept))

-- so their sum is small
pub first_within : (counts : List ℕ) (n : ℕ) → counts_rule counts ≡ true → sum (take n counts) ≤ n * most_count
first_within counts n kept = omega (arith, sum_within (take n counts) (rule_first counts n kept), length-take n counts)

pub first_small : (f : Format) (tally shares : List ℕ) → TableFits f tally shares → counts_rule tally ≡ true
    → sum_of (take (f.delay + 1) tally) < 4294967296
first_small f tally shares fits kept =
    omega (arith, same_sum (take (f.delay + 1) tally), first_within tally (f.delay + 1) kept, fits.limits.landings)
