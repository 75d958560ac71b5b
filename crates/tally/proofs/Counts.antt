-- The counts keep their limit exactly if the largest of them does. Assumes nothing.
use Rattle.std.specs.Prelude.{ℕ, max, Bool, true, false, ◌&&◌, List, [], ◌∷◌, ◌≡◌, leb, fold}
use mathlib.Core.Path.{refl, ap, ◌∙◌}
use native.Mathlib.Omega.{arith}
use borrow.Author.Tests.{leb-true, leb-false, le-leb, lt-leb}
use Rattle.laws.proofs.Tests.{ifb, both_both}
use Rattle.tally.specs.Tally.{most_count, counts_rule}

-- the larger of two is within a limit if both are
larger_within : (a b limit : ℕ) → leb (max a b) limit ≡ (leb a limit && leb b limit)
larger_within a b limit =
    ifb (λ t. leb (max a b) limit ≡ (t && leb b limit)) (leb a limit)
    (λ yes.
    ifb (λ t. leb (max a b) limit ≡ t) (leb b limit)
    (λ also. le-leb (max a b) limit (omega (arith, leb-true a limit yes, leb-true b limit also)))
    (λ no. lt-leb (max a b) limit (omega (arith, leb-false b limit no))))
    (λ no. lt-leb (max a b) limit (omega (arith, leb-false a limit no)))

-- and so is the largest of those so far and the counts left
largest_within : (tally : List ℕ) (largest : ℕ) → leb (fold max largest tally) most_count ≡ (leb largest most_count && counts_rule tally)
unfolding counts_rule
largest_within [] largest = true_right (leb largest most_count)
  where
    true_right : (b : Bool) → b ≡ (b && true)
    true_right true = refl
    true_right false = refl
largest_within (c ∷ tally) largest =
    largest_within tally (max largest c) ∙ ap (λ b. b && counts_rule tally) (larger_within largest c most_count)
    ∙ both_both (leb largest most_count) (leb c most_count) (counts_rule tally)

pub counts_by_largest : (tally : List ℕ) (largest : ℕ) → largest ≡ fold max 0 tally → leb largest most_count ≡ counts_rule tally
counts_by_largest tally largest is = ap (λ n. leb n most_count) is ∙ largest_within tally 0
