-- The largest of the numbers that a list's members have: none passes it, and one reaches it. Assumes nothing.
use Prim.Native.Nat.{ℕ, max, ◌≤◌}
use native.Mathlib.Nat.{le-max_left, le-max_right, le_trans, max-eq_left, max-eq_right}
use native.Mathlib.Omega.{arith}
use mathlib.Core.List.Memᴰ
use mathlib.Core.List.{List, [], ◌∷◌, map, Memᴰ}
use mathlib.Core.Path.{◌≡◌, refl, sym, ap, subst, ◌∙◌}
use lib.Dec.{leb}
use borrow.Author.Tests.{leb-true, leb-false}
use Rattle.laws.proofs.Tests.{ifb}
use Rattle.laws.proofs.Members.{head_or_later}
use Rattle.plans.specs.Rides.{lands_by}
use Rattle.plans.specs.Worth.{Valued}
use Rattle.plans.specs.Plan.{latest_of}
use Rattle.demands.specs.Walk.{largest}

module _ {A : Type 0} (f : A → ℕ) where
  pub none_larger : (xs : List A) (x : A) → Memᴰ x xs → f x ≤ largest (map f xs)
  unfolding largest
  none_larger [] x m = absurd (Memᴰ.not-nil m)
  none_larger (y ∷ xs) x m =
      head_or_later (f x ≤ largest (map f (y ∷ xs))) m
      (λ e. subst (λ (z : A). f z ≤ largest (map f (y ∷ xs))) (sym e) (le-max_left (f y) (largest (map f xs))))
      (λ n. le_trans (none_larger xs x n) (le-max_right (f y) (largest (map f xs))))

  -- a list with a member has one of that number
  pub one_largest : (xs : List A) (x : A) → Memᴰ x xs → (most : A) × Memᴰ most xs × (f most ≡ largest (map f xs))
  unfolding largest
  one_largest [] x m = absurd (Memᴰ.not-nil m)
  one_largest (y ∷ []) x m = (y, Memᴰ.head refl, let z : f y ≡ max (f y) 0 = omega arith in z)
  one_largest (y ∷ z ∷ xs) x m =
      let later = one_largest (z ∷ xs) z (Memᴰ.head refl) in
      let rest = largest (map f (z ∷ xs)) in
      ifb (λ b. leb rest (f y) ≡ b → Most) (leb rest (f y))
      (λ e _. (y, Memᴰ.head refl, sym (max-eq_left (leb-true rest (f y) e))))
      (λ e _. (
        later.0,
        Memᴰ.tail later.1,
        later.2 ∙ sym (max-eq_right (let less : f y ≤ rest = omega (arith, leb-false rest (f y) e) in less)),
      )) refl
    where
      Most : Type 0
      Most = (most : A) × Memᴰ most (y ∷ z ∷ xs) × (f most ≡ largest (map f (y ∷ z ∷ xs)))

-- the latest minute of a list of rides is the largest a + M of its rides
latest_largest : (vs : List Valued) → latest_of vs ≡ largest (map (λ (v : Valued). lands_by v.ride) vs)
unfolding latest_of largest
latest_largest [] = refl
latest_largest (v ∷ vs) = ap (max (lands_by v.ride)) (latest_largest vs)

pub lands_by_lem : (vs : List Valued) (v : Valued) → Memᴰ v vs → lands_by v.ride ≤ latest_of vs
lands_by_lem vs v m = subst (λ k. lands_by v.ride ≤ k) (sym (latest_largest vs)) (none_larger (λ (u : Valued). lands_by u.ride) vs v m)

pub lands_last : (vs : List Valued) (v : Valued) → Memᴰ v vs → (last : Valued) × Memᴰ last vs × (lands_by last.ride ≡ latest_of vs)
lands_last vs v m =
    let found = one_largest (λ (u : Valued). lands_by u.ride) vs v m in (found.0, found.1, found.2 ∙ sym (latest_largest vs))
