-- Laws on the list of a function's values: its length, its entries, and that it depends on the values alone. Assumes nothing.
use Prim.Native.Nat.{ℕ, zero, suc, ◌+◌, ◌<◌}
use mathlib.Core.Path.{◌≡◌, refl, ap, ◌∙◌}
use mathlib.Core.List.{List, ◌∷◌}
use native.Mathlib.Omega.{arith}
use lib.ListN.{length, get_or}
use Rattle.delay_tables.specs.Rising.{values_from}

pub length_values : (f : ℕ → ℕ) (x n : ℕ) → length (values_from f x n) ≡ n
unfolding values_from
length_values f x zero = refl
length_values f x (suc n) = ap suc (length_values f (suc x) n)

pub value_at : (f : ℕ → ℕ) (x n k : ℕ) → k < n → get_or (values_from f x n) k 0 ≡ f (x + k)
unfolding values_from
value_at f x zero k h = absurd (let z : ⊥ = omega arith in z)
value_at f x (suc n) zero h = ap f (omega arith)
value_at f x (suc n) (suc k) h = value_at f (suc x) n k (omega arith) ∙ ap f (omega arith)

pub values_same : (f g : ℕ → ℕ) (x n : ℕ) → ((k : ℕ) → k < x + n → f k ≡ g k) → values_from f x n ≡ values_from g x n
unfolding values_from
values_same f g x zero same = refl
values_same f g x (suc n) same =
    ap (λ (v : ℕ). v ∷ values_from f (suc x) n) (same x (omega arith))
    ∙ ap (λ (vs : List ℕ). g x ∷ vs) (values_same f g (suc x) n (λ k h. same k (omega (arith, h))))
