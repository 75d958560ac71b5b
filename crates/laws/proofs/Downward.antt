-- Induction from the last number down to the first. Assumes nothing.
use Prim.Native.Nat.{ℕ, zero, suc, ◌+◌, ◌-◌, ◌≤◌, ◌<◌}
use native.Mathlib.Nat.{eq-or-lt_of_le}
use native.Mathlib.Omega.{arith}
use mathlib.Core.Logic.{◌⊎◌, inl, inr}
use mathlib.Core.Path.{◌≡◌, subst}

pub downward {ℓ} : (P : ℕ → Type ℓ) (n : ℕ) → P n → ((i : ℕ) → i < n → P (suc i) → P i) → (i : ℕ) → i ≤ n → P i
downward P n last back i h = go (n - i) i (omega arith)
  where
    go : (k i : ℕ) → i + k ≡ n → P i
    go zero i e = subst P (let q : n ≡ i = omega arith in q) last
    go (suc k) i e = back i (omega arith) (go k (suc i) (omega arith))

-- each number may use all that are greater
pub from_greater {ℓ} : (P : ℕ → Type ℓ) (n : ℕ) → ((i : ℕ) → i < n → ((j : ℕ) → i < j → j < n → P j) → P i) → (i : ℕ) → i < n → P i
from_greater P n back i h = downward All n (λ j a b. absurd (let z : ⊥ = omega arith in z)) further i (omega arith) i (omega arith) h
  where
    All : ℕ → Type ℓ
    All i = (j : ℕ) → i ≤ j → j < n → P j

    further : (i : ℕ) → i < n → All (suc i) → All i
    further i h all j a b = step (eq-or-lt_of_le a)
      where
        step : (i ≡ j) ⊎ (i < j) → P j
        step (inl e) = subst P e (back i h all)
        step (inr c) = all j c b
