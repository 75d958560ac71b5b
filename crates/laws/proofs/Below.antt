-- Laws on a test of every number below a limit: antt computes the test once, and a law gives it at each number. Assumes nothing.
use Prim.Native.Nat.{ℕ, zero, suc, ◌<◌}
use mathlib.Core.Bool.{Bool, true, ◌&&◌}
use mathlib.Core.Path.{◌≡◌, subst}
use native.Mathlib.Omega.{arith}
use lib.Dec.{ltb}
use borrow.Author.Tests.{ltb-true, ltb-false}
use Rattle.laws.proofs.Tests.{ifb, both_left, both_right}

-- the test passes at every number below n
abbrev pub below : (ℕ → Bool) → ℕ → Bool
below f zero = true
below f (suc n) = f n && below f n

pub below_at : (f : ℕ → Bool) (n : ℕ) → below f n ≡ true → (k : ℕ) → k < n → f k ≡ true
below_at f zero passed k h = absurd (let z : ⊥ = omega arith in z)
below_at f (suc n) passed k h =
    ifb (λ (_ : Bool). f k ≡ true) (ltb k n)
    (λ less. below_at f n (both_right (f n) (below f n) passed) k (ltb-true k n less))
    (λ last. subst (λ (j : ℕ). f j ≡ true) (omega (arith, ltb-false k n last)) (both_left (f n) (below f n) passed))
