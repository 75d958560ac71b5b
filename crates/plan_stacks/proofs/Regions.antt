-- The stops' regions lie one behind the other. Assumes nothing.
use Prim.Native.Nat.{ℕ, zero, suc, ◌+◌, ◌≤◌, ◌<◌}
use mathlib.Core.Path.{◌≡◌, refl, sym, ap, ap₂, subst}
use native.Mathlib.Numerals.{add-one}
use native.Mathlib.Omega.{arith}
use lib.Dec.{eqb}
use borrow.Author.Tests.{eqb-true, eqb-false}
use Rattle.laws.proofs.Tests.{ifb}
use Rattle.plan_stacks.specs.Regions.{below}

pub below_same : (f g : ℕ → ℕ) (k : ℕ) → ((s : ℕ) → s < k → f s ≡ g s) → below f k ≡ below g k
unfolding below
below_same f g zero same = refl
below_same f g (suc k) same = ap₂ ◌+◌ (below_same f g k (λ s h. same s (omega arith))) (same k (omega arith))

-- a stop's region ends before that of a later stop begins
pub below_later : (f : ℕ → ℕ) (s k : ℕ) → s < k → below f s + f s ≤ below f k
unfolding below
below_later f s zero h = absurd (let z : ⊥ = omega arith in z)
below_later f s (suc k) h =
    ifb (λ b. eqb s k ≡ b → below f s + f s ≤ below f k + f k) (eqb s k)
    (λ e _. subst (λ j. below f j + f j ≤ below f k + f k) (sym (eqb-true s k e)) (let z : below f k + f k ≤ below f k + f k = omega arith in z))
    (λ e _. let apart : s ≡ k → ⊥ = eqb-false s k e in
    let further : below f s + f s ≤ below f k = below_later f s k (omega arith) in omega arith) refl

pub below_next : (f : ℕ → ℕ) (stop : ℕ) → below f (stop + 1) ≡ below f stop + f stop
unfolding below
below_next f stop = ap (below f) (add-one stop)
