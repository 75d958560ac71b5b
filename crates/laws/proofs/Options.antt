-- Laws on what may be absent: none is not some, and two equal somes hold one thing. Assumes nothing.
use Prim.Native.Nat.{ℕ}
use native.Mathlib.Omega.{arith}
use mathlib.Core.Option.{Option, none, some}
use mathlib.Core.Path.{◌≡◌, refl}

pub absent {ℓ} : {A : Type 0} {P : Type ℓ} {a : A} → none ≡ some a → P
absent e = absurd (let z : ◌≡◌ {A = ℕ} 0 1 = cc in let y : ⊥ = omega arith in y)

pub same_thing : {A : Type 0} {a b : A} → some a ≡ some b → a ≡ b
same_thing e = cc

-- there is something, or nothing, and each way its equation is at hand
pub present_or_absent {ℓ} : {A : Type 0} (P : Type ℓ) (o : Option A) → (o ≡ none → P) → ((a : A) → o ≡ some a → P) → P
present_or_absent P none nothing something = nothing refl
present_or_absent P (some a) nothing something = something a refl
