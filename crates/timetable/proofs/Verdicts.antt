-- What a fine verdict tells of its parts, and what makes one. Assumes nothing.
use Prim.Native.Nat.{ℕ}
use mathlib.Core.Bool.{Bool, true, false}
use mathlib.Core.Path.{◌≡◌, refl, ap, ◌∙◌}
use native.Mathlib.Omega.{arith}
use Rattle.timetable.specs.Verdict.{Verdict, fine, fault, or_else, unless}

-- a fault is not fine
pub fault_not_fine : {number place : ℕ} → fault number place ≡ fine → ⊥
fault_not_fine e = let z : ◌≡◌ {A = ℕ} 0 1 = cc in omega arith

pub first_fine : (v w : Verdict) → or_else v w ≡ fine → v ≡ fine
first_fine fine w e = refl
first_fine (fault number place) w e = absurd (fault_not_fine e)

pub second_fine : (v w : Verdict) → or_else v w ≡ fine → w ≡ fine
second_fine fine w e = e
second_fine (fault number place) w e = absurd (fault_not_fine e)

pub both_fine : (v w : Verdict) → v ≡ fine → w ≡ fine → or_else v w ≡ fine
both_fine v w p q = ap (λ x. or_else x w) p ∙ q

-- a rule with a fine verdict holds
pub rule_holds : (b : Bool) (number place : ℕ) → unless b number place ≡ fine → b ≡ true
rule_holds true number place e = refl
rule_holds false number place e = absurd (fault_not_fine e)

pub holding_fine : (b : Bool) (number place : ℕ) → b ≡ true → unless b number place ≡ fine
holding_fine b number place e = ap (λ x. unless x number place) e

-- a chain of verdicts goes on behind one that is fine, and stops at a fault
pub goes_on : {v : Verdict} (later : Verdict) → v ≡ fine → or_else v later ≡ later
goes_on later e = ap (λ x. or_else x later) e

pub stops_at : {v : Verdict} {number place : ℕ} (later : Verdict) → v ≡ fault number place → or_else v later ≡ fault number place
stops_at later e = ap (λ x. or_else x later) e

-- a rule that holds passes on, a broken one stops
pub rule_passes : {b : Bool} (number place : ℕ) (later : Verdict) → b ≡ true → or_else (unless b number place) later ≡ later
rule_passes number place later e = ap (λ x. or_else (unless x number place) later) e

pub rule_stops : {b : Bool} (number place : ℕ) (later : Verdict) → b ≡ false → or_else (unless b number place) later ≡ fault number place
rule_stops number place later e = ap (λ x. or_else (unless x number place) later) e

-- a broken rule at the end of a chain
pub breaking_fault : {b : Bool} (number place : ℕ) → b ≡ false → unless b number place ≡ fault number place
breaking_fault number place e = ap (λ x. unless x number place) e
