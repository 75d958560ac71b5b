-- A difference of two minutes counts as the minutes that it is above zero. Assumes nothing.
use Prim.Native.Nat.{ℕ, zero, suc, ◌-◌}
use mathlib.Core.Bool.{cond}
use mathlib.Core.Path.{◌≡◌, refl, ap, sym, ◌∙◌}
use native.Mathlib.Omega.{arith}
use lib.Dec.{ltb}
use lib.IntN.{pos, negsuc, sub_ℕ, ◌-ℤ◌}
use borrow.Author.Tests.{ltb-true, le-ltb}
use Rattle.laws.proofs.Tests.{ifb, cond_false}
use Rattle.tally.specs.declared.Landing.{Landing}
use Rattle.tally.specs.Landing.{lateness, counted_as}

-- the difference of two minutes is by the one test which is greater
minus_is : (a b : ℕ) → pos a -ℤ pos b ≡ sub_ℕ a b
minus_is a zero =
    (let same : pos a -ℤ pos 0 ≡ pos (a - 0) = ap pos (omega arith) in same) ∙ sym (cond_false _ _ (le-ltb a 0 (omega arith)))
minus_is a (suc b) = refl

sub_counted : (a b : ℕ) → counted_as (sub_ℕ a b) ≡ a - b
sub_counted a b =
    ifb (λ t. counted_as (cond t (negsuc (b - suc a)) (pos (a - b))) ≡ a - b) (ltb a b)
    (λ less. omega (arith, ltb-true a b less)) (λ more. refl)

-- early ones as 0, and the others by the minutes that they are late
pub counted_late : (l : Landing) → counted_as (lateness l) ≡ l.actual - l.planned
counted_late l = ap counted_as (minus_is l.actual l.planned) ∙ sub_counted l.actual l.planned
