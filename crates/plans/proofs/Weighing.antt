-- Laws on sums, and on sums over delays: equal or lesser worths of what is caught give an equal or lesser sum. Assumes nothing.
use Prim.Native.Nat.{ℕ, suc, ◌+◌, ◌*◌, ◌≤◌, ◌<◌}
use native.Mathlib.Nat.{mul-le-mul_left}
use native.Mathlib.Omega.{arith}
use mathlib.Core.Bool.{cond}
use mathlib.Core.List.{List, [], ◌∷◌, ◌++◌}
use mathlib.Core.Path.{◌≡◌, refl, ap, ap₂, ◌∙◌}
use lib.Dec.{eqb}
use lib.ListN.{length}
use Rattle.timetable.specs.Timetable.{maximum_delay}
use Rattle.timetable.specs.Classes.{sum, share_total}
use Rattle.plans.specs.Rides.{Ride, lands_by, ready}
use Rattle.timetable.specs.Ticks.{quotient_up}
use Rattle.plans.specs.Worth.{Valued, weigh, first_open, caught, worth_or, change_worth, arrival_worth, land_worth}

pub sum_append : (xs ys : List ℕ) → sum (xs ++ ys) ≡ sum xs + sum ys
unfolding sum
sum_append [] ys = omega arith
sum_append (x ∷ xs) ys = omega (arith, sum_append xs ys)

pub weigh_same : (shares : List ℕ) (a : ℕ) (f g : ℕ → ℕ) → ((m : ℕ) → a ≤ m → m < a + length shares → f m ≡ g m) → weigh shares a f ≡ weigh shares a g
unfolding weigh
weigh_same [] a f g same = refl
weigh_same (p ∷ shares) a f g same =
    ap₂ (λ (x y : ℕ). p * x + y) (same a (omega arith) (omega arith)) (weigh_same shares (suc a) f g (λ m h k. same m (omega arith) (omega arith)))

pub weigh_less : (shares : List ℕ) (a : ℕ) (f g : ℕ → ℕ) → ((m : ℕ) → a ≤ m → m < a + length shares → f m ≤ g m) → weigh shares a f ≤ weigh shares a g
unfolding weigh
weigh_less [] a f g less = omega arith
weigh_less (p ∷ shares) a f g less =
    omega (arith, mul-le-mul_left p (less a (omega arith) (omega arith)), weigh_less shares (suc a) f g (λ m h k. less m (omega arith) (omega arith)))

-- who lands a gate time later is as who becomes ready then
pub weigh_ready : (shares : List ℕ) (gate a : ℕ) (f : ℕ → ℕ) → weigh shares (ready gate a) f ≡ weigh shares a (λ m. f (ready gate m))
unfolding weigh
weigh_ready [] gate a f = refl
weigh_ready (p ∷ shares) gate a f =
    ap (λ rest. p * f (ready gate a) + rest) (ap (λ m. weigh shares m f) (omega arith) ∙ weigh_ready shares gate (suc a) f)

-- what is caught at a minute, and so what a change is worth
pub change_same :
    (gate : ℕ) (r : Ride) (vs us : List Valued) → length r.shares ≡ suc (maximum_delay r.shares)
    → ((m : ℕ) → ready gate r.arrives ≤ m → m ≤ ready gate (lands_by r) → first_open vs r.to m ≡ first_open us r.to m) → change_worth gate r vs ≡ change_worth gate r us
unfolding change_worth caught
change_same gate r vs us stand same =
    ap (quotient_up share_total) (weigh_same r.shares r.arrives _ _
    (λ m h k. ap (worth_or 0) (same (ready gate m) (omega arith) (let z : ready gate m ≤ ready gate (lands_by r) = omega arith in z))))

pub change_less :
    (gate : ℕ) (r : Ride) (vs us : List Valued) → length r.shares ≡ suc (maximum_delay r.shares)
    → ((m : ℕ) → ready gate r.arrives ≤ m → m ≤ ready gate (lands_by r) → caught vs r.to m ≤ caught us r.to m) → change_worth gate r vs ≤ change_worth gate r us
unfolding change_worth
change_less gate r vs us stand less = omega (
  arith,
  weigh_less r.shares r.arrives (λ m. caught vs r.to (ready gate m)) (λ m. caught us r.to (ready gate m))
      (λ m h k. less (ready gate m) (omega arith) (let z : ready gate m ≤ ready gate (lands_by r) = omega arith in z)),
)

pub land_same :
    (gate target : ℕ) (r : Ride) (vs us : List Valued) → length r.shares ≡ suc (maximum_delay r.shares)
    → ((m : ℕ) → ready gate r.arrives ≤ m → m ≤ ready gate (lands_by r) → first_open vs r.to m ≡ first_open us r.to m) → land_worth gate target r vs ≡ land_worth gate target r us
unfolding land_worth
land_same gate target r vs us stand same = ap (λ x. cond (eqb r.to target) (arrival_worth r) x) (change_same gate r vs us stand same)
