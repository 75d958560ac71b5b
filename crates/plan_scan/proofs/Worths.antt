-- No worth is beyond that of the last minute at which a ride lands. Uses that shares sum to 4,096.
use Prim.Native.Nat.{ℕ, suc, ◌+◌, ◌*◌, ◌/◌, ◌≤◌, ◌<◌}
use mathlib.Core.Bool.{cond}
use mathlib.Core.List.{List, [], ◌∷◌, Memᴰ}
use mathlib.Core.Option.{Option, none, some}
use mathlib.Core.Path.{◌≡◌, refl, ap, subst}
use native.Mathlib.Nat.{mul-le-mul_left, le-pred_of_lt, div-lt_iff_lt-mul}
use native.Mathlib.Omega.{arith}
use lib.Dec.{eqb}
use lib.ListN.{length}
use Rattle.laws.proofs.Tests.{ifb}
use Rattle.timetable.specs.Timetable.{maximum_delay}
use Rattle.timetable.specs.Classes.{share_total, sum}
use Rattle.plans.specs.declared.Goal.{Goal}
use Rattle.plans.specs.Rides.{Ride, lands_by, ready}
use Rattle.timetable.specs.Ticks.{ticks_a_minute, quotient_up}
use Rattle.plans.specs.Worth.{Valued, weigh, first_open, caught, worth_or, arrival_worth, change_worth, land_worth}
use Rattle.plans.specs.Chosen.{off_in_ticks}
use Rattle.plans.proofs.Open.{found_member}
use Rattle.plans.proofs.InTicks.{off_is, off_worth}

weigh_most :
    (shares : List ℕ) (minute : ℕ) (f : ℕ → ℕ) (most : ℕ) → ((m : ℕ) → minute ≤ m → m < minute + length shares → f m ≤ most)
    → weigh shares minute f ≤ sum shares * most
unfolding weigh sum
weigh_most [] minute f most each = let z : 0 ≤ 0 * most = omega arith in z
weigh_most (p ∷ shares) minute f most each =
    let here : p * f minute ≤ p * most = mul-le-mul_left p (each minute (omega arith) (omega arith)) in
    let further : weigh shares (suc minute) f ≤ sum shares * most = weigh_most shares (suc minute) f most (λ m a b. each m (omega arith) (omega arith)) in
    let z : p * f minute + weigh shares (suc minute) f ≤ (p + sum shares) * most = omega arith in z

sixteenth : (x l : ℕ) → x ≤ 4096 * l → (x + 15) / 16 ≤ 256 * l
sixteenth x l h = let z : (x + 15) / 16 < 256 * l + 1 = (div-lt_iff_lt-mul (let z : 0 < 16 = omega arith in z)).1 (omega arith) in omega arith

mean : (x b : ℕ) → x ≤ 4096 * b → (x + 4095) / 4096 ≤ b
mean x b h = let z : (x + 4095) / 4096 < b + 1 = (div-lt_iff_lt-mul (let z : 0 < 4096 = omega arith in z)).1 (omega arith) in omega arith

pub arrival_most : (r : Ride) → sum r.shares ≡ share_total → arrival_worth r ≤ ticks_a_minute * lands_by r
unfolding arrival_worth
arrival_most r whole =
    let each : weigh r.shares 0 (λ v. v) ≤ sum r.shares * maximum_delay r.shares = weigh_most r.shares 0 (λ v. v) (maximum_delay r.shares) (λ m a b. le-pred_of_lt (let z : m < length r.shares = omega arith in z)) in
    let all : sum r.shares * maximum_delay r.shares ≡ 4096 * maximum_delay r.shares = ap (λ k. k * maximum_delay r.shares) whole in
    let late : quotient_up 16 (weigh r.shares 0 (λ v. v)) ≤ 256 * maximum_delay r.shares = sixteenth (weigh r.shares 0 (λ v. v)) (maximum_delay r.shares) (omega arith) in
    let z : 256 * r.arrives + quotient_up 16 (weigh r.shares 0 (λ v. v)) ≤ 256 * (r.arrives + maximum_delay r.shares) = omega arith in z

worth_most : (o : Option Valued) (most : ℕ) → ((v : Valued) → o ≡ some v → v.worth ≤ most) → worth_or 0 o ≤ most
unfolding worth_or
worth_most none most each = let z : 0 ≤ most = omega arith in z
worth_most (some v) most each = each v refl

caught_most : (behind : List Valued) (most : ℕ) → ((v : Valued) → Memᴰ v behind → v.worth ≤ most) → (s m : ℕ) → caught behind s m ≤ most
unfolding caught
caught_most behind most each s m = worth_most (first_open behind s m) most (λ v e. each v (found_member behind s m e))

pub change_most :
    (gate : ℕ) (r : Ride) (behind : List Valued) (most : ℕ) → sum r.shares ≡ share_total → ((v : Valued) → Memᴰ v behind → v.worth ≤ most)
    → change_worth gate r behind ≤ most
unfolding change_worth
change_most gate r behind most whole each =
    let all : weigh r.shares r.arrives (λ minute. caught behind r.to (ready gate minute)) ≤ sum r.shares * most =
    weigh_most r.shares r.arrives (λ minute. caught behind r.to (ready gate minute)) most (λ m a b. caught_most behind most each r.to (ready gate m)) in
    let shared : sum r.shares * most ≡ 4096 * most = ap (λ k. k * most) whole in
    mean (weigh r.shares r.arrives (λ minute. caught behind r.to (ready gate minute))) most (omega arith)

-- getting off, where the ride lands by a minute and no ride behind is worth more than that minute
pub off_most :
    (goal : Goal) (r : Ride) (behind : List Valued) (minute : ℕ) → sum r.shares ≡ share_total → lands_by r ≤ minute
    → ((v : Valued) → Memᴰ v behind → v.worth ≤ ticks_a_minute * minute) → (w : ℕ) → off_in_ticks goal r behind ≡ some w → w ≤ ticks_a_minute * minute
unfolding land_worth
off_most goal r behind minute whole lands each w e =
    subst (λ x. x ≤ ticks_a_minute * minute) (off_worth goal r behind w (off_is goal r behind w e))
    (ifb (λ b. cond b (arrival_worth r) (change_worth goal.gate r behind) ≤ ticks_a_minute * minute) (eqb r.to goal.target)
    (λ _. let most : arrival_worth r ≤ 256 * lands_by r = arrival_most r whole in
    let z : arrival_worth r ≤ 256 * minute = omega arith in z)
    (λ _. change_most goal.gate r behind (ticks_a_minute * minute) whole each))
