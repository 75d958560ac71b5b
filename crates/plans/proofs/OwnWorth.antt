-- Lists in which each ride is worth what the rides behind it give, and can go on among them. Assumes nothing.
use Prim.Native.Nat.{ℕ, suc, ◌≤◌, ◌<◌}
use native.Mathlib.Omega.{arith}
use mathlib.Core.Bool.{cond}
use mathlib.Core.List.{List, [], ◌∷◌, Memᴰ}
use mathlib.Core.Logic.{◌≢◌}
use mathlib.Core.Option.{some}
use mathlib.Core.Path.{◌≡◌, refl, sym, ap, ◌∙◌}
use lib.ListN.{length}
use Rattle.laws.proofs.Tests.{ifb}
use Rattle.timetable.specs.Timetable.{maximum_delay}
use Rattle.plans.specs.Rides.{Ride, lands_by, ready}
use Rattle.plans.specs.Worth.{Valued, rides_of, first_open, land_worth, valued}
use Rattle.plans.specs.Chosen.{others}
use Rattle.plans.proofs.Open.{too_late}
use Rattle.plans.proofs.Choice.{same_minute, others_first}
use Rattle.plans.proofs.Weighing.{land_same}

-- a ride takes time, and has a delay
pub record Moves (r : Ride) : Type 0 where
  pub forward : r.departs < r.arrives
  pub delays : length r.shares ≡ suc (maximum_delay r.shares)

pub data OwnWorth (gate target : ℕ) : List Valued → Type 0 where
  nobody : OwnWorth gate target []
  ahead :
      {v : Valued} {vs : List Valued} → Moves v.ride → v.worth ≡ land_worth gate target v.ride vs
      → (v.ride.to ≢ target → (safe : Valued) × (first_open vs v.ride.to (ready gate (lands_by v.ride)) ≡ some safe)) → OwnWorth gate target vs
      → OwnWorth gate target (v ∷ vs)

-- what its own plan gives
pub own_valued : (gate target : ℕ) {vs : List Valued} → OwnWorth gate target vs → valued gate target (rides_of vs) ≡ vs
unfolding valued
own_valued gate target nobody = refl
own_valued gate target (ahead {v} {vs} moves worth on own) =
    ap (λ (l : List Valued). record { ride = v.ride; worth = land_worth gate target v.ride l } ∷ l) (own_valued gate target own)
    ∙ ap (λ w. record { ride = v.ride; worth = w } ∷ vs) (sym worth)

-- a list behind a ride may be put for another, if who lands finds the same rides to board
pub ahead_of :
    (gate target : ℕ) (v : Valued) (vs us : List Valued) → Moves v.ride
    → ((m : ℕ) → ready gate v.ride.arrives ≤ m → m ≤ ready gate (lands_by v.ride) → first_open us v.ride.to m ≡ first_open vs v.ride.to m)
    → v.worth ≡ land_worth gate target v.ride vs
    → (v.ride.to ≢ target → (safe : Valued) × (first_open vs v.ride.to (ready gate (lands_by v.ride)) ≡ some safe))
    → OwnWorth gate target us → OwnWorth gate target (v ∷ us)
ahead_of gate target v vs us moves same worth on own =
    ahead moves (worth ∙ sym (land_same gate target v.ride us vs moves.delays same))
    (λ away. let found = on away in (found.0, same (ready gate (lands_by v.ride)) (omega arith) (omega arith) ∙ found.1)) own

-- taking out what left no later than each of them departs changes no worth
pub others_own :
    (gate target : ℕ) (r : Ride) (vs : List Valued) → ((x : Valued) → Memᴰ x vs → r.departs ≤ x.ride.departs) → OwnWorth gate target vs
    → OwnWorth gate target (others r vs)
unfolding others
others_own gate target r [] rising own = own
others_own gate target r (v ∷ vs) rising (ahead moves worth on own) =
    let further : OwnWorth gate target (others r vs) = others_own gate target r vs (λ x m. rising x (Memᴰ.tail m)) own in
    ifb (λ b. OwnWorth gate target (cond b (others r vs) (v ∷ others r vs))) (same_minute v.ride r) (λ _. further)
    (λ _. ahead_of gate target v vs (others r vs) moves
    (λ m h _. others_first r vs v.ride.to m
    (too_late r v.ride.to m
    (let a : r.departs ≤ v.ride.departs = rising v (Memᴰ.head refl) in omega (arith, moves.forward)))) worth on further)
