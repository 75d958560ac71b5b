-- Each ride of a safe plan is valued, and every safe plan has an expected arrival. Uses all that a sound timetable keeps.
use Prim.Native.Nat.{ℕ}
use mathlib.Core.Bool.{true}
use mathlib.Core.List.Memᴰ
use mathlib.Core.List.{List, [], ◌∷◌, Memᴰ}
use mathlib.Core.Option.{some}
use mathlib.Core.Path.{◌≡◌, refl, sym, ap, subst, ◌∙◌}
use Rattle.laws.proofs.Tests.{T_true}
use Rattle.laws.proofs.Members.{head_or_later}
use Rattle.timetable.specs.Timetable.{Timetable}
use Rattle.query.specs.declared.Query.{Query}
use Rattle.plans.specs.Rides.{Ride, boards}
use Rattle.plans.specs.Journeys.{ready_at}
use Rattle.plans.specs.Worth.{Valued, valued, land_worth}
use Rattle.plans.specs.Chosen.{worth_of}
use Rattle.demands.specs.SafePlan.{SafePlan, sorted, worths_of, expected_of}
use Rattle.plans.proofs.Open.{finds}
use Rattle.plans.proofs.EarliestSafe.{worth_of_lem}
use Rattle.demands.proofs.Sorting.{safe_sorted}

-- each ride of a list is valued, and nothing else
pub valued_ride : (gate target : ℕ) (rides : List Ride) {v : Valued} → Memᴰ v (valued gate target rides) → Memᴰ v.ride rides
unfolding valued
valued_ride gate target [] m = absurd (Memᴰ.not-nil m)
valued_ride gate target (r ∷ rides) {v} m =
    head_or_later (Memᴰ v.ride (r ∷ rides)) m (λ q. Memᴰ.head (ap (λ (x : Valued). x.ride) q))
    (λ n. Memᴰ.tail (valued_ride gate target rides n))

pub ride_valued : (gate target : ℕ) (rides : List Ride) {r : Ride} → Memᴰ r rides → (v : Valued) × Memᴰ v (valued gate target rides) × (v.ride ≡ r)
unfolding valued
ride_valued gate target [] m = absurd (Memᴰ.not-nil m)
ride_valued gate target (x ∷ rides) {r} m =
    head_or_later ((v : Valued) × Memᴰ v (valued gate target (x ∷ rides)) × (v.ride ≡ r)) m
    (λ q. (record { ride = x; worth = land_worth gate target x (valued gate target rides) }, Memᴰ.head refl, sym q))
    (λ n. let found = ride_valued gate target rides n in (found.0, Memᴰ.tail found.1, found.2))

pub expected_stands :
    (t : Timetable) (q : Query) (bound : ℕ) (rides : List Ride) → SafePlan t q bound rides → (x : ℕ) × (expected_of q rides ≡ some x)
unfolding expected_of
expected_stands t q bound rides plan =
    let begins = (safe_sorted t q bound rides plan).0.begins in
    let v = ride_valued q.gate q.target (sorted rides) begins.1 in
    let first = finds (worths_of q rides) q.source (ready_at q) v.1
    (subst (λ (r : Ride). boards r q.source (ready_at q) ≡ true) (sym v.2) (T_true begins.2)) in
    (first.0.worth, ap worth_of first.1 ∙ worth_of_lem first.0)
