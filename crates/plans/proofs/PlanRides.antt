-- The plan's rides are those of chosen rows, in their order and with their own worths. Uses all that a sound timetable keeps.
use Prim.Native.Nat.{zero-le}
use native.Mathlib.Nat.{le_refl}
use mathlib.Core.Bool.{true}
use mathlib.Core.List.{List, Memᴰ}
use mathlib.Core.Option.{some}
use mathlib.Core.Path.{◌≡◌, sym, ap, subst, ◌∙◌}
use Rattle.timetable.specs.Timetable.{Timetable}
use Rattle.plans.specs.declared.Goal.{Goal}
use Rattle.plans.specs.Sound.{Timely}
use Rattle.query.specs.declared.Query.{Query}
use Rattle.plans.specs.Rides.{IsRide, lands_by}
use Rattle.plans.specs.Journeys.{goal_of, within, ready_at}
use Rattle.plans.specs.Worth.{Valued, first_open}
use Rattle.plans.specs.Chosen.{in_ticks}
use Rattle.plans.specs.Plan.{Plan, chosen_for, rides_from}
use Rattle.plans.proofs.Open.{found_boards}
use Rattle.plans.proofs.BestRides.{Picked, chosen_picked, best_is_ride}
use Rattle.plans.proofs.FirstLeast.{chosen_ordered, chosen_gaining}
use Rattle.plans.proofs.Order.{Ordered}
use Rattle.plans.proofs.Gaining.{Gaining}
use Rattle.plans.proofs.OwnWorth.{OwnWorth}
use Rattle.plans.proofs.ChosenWorth.{chosen_own, best_within}
use Rattle.plans.proofs.Extracted.{up_to_wants, extract_member, extract_ordered, extract_own, extract_first}
use Rattle.plans.proofs.Made.{Made, chosen_for_lem}

module _ (t : Timetable) (timely : Timely t) where
  module _ (goal : Goal) where
    pub for_picked : (v : Valued) → Memᴰ v (chosen_for t goal) → Picked (in_ticks goal) t 0 v
    for_picked v m =
        chosen_picked (in_ticks goal) t 0 zero-le v (subst (λ (l : List Valued). Memᴰ v l) (chosen_for_lem t goal) m)

    pub for_ordered : Ordered (chosen_for t goal)
    for_ordered = subst (λ (l : List Valued). Ordered l) (sym (chosen_for_lem t goal))
        (chosen_ordered (in_ticks goal) t timely 0 zero-le)

    pub for_gaining : Gaining goal.margin (chosen_for t goal)
    for_gaining = subst (λ (l : List Valued). Gaining goal.margin l) (sym (chosen_for_lem t goal))
        (chosen_gaining (in_ticks goal) t timely 0 zero-le)

    pub for_own : OwnWorth goal.gate goal.target (chosen_for t goal)
    for_own = subst (λ (l : List Valued). OwnWorth goal.gate goal.target l) (sym (chosen_for_lem t goal)) (chosen_own t timely goal 0 zero-le)

    pub for_ride : (v : Valued) → Memᴰ v (chosen_for t goal) → IsRide t v.ride
    for_ride v m = let p = for_picked v m in best_is_ride (in_ticks goal) t v.ride.board p.inside v p.best

    pub for_within : (v : Valued) → Memᴰ v (chosen_for t goal) → within goal.bound (lands_by v.ride) ≡ true
    for_within v m = let p = for_picked v m in best_within t timely goal v.ride.board p.inside v p.best

  module _ (q : Query) (p : Plan) (made : Made t q p) where
    pub plan_member : (v : Valued) → Memᴰ v p.rides → Memᴰ v (chosen_for t (goal_of q p.bound))
    unfolding rides_from
    plan_member v m = extract_member q.gate q.target (chosen_for t (goal_of q p.bound)) _ (subst (λ (l : List Valued). Memᴰ v l) made.holds m)

    pub plan_ordered : Ordered p.rides
    unfolding rides_from
    plan_ordered = subst (λ (l : List Valued). Ordered l) (sym made.holds) (extract_ordered q.gate q.target (for_ordered (goal_of q p.bound)) _)

    pub plan_own : OwnWorth q.gate q.target p.rides
    unfolding rides_from
    plan_own =
        subst (λ (l : List Valued). OwnWorth q.gate q.target l) (sym made.holds)
        (extract_own q.gate q.target (for_own (goal_of q p.bound)) (for_ordered (goal_of q p.bound)) _)

    -- it begins with the first chosen row at the source at or after T + g
    pub plan_first : first_open p.rides q.source (ready_at q) ≡ some made.first
    unfolding rides_from
    plan_first =
        ap (λ (l : List Valued). first_open l q.source (ready_at q)) made.holds
        ∙ extract_first q.gate q.target (chosen_for t (goal_of q p.bound)) _ q.source (ready_at q) made.begins
        (up_to_wants q.source (ready_at q) made.first made.begins made.first.ride (found_boards _ q.source (ready_at q) made.begins)
        (le_refl made.first.ride.departs))
