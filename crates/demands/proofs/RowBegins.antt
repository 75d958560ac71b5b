-- A row has a worth exactly if it begins a safe journey within the bound. Uses rising departures and rows that arrive after they depart.
use Prim.Native.Nat.{ℕ, suc, ◌<◌}
use mathlib.Core.List.{Memᴰ}
use mathlib.Core.Logic.{◌↔◌}
use mathlib.Core.Option.{some}
use mathlib.Core.Path.{◌≡◌, subst}
use lib.Dec.{T}
use lib.ListN.{length}
use Rattle.laws.proofs.Tests.{T_true, true_T}
use Rattle.timetable.specs.Timetable.{Timetable}
use Rattle.plans.specs.declared.Goal.{Goal}
use Rattle.plans.specs.Sound.{Timely}
use Rattle.plans.specs.Rides.{Ride, ride_of}
use Rattle.plans.specs.Journeys.{Onward, leaves, changes, Begins, within}
use Rattle.plans.specs.Worth.{Valued}
use Rattle.plans.specs.Chosen.{in_ticks}
use Rattle.demands.specs.Words.{HasWorth}
use Rattle.plans.proofs.Open.{found_member, found_boards}
use Rattle.plans.proofs.AtMost.{found_at_most}
use Rattle.plans.specs.FromRow.{off_at}
use Rattle.plans.proofs.BestRides.{best_boards, row_is_ride, boarded_earlier, each_best}
use Rattle.plans.proofs.RideMinutes.{board_inside}
use Rattle.plans.proofs.EarliestSafe.{onward_ride, onward_earlier}
use Rattle.plans.proofs.InTicks.{chosen_in_ticks, best_in_ticks, Off, arrives, goes_on, off_is}
use Rattle.demands.proofs.PlanExists.{ticks_exist}
use Rattle.demands.proofs.BestRide.{weighs, has_worth}

module _ (t : Timetable) (timely : Timely t) (goal : Goal) where
  -- a safe journey goes on from ride r, and its last a + M is within the bound
  abbrev pub Reaches : Ride → Type 0
  Reaches r = (end : ℕ) × Onward t goal.gate goal.target r end × T (within goal.bound end)

  -- each best ride begins one
  ticks_reach : (i : ℕ) → i < length t.rows → (v : Valued) → best_in_ticks t goal i ≡ some v → Reaches v.ride
  unfolding off_at
  ticks_reach =
      each_best (in_ticks goal) t (λ v. Reaches v.ride) (λ i h later w e. landing i h later w (off_is goal _ _ w e))
      (λ i j before inside same u e on. (
        on.0,
        onward_earlier t goal.gate goal.target i on.1
            (boarded_earlier (in_ticks goal) t i j before same u.ride (best_boards (in_ticks goal) t j inside u e).row
            (onward_ride t goal.gate goal.target on.1)),
        on.2,
      ))
    where
      landing :
          (i : ℕ) → i < length t.rows → ((u : Valued) → Memᴰ u (chosen_in_ticks t goal (suc i)) → Reaches u.ride) → (w : ℕ)
          → Off goal (ride_of t i i) (chosen_in_ticks t goal (suc i)) w → Reaches (ride_of t i i)
      landing i h later w (arrives there b) = (_, leaves (row_is_ride (in_ticks goal) t i h) there, true_T b)
      landing i h later w (goes_on {u = u} away e) =
          let on = later u (found_member _ _ _ e) in
          (on.0, changes (row_is_ride (in_ticks goal) t i h) (true_T (found_boards _ _ _ e)) on.1, on.2)

  pub row_reaches : (i : ℕ) → ((w : ℕ) × HasWorth t goal i w) ↔ ((r : Ride) × (r.board ≡ i) × Reaches r)
  row_reaches i = (
    λ worth. let found = weighs t goal i worth.0 worth.1 in
        (found.ride.ride, found.at.row, ticks_reach i found.inside found.ride found.best),
    λ begun. let on = begun.2.1 in
        let some' = ticks_exist t timely goal on (T_true begun.2.2) in
        found_at_most ((w : ℕ) × HasWorth t goal i w) some'.1
        (λ v e _. (
          v.worth,
          subst (λ k. HasWorth t goal k v.worth) begun.1
              (has_worth t goal begun.0.board (board_inside t timely begun.0 (onward_ride t goal.gate goal.target on)) v e),
        )),
  )

-- without a bound: exactly if it begins a safe journey
pub row_begins :
    (t : Timetable) → Timely t → (gate target margin i : ℕ)
    → ((w : ℕ) × HasWorth t (record { target = target; bound = 0; margin = margin; gate = gate }) i w) ↔ Begins t gate target i
row_begins t timely gate target margin i =
    let exactly = row_reaches t timely (record { target = target; bound = 0; margin = margin; gate = gate }) i in (
      λ worth. let r = exactly.0 worth in (r.0, r.2.0, r.1, r.2.1),
      λ begun. exactly.1 (begun.0, begun.2, (begun.1, begun.3, tt)),
    )
