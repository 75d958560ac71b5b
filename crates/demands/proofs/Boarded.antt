-- Every ride of the plan is boarded under some delays. Uses all that a sound timetable keeps.
use Prim.Native.Nat.{ℕ}
use mathlib.Core.List.{List, Memᴰ}
use mathlib.Core.Option.{some}
use mathlib.Core.Path.{◌≡◌, sym, ap, subst}
use native.Mathlib.Omega.{arith}
use Rattle.timetable.specs.Timetable.{Timetable}
use Rattle.query.specs.declared.Query.{Query}
use Rattle.plans.specs.Rides.{Ride}
use Rattle.plans.specs.Worth.{Valued, first_open, rides_of}
use Rattle.plans.specs.Journeys.{goal_of, ready_at}
use Rattle.plans.specs.Plan.{Plan, Window, up_to, extract, rides_from, chosen_for}
use Rattle.plans.specs.Sound.{Timely}
use Rattle.demands.specs.Walk.{Sailed, Delayed, start, choices, Boards}
use Rattle.plans.proofs.Open.{boards_stop, boards_minute, can_board}
use Rattle.plans.proofs.RideMinutes.{ride_delays}
use Rattle.plans.proofs.Made.{Made}
use Rattle.plans.proofs.Extracted.{extract_member, window_boards, window_until}
use Rattle.plans.proofs.PlanRides.{for_ordered, for_ride}
use Rattle.demands.proofs.PlanIsSafe.{plan_safe, plan_rising}
use Rattle.demands.proofs.Choices.{delayed_choice, delayed_rides}
use Rattle.demands.proofs.Forward.{AllTimed, forward_timed}
use Rattle.demands.proofs.Safe.{safe_forward}
use Rattle.demands.proofs.Meeting.{Meets, meets_sooner, meets_boards}
use Rattle.demands.proofs.EveryRide.{SomeShare, Entry, entries, up_to_is, taken_after}

module _ (t : Timetable) (timely : Timely t) (q : Query) (p : Plan) (made : Made t q p) where
  chosen : List Valued
  chosen = chosen_for t (goal_of q p.bound)

  windows : List Window
  windows = up_to q.source (ready_at q) (first_open chosen q.source (ready_at q))

  some_share : SomeShare chosen
  unfolding chosen
  some_share v among = omega (arith, ride_delays t timely v.ride (for_ride t timely (goal_of q p.bound) v among))

  -- what is met from the first window is met from the source at T + g
  entry_meets :
      {r : Ride} (e : Entry q.gate windows chosen (extract q.gate q.target windows chosen) r) → Meets q.gate r e.sailed q.source (ready_at q)
  unfolding chosen windows
  entry_meets {r} e =
      meets_sooner (ready_at q)
      (omega (
        arith,
        ap (λ w. w.minute) is,
        boards_minute e.first.ride e.window.stop e.window.minute (window_boards e.window e.first.ride e.within_window),
      ))
      (λ s there opens. can_board s.ride q.source e.first.ride.departs (boards_stop s.ride q.source (ready_at q) opens)
      (omega (
        arith,
        window_until e.window e.first.ride e.within_window,
        ap (λ w. w.until) is,
        taken_after chosen (extract q.gate q.target windows chosen) (for_ordered t timely (goal_of q p.bound))
            (λ v among. extract_member q.gate q.target chosen windows among) q.source (ready_at q) found.1 e.delayed s there opens,
      )))
      (subst (λ (stop : ℕ). Meets q.gate r e.sailed stop e.first.ride.departs) (ap (λ w. w.stop) is) e.meets)
    where
      found :
          (v : Valued) × (first_open chosen q.source (ready_at q) ≡ some v)
          × (e.window ≡ record { stop = q.source; minute = ready_at q; until = v.ride.departs })
      found = up_to_is q.source (ready_at q) (first_open chosen q.source (ready_at q)) e.among

      is : e.window ≡ record { stop = q.source; minute = ready_at q; until = found.0.ride.departs }
      is = found.2

  pub plan_boards :
      (v : Valued) → Memᴰ v p.rides
      → (sailed : List Sailed) × Memᴰ sailed (choices (rides_of p.rides)) × Boards q.gate q.target sailed (start q) v.ride
  unfolding chosen windows rides_from
  plan_boards v among = (
    e.sailed,
    delayed_choice delayed,
    meets_boards q.gate q.target e.sailed
        (subst (AllTimed q.target) (sym (delayed_rides delayed))
        (forward_timed (safe_forward timely q p.bound (rides_of p.rides) (plan_safe t timely q p made) (plan_rising t timely q p made))))
        (start q) (entry_meets e),
  )
    where
      e : Entry q.gate windows chosen (extract q.gate q.target windows chosen) v.ride
      e =
          entries q.gate q.target chosen (for_ordered t timely (goal_of q p.bound)) some_share windows v
          (subst (Memᴰ v) made.holds among)

      delayed : Delayed (rides_of p.rides) e.sailed
      delayed = subst (λ (l : List Valued). Delayed (rides_of l) e.sailed) (sym made.holds) e.delayed
