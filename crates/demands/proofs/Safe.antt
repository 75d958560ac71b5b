-- A safe plan by boarding row rising, over a timely timetable, goes forward: what a ride leads to stands behind it.
-- Uses all that a sound timetable keeps.
use Prim.Native.Nat.{ℕ, ◌≤◌, ◌<◌}
use mathlib.Core.List.Memᴰ
use mathlib.Core.List.{List, [], ◌∷◌, Memᴰ}
use mathlib.Core.Logic.{◌⊎◌, inl, inr}
use mathlib.Core.Path.{◌≡◌, refl, ap}
use native.Mathlib.Omega.{arith}
use borrow.Author.Tests.{eqb-true, eqb-false}
use lib.Dec.{T, eqb}
use Rattle.laws.proofs.Tests.{ifb, T_true}
use Rattle.timetable.specs.Timetable.{Timetable}
use Rattle.query.specs.declared.Query.{Query}
use Rattle.plans.specs.Rides.{Ride, IsRide, lands_by, ready, boards}
use Rattle.demands.specs.SafePlan.{SafePlan, ByBoardingRow, before_all, sorted}
use Rattle.plans.specs.Sound.{Timely}
use Rattle.demands.proofs.Forward.{Timed, AllTimed, Served, over, onward, Forward, forward_timed}
use Rattle.demands.proofs.Sorting.{safe_sorted}
use Rattle.plans.proofs.Open.{boards_minute}
use Rattle.plans.proofs.RideMinutes.{ride_shares, departs_before, board_inside}

module _ {t : Timetable} (timely : Timely t) where
  rides_ordered : {r next : Ride} → IsRide t r → IsRide t next → r.board ≤ next.board → r.departs ≤ next.departs
  rides_ordered {r} {next} is is_next before =
      omega (
        arith,
        ap (λ x. x.departs) is.as_timed,
        ap (λ x. x.departs) is_next.as_timed,
        timely.rising r.board next.board before (board_inside t timely next is_next),
      )

module _ {t : Timetable} (q : Query) (bound : ℕ) (all : List Ride) (safe : SafePlan t q bound all) where
  -- from each ride's latest landing one is served by the plan
  pub plan_serves : (r : Ride) → Memᴰ r all → Served q.target all r.to (ready q.gate (lands_by r))
  plan_serves r among =
      ifb (λ b. eqb r.to q.target ≡ b → Served q.target all r.to (ready q.gate (lands_by r))) (eqb r.to q.target)
      (λ ends _. over (eqb-true r.to q.target ends))
      (λ elsewhere _. next (safe.goes_on r among (eqb-false r.to q.target elsewhere))) refl
    where
      next : (next : Ride) × Memᴰ next all × T (boards next r.to (ready q.gate (lands_by r))) → Served q.target all r.to (ready q.gate (lands_by r))
      next found = onward found.0 found.1 found.2

module _ {t : Timetable} (timely : Timely t) (q : Query) (bound : ℕ) (all : List Ride) (safe : SafePlan t q bound all) where
  -- a part of the plan, up to its end: what departs after one of its rides is in it
  Closing : List Ride → Type 0
  Closing rides =
      ((r : Ride) → Memᴰ r rides → Memᴰ r all)
      × ((r later : Ride) → Memᴰ r rides → Memᴰ later all → r.departs < later.departs → Memᴰ later rides)

  part_forward : (rides : List Ride) → ByBoardingRow rides → Closing rides → Forward q.gate q.target rides
  unfolding Closing
  part_forward [] rising closing = Forward.none
  part_forward (r ∷ rides) (before_all before rising) closing =
      Forward.one timed (serves (plan_serves q bound all safe r here))
      (part_forward rides rising (λ u among. closing.0 u (Memᴰ.tail among), keeps))
    where
      here : Memᴰ r all
      here = closing.0 r (Memᴰ.head refl)

      is : IsRide t r
      is = safe.are_rides r here

      in_order : (next : Ride) → Memᴰ next rides → r.departs ≤ next.departs
      in_order next among =
          rides_ordered timely is (safe.are_rides next (closing.0 next (Memᴰ.tail among))) (omega (arith, before next among))

      timed : Timed q.target r rides
      timed =
          record {
            off_target = safe.none_at_target r here;
            forward = departs_before t timely r is;
            full = ride_shares t timely r is;
            in_order = in_order;
          }

      behind : (later : Ride) → Memᴰ later all → r.departs < later.departs → Memᴰ later rides
      behind later among after = pick (Memᴰ.cases_cons (closing.1 r later (Memᴰ.head refl) among after))
        where
          pick : (later ≡ r) ⊎ Memᴰ later rides → Memᴰ later rides
          pick (inl same) = absurd (let z : ⊥ = omega (arith, ap (λ x. x.departs) same) in z)
          pick (inr there) = there

      serves : Served q.target all r.to (ready q.gate (lands_by r)) → Served q.target rides r.to (ready q.gate (lands_by r))
      serves (over there) = over there
      serves (onward next among opens) =
          onward next
          (behind next among (omega (arith, boards_minute next r.to (ready q.gate (lands_by r)) (T_true opens), departs_before t timely r is))) opens

      keeps : (u later : Ride) → Memᴰ u rides → Memᴰ later all → u.departs < later.departs → Memᴰ later rides
      keeps u later u_among among after = behind later among (omega (arith, in_order u u_among))

  pub safe_forward : ByBoardingRow all → Forward q.gate q.target all
  unfolding Closing
  safe_forward rising = part_forward all rising (λ r among. among, λ r later _ among _. among)

-- a safe plan's rides, taken by boarding row, depart in order and move forward
pub safe_timed :
    {t : Timetable} → Timely t → (q : Query) (bound : ℕ) (rides : List Ride) → SafePlan t q bound rides → AllTimed q.target (sorted rides)
safe_timed {t} timely q bound rides safe =
    let in_order = safe_sorted t q bound rides safe in
    forward_timed (safe_forward timely q bound (sorted rides) in_order.0 in_order.1)
