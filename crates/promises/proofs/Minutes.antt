-- A plan's minutes: its rides land by the last minute and the longest delay of the version, and no worth is beyond. Uses a sound file's rows.
use Prim.Native.Nat.{ℕ, ◌+◌, ◌*◌, ◌≤◌, ◌<◌}
use native.Mathlib.Nat.{le_trans, mul-le-mul_left}
use native.Mathlib.Omega.{arith}
use mathlib.Core.Bool.{cond}
use mathlib.Core.List.Memᴰ
use mathlib.Core.List.{List, [], ◌∷◌, Memᴰ}
use mathlib.Core.Path.{◌≡◌, refl, sym, ap, subst, ◌∙◌}
use lib.Dec.{eqb}
use Rattle.laws.proofs.Tests.{ifb}
use Rattle.laws.proofs.Members.{head_or_later, mapped_from}
use Rattle.clock.specs.Clock.{rounded_up}
use Rattle.clock.proofs.Days.{printed_day, printed_ticks}
use Rattle.timetable.specs.Timetable.{maximum_delay, row_of, shares_of}
use Rattle.timetable.specs.Verdict.{fine}
use Rattle.timetable.specs.Classes.{share_total, sum}
use Rattle.file_layout.specs.Format.{version_one}
use Rattle.file_layout.specs.Decode.{decode, trailer_of}
use Rattle.query.specs.declared.Query.{Query}
use Rattle.plans.specs.Rides.{Ride, IsRide, lands_by}
use Rattle.timetable.specs.Ticks.{ticks_a_minute}
use Rattle.plans.specs.Journeys.{ready_at}
use Rattle.plans.specs.Worth.{Valued, valued, rides_of, first_open, land_worth, arrival_worth, change_worth}
use Rattle.plans.specs.Chosen.{worth_of}
use Rattle.plans.proofs.Open.{found_member}
use Rattle.plans.proofs.RideMinutes.{ride_shares}
use Rattle.plans.proofs.EarliestSafe.{worth_is}
use Rattle.demands.specs.SafePlan.{sorted, expected_of}
use Rattle.demands.specs.Demanded.{Demanded}
use Rattle.demands.proofs.Sorting.{sorted_same}
use Rattle.plan_rows.proofs.Standing.{longest_small}
use Rattle.plan_scan.proofs.Worths.{arrival_most, change_most}
use Rattle.planner.specs.declared.Room.{Room}
use Rattle.planner.specs.Admission.{admission}
use Rattle.promises.specs.Returned.{InEightDays}
use Rattle.promises.proofs.Admitted.{is_timely, is_sound}
use Rattle.promises.proofs.PlanCall.{demanded_rides}

-- rides that land by a minute are worth no more than it
valued_most :
    (gate target minute : ℕ) (rides : List Ride) → ((r : Ride) → Memᴰ r rides → (sum r.shares ≡ share_total) × (lands_by r ≤ minute))
    → (v : Valued) → Memᴰ v (valued gate target rides) → v.worth ≤ ticks_a_minute * minute
unfolding valued land_worth
valued_most gate target minute [] each v m = absurd (Memᴰ.not-nil m)
valued_most gate target minute (r ∷ rides) each v m =
    let behind = valued_most gate target minute rides (λ x k. each x (Memᴰ.tail k)) in
    let own = each r (Memᴰ.head refl) in
    head_or_later (v.worth ≤ ticks_a_minute * minute) m
    (λ e. subst (λ (x : Valued). x.worth ≤ ticks_a_minute * minute) (sym e)
    (ifb (λ b. cond b (arrival_worth r) (change_worth gate r (valued gate target rides)) ≤ ticks_a_minute * minute) (eqb r.to target)
    (λ _. le_trans (arrival_most r own.0) (mul-le-mul_left ticks_a_minute own.1))
    (λ _. change_most gate r (valued gate target rides) (ticks_a_minute * minute) own.0 behind)))
    (λ k. behind v k)

module _ (file : List ℕ) (q : Query) (work other : Room) (call : admission version_one file q work other ≡ fine) where
  -- the last minute of version 1 and its longest delay
  ride_lands : (r : Ride) → IsRide (decode version_one file) r → lands_by r ≤ version_one.lastminute + version_one.delay
  ride_lands r is =
      let sound = is_sound file q work other call in
      let inside : r.leave < (trailer_of version_one file).rows = omega (arith, is.inside, sound.rows_count) in
      let row = sound.rows.own r.leave is.inside in
      let shares = sound.row_shares r.leave inside in
      let there = row_of (decode version_one file).rows r.leave in
      let table = shares_of (decode version_one file).tables there.class in
      let lands : there.arrival + maximum_delay table ≤ version_one.lastminute + version_one.delay =
      omega (arith, row.arrival, longest_small table version_one.delay shares.few_shares)
      in
      subst (λ (x : Ride). lands_by x ≤ version_one.lastminute + version_one.delay) (sym is.as_timed) lands

  -- a ride departs and arrives by the last minute
  ride_times : (r : Ride) → IsRide (decode version_one file) r → (r.departs ≤ version_one.lastminute) × (r.arrives ≤ version_one.lastminute)
  ride_times r is =
      let sound = is_sound file q work other call in
      let boards = sound.rows.own r.board (omega (arith, is.onward, is.inside)) in
      let leaves = sound.rows.own r.leave is.inside in
      subst (λ (x : Ride). (x.departs ≤ version_one.lastminute) × (x.arrives ≤ version_one.lastminute)) (sym is.as_timed)
      (boards.departure, leaves.arrival)

  module _ {rides : List Valued} {expected latest bound : ℕ} (demanded : Demanded (decode version_one file) q rides expected latest bound) where
    worths_most : (v : Valued) → Memᴰ v rides → v.worth ≤ ticks_a_minute * latest
    worths_most v m =
        valued_most q.gate q.target latest (rides_of rides)
        (λ r k. let found = mapped_from (λ (u : Valued). u.ride) rides k in (
          ride_shares (decode version_one file) (is_timely file q work other call) r (demanded.safe.are_rides r k),
          subst (λ (x : Ride). lands_by x ≤ latest) (sym found.2) (demanded.latest_minute.0 found.0 found.1),
        ))
        v (subst (λ (l : List Valued). Memᴰ v l) (sym demanded.own_worths) m)

    -- the expected ticks are the worth of the first ride from the source
    expected_worth : (v : Valued) × Memᴰ v rides × (v.worth ≡ expected)
    unfolding expected_of
    expected_worth =
        let own : valued q.gate q.target (sorted (rides_of rides)) ≡ rides =
        ap (valued q.gate q.target) (sorted_same demanded.by_boarding_row) ∙ demanded.own_worths in
        let first = ap (λ (l : List Valued). worth_of (first_open l q.source (ready_at q))) (sym own) ∙ demanded.expects in
        let found = worth_is (first_open rides q.source (ready_at q)) first in
        (found.0, found_member rides q.source (ready_at q) found.1, found.2)

  -- of every plan demanded: what the printed times and the desk's bytes are asked to hold
  pub plan_minutes : {rides : List Valued} {expected latest bound : ℕ} → Demanded (decode version_one file) q rides expected latest bound
      → (latest ≤ version_one.lastminute + version_one.delay) × (expected ≤ ticks_a_minute * latest)
      × ((v : Valued) → Memᴰ v rides → v.worth ≤ ticks_a_minute * latest)
  plan_minutes {latest} demanded =
      let last = demanded.latest_minute.1 in
      let first = expected_worth demanded in (
        subst (λ k. k ≤ version_one.lastminute + version_one.delay) last.2
            (ride_lands last.0.ride (demanded_rides demanded last.0 last.1)),
        subst (λ x. x ≤ ticks_a_minute * latest) first.2 (worths_most demanded first.0 first.1),
        worths_most demanded,
      )

  -- so every time that the sheet prints is of the days 1 to 8: the first line's two, and three for each ride
  pub plan_prints : {rides : List Valued} {expected latest bound : ℕ} → Demanded (decode version_one file) q rides expected latest bound
      → InEightDays (rounded_up expected) × InEightDays latest
      × ((v : Valued) → Memᴰ v rides → InEightDays v.ride.departs × InEightDays v.ride.arrives × InEightDays (rounded_up v.worth))
  plan_prints {expected} {latest} demanded =
      let minutes = plan_minutes demanded in
      let rounded : (ticks : ℕ) → ticks ≤ ticks_a_minute * latest → InEightDays (rounded_up ticks) =
      λ ticks h. printed_day 8 (rounded_up ticks) (omega (arith, minutes.0, printed_ticks ticks latest h)) in (
        rounded expected minutes.1,
        printed_day 8 latest (omega (arith, minutes.0)),
        λ v m. let times = ride_times v.ride (demanded_rides demanded v m) in (
          printed_day 8 v.ride.departs (omega (arith, times.0)),
          printed_day 8 v.ride.arrives (omega (arith, times.1)),
          rounded v.worth (minutes.2 v m),
        ),
      )
