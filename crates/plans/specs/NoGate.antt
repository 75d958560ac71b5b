-- Document 01's lines that document 02's gate time changes, as they stood: what each must be with gate time 0.
use Rattle.std.specs.Prelude.{ℕ, cond, List, [], ◌≡◌, eqb}
use Rattle.std.proofs.Math.Option.{none, some}
use Rattle.timetable.specs.Timetable.{Timetable}
use Rattle.timetable.specs.Classes.{share_total}
use Rattle.timetable.specs.Ticks.{quotient_up}
use Rattle.query.specs.declared.Query.{Query}
use Rattle.query.specs.Query.{with_gate}
use Rattle.plans.specs.declared.Goal.{Goal}
use Rattle.plans.specs.Rides.{Ride, lands_by}
use Rattle.plans.specs.Journeys.{within, bound_of, goal_of}
use Rattle.plans.specs.Worth.{Valued, weigh, first_open, caught, arrival_worth, change_worth}
use Rattle.plans.specs.Chosen.{when_safe, off_in_ticks, worth_of, off_in_minutes, in_minutes, scanned}
use Rattle.plans.specs.Plan.{earliest, chosen_for, up_to, windows_of, extract, rides_from, plan_within, plan_before}

-- Any other ride is worth (sum over v of share(v) × worth of the ride caught after v)/4,096, rounded up once
abbrev pub change_ungated : Ride → List Valued → ℕ
change_ungated r behind = quotient_up share_total (weigh r.shares r.arrives (λ minute. caught behind r.to minute))

pub record PlansAsBefore : Type 0 where
  pub change : (r : Ride) (behind : List Valued) → change_worth 0 r behind ≡ change_ungated r behind
  -- elsewhere only if a chosen row departs at or after a + M
  pub ticks :
      (goal : Goal) → goal.gate ≡ 0 → (r : Ride) (behind : List Valued)
      → off_in_ticks goal r behind
      ≡ cond (eqb r.to goal.target) (cond (within goal.bound (lands_by r)) (some (arrival_worth r)) none)
      (when_safe (first_open behind r.to (lands_by r)) (change_ungated r behind))
  pub minutes :
      (target : ℕ) (r : Ride) (behind : List Valued)
      → off_in_minutes 0 target r behind ≡ cond (eqb r.to target) (some (lands_by r)) (worth_of (first_open behind r.to (lands_by r)))
  -- from a up to and including the first at or after a + M
  pub windows :
      (target : ℕ) (r : Ride) (behind : List Valued)
      → windows_of 0 target r behind ≡ cond (eqb r.to target) [] (up_to r.to r.arrives (first_open behind r.to (lands_by r)))
  -- at the source at or after T
  pub arrival :
      (t : Timetable) (q : Query)
      → earliest t (with_gate 0 q) ≡ worth_of (first_open (scanned (in_minutes 0 q.target) t).chosen q.source q.minute)
  pub rides :
      (q : Query) (chosen : List Valued)
      → rides_from (with_gate 0 q) chosen ≡ extract 0 q.target (up_to q.source q.minute (first_open chosen q.source q.minute)) chosen
  pub plan :
      (t : Timetable) (q : Query) (e : ℕ)
      → plan_before t (with_gate 0 q) (some e)
      ≡ plan_within t (with_gate 0 q) (bound_of q e)
      (first_open (chosen_for t (goal_of (with_gate 0 q) (bound_of q e))) q.source q.minute)
