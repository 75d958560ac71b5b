-- With gate time 0 who is there at a minute is ready then, so that each definition which reads the gate is document 01's line. Assumes nothing.
use Prim.Native.Nat.{ℕ}
use native.Mathlib.Nat.{add-zero}
use mathlib.Core.Bool.{cond}
use mathlib.Core.List.{List, []}
use mathlib.Core.Option.{none, some}
use mathlib.Core.Path.{◌≡◌, refl, ap, ap₂, fun_ext, ◌∙◌}
use lib.Dec.{eqb}
use Rattle.timetable.specs.Classes.{share_total}
use Rattle.timetable.specs.Ticks.{quotient_up}
use Rattle.query.specs.Query.{with_gate}
use Rattle.plans.specs.Rides.{Ride, lands_by, ready}
use Rattle.plans.specs.Journeys.{within, bound_of, goal_of}
use Rattle.plans.specs.Worth.{Valued, weigh, first_open, caught, arrival_worth, change_worth}
use Rattle.plans.specs.Chosen.{when_safe, off_in_ticks, worth_of, off_in_minutes, in_minutes, scanned}
use Rattle.plans.specs.Plan.{earliest, chosen_for, up_to, windows_of, extract, rides_from, plan_within, plan_before}
use Rattle.plans.specs.NoGate.{change_ungated, PlansAsBefore}

pub ready_none : (minute : ℕ) → ready 0 minute ≡ minute
ready_none = add-zero

change_none : (gate : ℕ) → gate ≡ 0 → (r : Ride) (behind : List Valued) → change_worth gate r behind ≡ change_ungated r behind
unfolding change_worth
change_none gate none_asked r behind =
    ap (λ (f : ℕ → ℕ). quotient_up share_total (weigh r.shares r.arrives f))
    (fun_ext (λ minute. ap (caught behind r.to) (ap (λ g. ready g minute) none_asked ∙ ready_none minute)))

pub plans_as_before : PlansAsBefore
unfolding off_in_ticks off_in_minutes windows_of earliest rides_from plan_before
plans_as_before =
    record {
      change = λ r behind. change_none 0 refl r behind;
      ticks =
          λ goal none_asked r behind.
          ap₂
          (λ m worth. cond (eqb r.to goal.target) (cond (within goal.bound (lands_by r)) (some (arrival_worth r)) none)
          (when_safe (first_open behind r.to m) worth))
          (ap (λ g. ready g (lands_by r)) none_asked ∙ ready_none (lands_by r)) (change_none goal.gate none_asked r behind);
      minutes =
          λ target r behind.
          ap (λ m. cond (eqb r.to target) (some (lands_by r)) (worth_of (first_open behind r.to m))) (ready_none (lands_by r));
      windows =
          λ target r behind.
          ap₂ (λ from by. cond (eqb r.to target) [] (up_to r.to from (first_open behind r.to by))) (ready_none r.arrives)
          (ready_none (lands_by r));
      arrival = λ t q. ap (λ m. worth_of (first_open (scanned (in_minutes 0 q.target) t).chosen q.source m)) (ready_none q.minute);
      rides = λ q chosen. ap (λ m. extract 0 q.target (up_to q.source m (first_open chosen q.source m)) chosen) (ready_none q.minute);
      plan =
          λ t q e.
          ap (λ m. plan_within t (with_gate 0 q) (bound_of q e) (first_open (chosen_for t (goal_of (with_gate 0 q) (bound_of q e))) q.source m))
          (ready_none q.minute);
    }
