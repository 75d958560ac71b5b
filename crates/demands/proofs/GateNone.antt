-- With gate time 0 each of document 01's own words that reads the gate is as it stood. Assumes nothing.
use mathlib.Core.Bool.{cond}
use mathlib.Core.Path.{ap}
use lib.Dec.{eqb}
use Rattle.query.specs.Query.{with_gate}
use Rattle.plans.specs.Rides.{lands_by, boards}
use Rattle.plans.specs.Worth.{first_open}
use Rattle.plans.specs.Chosen.{worth_of}
use Rattle.plans.proofs.GateNone.{ready_none}
use Rattle.demands.specs.SafePlan.{worths_of, expected_of}
use Rattle.demands.specs.Walk.{first_sailed, landed, step}
use Rattle.demands.specs.NoGate.{DemandsAsBefore}

pub demands_as_before : DemandsAsBefore
unfolding expected_of step
demands_as_before =
    record {
      begins = λ q r. ap (boards r q.source) (ready_none q.minute);
      safe = λ r next. ap (boards next r.to) (ready_none (lands_by r));
      window = λ r next. ap (boards next r.to) (ready_none r.arrives);
      expected = λ q rides. ap (λ m. worth_of (first_open (worths_of (with_gate 0 q) rides) q.source m)) (ready_none q.minute);
      walk =
          λ q sailed at.
          ap (λ m. cond (eqb at.stop q.target) at (landed at (first_sailed sailed at.stop m))) (ready_none at.minute);
    }
