use Rattle.plan_landing.proofs.Turns.{Going}
use Rattle.plan_landing.proofs.changing.Given as goal

abbrev pub invariant-loop-departure : goal.invariant-loop-departure
invariant-loop-departure l = Going l.work l.tables l.fn.at l.soon l.last l.shares l.entry l.departure l.done l.sum

abbrev pub decreases-loop-departure : goal.decreases-loop-departure
decreases-loop-departure l = l.entry
