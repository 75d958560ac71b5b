use Prim.Native.Nat.{◌<◌}
use Rattle.plan_stacks.specs.Search.{Narrowed}
use Rattle.plan_stacks.proofs.Stack.span_from_top.Given as goal

abbrev pub invariant-loop-step : goal.invariant-loop-step
invariant-loop-step l = (l.minute < 4294967296) × (0 < l.step) × Narrowed l.work l.self.start l.self.size l.minute 0 l.high

abbrev pub decreases-loop-step : goal.decreases-loop-step
decreases-loop-step l = l.high
