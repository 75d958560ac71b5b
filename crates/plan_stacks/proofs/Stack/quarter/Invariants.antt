use Prim.Native.Nat.{◌+◌, ◌<◌}
use Rattle.plan_stacks.specs.Search.{Narrowed}
use Rattle.plan_stacks.proofs.Stack.quarter.Given as goal

abbrev pub invariant-loop-left : goal.invariant-loop-left
invariant-loop-left l = (l.minute < 4294967296) × Narrowed l.work l.start (l.initial.low + l.initial.left) l.minute l.low l.left

abbrev pub decreases-loop-left : goal.decreases-loop-left
decreases-loop-left l = l.left
