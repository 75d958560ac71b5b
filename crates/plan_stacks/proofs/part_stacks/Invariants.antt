use Prim.Native.Nat.{◌+◌}
use mathlib.Core.Path.{◌≡◌}
use Rattle.plan_stacks.specs.Stacks.{stack_size}
use Rattle.plan_stacks.specs.Regions.{below}
use Rattle.plan_stacks.proofs.Parting.{Parting}
use Rattle.plan_stacks.proofs.part_stacks.Given as goal

abbrev pub invariant-loop-stop : goal.invariant-loop-stop
invariant-loop-stop l = (l.start ≡ l.fn.from + below (stack_size l.initial.work) l.stop) × Parting l.fn.from l.stop l.initial.work l.work
