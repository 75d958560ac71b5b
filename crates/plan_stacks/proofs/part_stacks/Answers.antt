-- `plan_stacks::part_stacks` meets its contract: the stops below `stop` have their regions. Assumes nothing.
use native.Mathlib.Omega.{arith}
use Rattle.timetable.specs.Limits.{most_stops}
use Rattle.plan_stacks.specs.Stacks.{stack_size}
use Rattle.plan_stacks.specs.Regions.{below}
use Rattle.plan_stacks.proofs.Regions.{below_later, below_next}
use Rattle.plan_stacks.proofs.Parting.{parting_begins, parting_on, size_left}
use Rattle.plan_stacks.proofs.part_stacks.Goals as goal

pub loop-stop-init : goal.loop-stop-init
unfolding below
loop-stop-init c = (omega arith, parting_begins _ _)

pub overflow_add-start-in-loop-stop : goal.overflow_add-start-in-loop-stop
overflow_add-start-in-loop-stop c =
    let l = c.loop-stop in
    omega (arith, size_left l.stop l.start l.invariant.1 (omega arith), below_later (stack_size c.args.work.now) l.stop most_stops (omega arith))

pub loop-stop-preserved : goal.loop-stop-preserved
loop-stop-preserved c =
    let l = c.loop-stop in (
      omega (arith, size_left l.stop l.start l.invariant.1 (omega arith), below_next (stack_size c.args.work.now) l.stop),
      parting_on c.args.from l.stop l.start c.args.work.now l.work (omega (arith, l.invariant.1.outside.same_length)) (omega arith)
          l.invariant.0
          l.invariant.1,
    )
