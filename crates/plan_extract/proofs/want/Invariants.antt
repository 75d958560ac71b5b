use Rattle.plan_stacks.specs.Stacks.{stack_start, stack_size}
use Rattle.plan_extract.proofs.Passing.{Down}
use Rattle.plan_extract.proofs.want.Given as goal

abbrev pub invariant-loop-key : goal.invariant-loop-key
invariant-loop-key l =
    Down l.initial.work l.work (stack_start l.initial.work l.land) (stack_size l.initial.work l.land) l.soon l.last l.entry l.key

abbrev pub decreases-loop-key : goal.decreases-loop-key
decreases-loop-key l = l.entry
