use Rattle.text.proofs.Digits.{Counted}
use Rattle.text.proofs.put_ahead.Given as goal

abbrev pub invariant-loop-left : goal.invariant-loop-left
invariant-loop-left l = Counted l.initial.out l.at l.number l.out l.start l.left

abbrev pub decreases-loop-left : goal.decreases-loop-left
decreases-loop-left l = l.left
