-- `text::put_ahead` meets its contract: the digits from the last to the first. Assumes nothing.
use native.Mathlib.Omega.{arith}
use Rattle.text.proofs.Digits.{counted_all, counted_on, counted_room, counted_end}
use Rattle.text.proofs.put_ahead.Goals as goal

pub loop-left-init : goal.loop-left-init
loop-left-init c = counted_all c.args.out.now c.args.at c.args.number (omega arith)

pub overflow_sub-start : goal.overflow_sub-start
overflow_sub-start c = counted_room c.loop-left.invariant (omega arith)

pub loop-left-preserved : goal.loop-left-preserved
loop-left-preserved c = rw c.digit.ensures (counted_on c.loop-left.start c.loop-left.invariant (omega arith) (omega arith))

pub returns : goal.returns
returns c = counted_end c.loop-left.invariant (omega arith) (omega arith) (omega arith)
