-- `plan_stacks::last_open` meets its contract: two looks in a span of three entries. Assumes nothing.
use native.Mathlib.Omega.{arith}
use Rattle.plan_stacks.proofs.Search.{parted}
use Rattle.plan_stacks.proofs.Stack.last_open.Goals as goal

pub returns : goal.returns
returns c = parted c.requires.0 (omega arith) (omega arith) (omega arith) c.open_at-2.ensures c.open_at-3.ensures
