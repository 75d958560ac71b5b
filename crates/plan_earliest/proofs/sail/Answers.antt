-- `plan_earliest::sail` meets its contract. Assumes nothing.
use Rattle.plan_earliest.specs.Cells.{missed, sailed}
use Rattle.plan_earliest.proofs.sail.Goals as goal

pub returns-then-board : goal.returns-then-board
returns-then-board c = sailed c.if-board.ensures c.land.ensures

pub returns-else-board : goal.returns-else-board
returns-else-board c = missed c.if-board.ensures
