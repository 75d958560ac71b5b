-- `planner::enough` meets its contract: what is needed against what is lent. Assumes nothing.
use mathlib.Core.Path.{ap}
use lib.Dec.{leb}
use Rattle.planner.specs.Admission.{enough}
use Rattle.planner.proofs.enough.Goals as goal

pub returns : goal.returns
unfolding enough
returns c = ap (λ n. leb n c.args.room.lent) c.needed.ensures
