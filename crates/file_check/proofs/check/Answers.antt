-- `file_check::check` meets its contract: it is the check at version 1. Assumes nothing.
use Rattle.file_layout.specs.Check.{checked}
use Rattle.file_check.proofs.check.Goals as goal

pub returns : goal.returns
unfolding checked
returns c = c.check_as.ensures
