-- `gtfs_lines::with_field` meets its contract. Assumes nothing.
use Rattle.gtfs_lines.specs.Cut.{with_field}
use Rattle.gtfs_lines.proofs.with_field.Goals as goal

pub returns : goal.returns
unfolding with_field
returns c = cc
