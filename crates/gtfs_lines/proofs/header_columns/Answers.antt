-- `gtfs_lines::header_columns` meets its contract: the header is read to its end. Assumes nothing.
use mathlib.Core.Path.{◌∙◌}
use Rattle.gtfs_lines.proofs.HeaderReads.{header_read}
use Rattle.gtfs_lines.proofs.header_columns.Goals as goal

pub returns : goal.returns
returns c = c.read_at.ensures ∙ header_read c.args.text.now
