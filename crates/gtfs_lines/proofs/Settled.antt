-- Document 01, "What every contract settles": any two outcomes that reading a line or a header permits coincide. Assumes nothing.
use mathlib.Core.Path.{sym, ◌∙◌}
use Rattle.laws.proofs.Outcomes.{SettlesResult}
use Rattle.gtfs_lines.proofs.line_at.Kinds as line_kinds
use Rattle.gtfs_lines.proofs.line_at.Reads as line_reads_lem
use Rattle.gtfs_lines.proofs.header_columns.Kinds as header_kinds
use Rattle.gtfs_lines.proofs.header_columns.Reads as header_reads

pub line_at_settled : SettlesResult 1 line_kinds.ps line_kinds.r line_reads_lem.Post
line_at_settled κs arguments one other ending another first second = first ∙ sym second

pub header_columns_settled : SettlesResult 1 header_kinds.ps header_kinds.r header_reads.Post
header_columns_settled κs arguments one other ending another first second = first ∙ sym second
