-- Document 01, "What every contract settles": any two outcomes that a reader of the file permits coincide. Assumes nothing.
use mathlib.Core.Path.{sym, ◌∙◌}
use Rattle.laws.proofs.Outcomes.{SettlesResult}
use Rattle.file_layout.proofs.trailer_at.Kinds as trailer_kinds
use Rattle.file_layout.proofs.trailer_at.Reads as trailer_reads
use Rattle.file_layout.proofs.row_at.Kinds as row_kinds
use Rattle.file_layout.proofs.row_at.Reads as row_reads

pub trailer_at_settled : SettlesResult 1 trailer_kinds.ps trailer_kinds.r trailer_reads.Post
trailer_at_settled κs arguments one other ending another first second = first.0 ∙ sym second.0

pub row_at_settled : SettlesResult 1 row_kinds.ps row_kinds.r row_reads.Post
row_at_settled κs arguments one other ending another first second = first.0 ∙ sym second.0
