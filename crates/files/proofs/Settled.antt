-- Document 01, "What every contract settles": whether a file goes on is one answer. Assumes nothing.
use mathlib.Core.Path.{sym, ◌∙◌}
use Rattle.laws.proofs.Outcomes.{SettlesResult}
use Rattle.files.proofs.goes_on.Kinds as goes_on_kinds
use Rattle.files.proofs.goes_on.Reads as goes_on_reads

pub goes_on_settled : SettlesResult 0 goes_on_kinds.ps goes_on_kinds.r goes_on_reads.Post
goes_on_settled κs arguments one other ending another first second = first ∙ sym second
