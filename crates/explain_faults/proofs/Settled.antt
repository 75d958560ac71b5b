-- Document 01, "What every contract settles": any two rows that reading a broken file permits coincide. Assumes nothing.
use mathlib.Core.Path.{sym, ◌∙◌}
use Rattle.laws.proofs.Outcomes.{SettlesResult}
use Rattle.explain_faults.proofs.broken.row_in.Kinds as kinds
use Rattle.explain_faults.proofs.broken.row_in.Reads as reads

pub row_in_settled : SettlesResult 1 kinds.ps kinds.r reads.Post
row_in_settled κs arguments one other ending another first second = first.0 ∙ sym second.0
