-- Document 01, "What every contract settles": any two outcomes that what a line says permits coincide. Assumes nothing.
use mathlib.Core.Path.{sym, ◌∙◌}
use Rattle.laws.proofs.Outcomes.{SettlesResult}
use Rattle.gtfs_stop_time.proofs.call_of.Kinds as call_kinds
use Rattle.gtfs_stop_time.proofs.call_of.Reads as call_reads

pub call_of_settled : SettlesResult 1 call_kinds.ps call_kinds.r call_reads.Post
call_of_settled κs arguments one other ending another first second = first ∙ sym second
