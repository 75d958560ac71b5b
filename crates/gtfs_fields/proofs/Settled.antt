-- Document 01, "What every contract settles": any two numbers that reading a field permits coincide. Assumes nothing.
use mathlib.Core.Path.{sym, ◌∙◌}
use Rattle.laws.proofs.Outcomes.{SettlesResult}
use Rattle.gtfs_fields.proofs.whole_below.Kinds as whole_kinds
use Rattle.gtfs_fields.proofs.whole_below.Reads as whole_reads
use Rattle.gtfs_fields.proofs.time_within.Kinds as time_kinds
use Rattle.gtfs_fields.proofs.time_within.Reads as time_reads

pub whole_below_settled : SettlesResult 1 whole_kinds.ps whole_kinds.r whole_reads.Post
whole_below_settled κs arguments one other ending another first second = first ∙ sym second

pub time_within_settled : SettlesResult 1 time_kinds.ps time_kinds.r time_reads.Post
time_within_settled κs arguments one other ending another first second = first ∙ sym second
