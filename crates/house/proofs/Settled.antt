-- Document 01, "What every contract settles": any two answers about a house table that the contract permits coincide. Assumes nothing.
use mathlib.Core.Path.{sym, ◌∙◌}
use Rattle.laws.proofs.Outcomes.{SettlesResult}
use Rattle.house.proofs.house_share.Kinds as house_kinds
use Rattle.house.proofs.house_share.Reads as house_reads

pub house_share_settled : SettlesResult 0 house_kinds.ps house_kinds.r house_reads.Post
house_share_settled κs arguments one other ending another first second = first ∙ sym second
