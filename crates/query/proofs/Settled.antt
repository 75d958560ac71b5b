-- Document 01, "What every contract settles": any two outcomes that a query's calls permit coincide. Assumes nothing.
use mathlib.Core.Path.{sym, ◌∙◌}
use Rattle.laws.proofs.Outcomes.{SettlesResult}
use Rattle.query.proofs.query_of.Kinds as numbers_kinds
use Rattle.query.proofs.query_of.Reads as numbers_reads
use Rattle.query.proofs.query_in.Kinds as bytes_kinds
use Rattle.query.proofs.query_in.Reads as bytes_reads
use Rattle.query.proofs.query_rule.Kinds as rule_kinds
use Rattle.query.proofs.query_rule.Reads as rule_reads
use Rattle.query.proofs.code_rule.Kinds as code_kinds
use Rattle.query.proofs.code_rule.Reads as code_reads
use Rattle.query.proofs.margin_rule.Kinds as margin_kinds
use Rattle.query.proofs.margin_rule.Reads as margin_reads
use Rattle.query.proofs.gate_rule.Kinds as gate_kinds
use Rattle.query.proofs.gate_rule.Reads as gate_reads

pub query_of_settled : SettlesResult 0 numbers_kinds.ps numbers_kinds.r numbers_reads.Post
query_of_settled κs arguments one other ending another first second = first ∙ sym second

pub query_in_settled : SettlesResult 1 bytes_kinds.ps bytes_kinds.r bytes_reads.Post
query_in_settled κs arguments one other ending another first second = first ∙ sym second

pub query_rule_settled : SettlesResult 0 rule_kinds.ps rule_kinds.r rule_reads.Post
query_rule_settled κs arguments one other ending another first second = first ∙ sym second

pub code_rule_settled : SettlesResult 0 code_kinds.ps code_kinds.r code_reads.Post
code_rule_settled κs arguments one other ending another first second = first ∙ sym second

pub margin_rule_settled : SettlesResult 0 margin_kinds.ps margin_kinds.r margin_reads.Post
margin_rule_settled κs arguments one other ending another first second = first ∙ sym second

pub gate_rule_settled : SettlesResult 0 gate_kinds.ps gate_kinds.r gate_reads.Post
gate_rule_settled κs arguments one other ending another first second = first ∙ sym second
