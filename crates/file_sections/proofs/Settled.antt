-- Document 01, "What every contract settles": any two outcomes that a public function of the check's first step permits coincide. Assumes nothing.
use mathlib.Core.Path.{sym, ◌∙◌}
use Rattle.laws.proofs.Outcomes.{SettlesResult}
use Rattle.file_sections.proofs.read_sections.Kinds as read_sections_kinds
use Rattle.file_sections.proofs.read_sections.Reads as read_sections_reads
use Rattle.file_sections.proofs.length_in_range.Kinds as length_in_range_kinds
use Rattle.file_sections.proofs.length_in_range.Reads as length_in_range_reads
use Rattle.file_sections.proofs.version_rule.Kinds as version_rule_kinds
use Rattle.file_sections.proofs.version_rule.Reads as version_rule_reads
use Rattle.file_sections.proofs.stops_rule.Kinds as stops_rule_kinds
use Rattle.file_sections.proofs.stops_rule.Reads as stops_rule_reads
use Rattle.file_sections.proofs.rows_rule.Kinds as rows_rule_kinds
use Rattle.file_sections.proofs.rows_rule.Reads as rows_rule_reads
use Rattle.file_sections.proofs.rows_end.Kinds as rows_end_kinds
use Rattle.file_sections.proofs.rows_end.Reads as rows_end_reads
use Rattle.file_sections.proofs.BlockBytes.class_blocks.Kinds as class_blocks_kinds
use Rattle.file_sections.proofs.BlockBytes.class_blocks.Reads as class_blocks_reads
use Rattle.file_sections.proofs.delay_rule.Kinds as delay_rule_kinds
use Rattle.file_sections.proofs.delay_rule.Reads as delay_rule_reads
use Rattle.file_sections.proofs.shares_sum.Kinds as shares_sum_kinds
use Rattle.file_sections.proofs.shares_sum.Reads as shares_sum_reads

pub read_sections_settled : SettlesResult 1 read_sections_kinds.ps read_sections_kinds.r read_sections_reads.Post
read_sections_settled κs arguments one other ending another first second = first ∙ sym second

pub length_in_range_settled : SettlesResult 0 length_in_range_kinds.ps length_in_range_kinds.r length_in_range_reads.Post
length_in_range_settled κs arguments one other ending another first second = first ∙ sym second

pub version_rule_settled : SettlesResult 0 version_rule_kinds.ps version_rule_kinds.r version_rule_reads.Post
version_rule_settled κs arguments one other ending another first second = first ∙ sym second

pub stops_rule_settled : SettlesResult 0 stops_rule_kinds.ps stops_rule_kinds.r stops_rule_reads.Post
stops_rule_settled κs arguments one other ending another first second = first ∙ sym second

pub rows_rule_settled : SettlesResult 0 rows_rule_kinds.ps rows_rule_kinds.r rows_rule_reads.Post
rows_rule_settled κs arguments one other ending another first second = first ∙ sym second

pub rows_end_settled : SettlesResult 0 rows_end_kinds.ps rows_end_kinds.r rows_end_reads.Post
rows_end_settled κs arguments one other ending another first second = first ∙ sym second

pub class_blocks_settled : SettlesResult 2 class_blocks_kinds.ps class_blocks_kinds.r class_blocks_reads.Post
class_blocks_settled κs arguments one other ending another first second = first ∙ sym second

pub delay_rule_settled : SettlesResult 0 delay_rule_kinds.ps delay_rule_kinds.r delay_rule_reads.Post
delay_rule_settled κs arguments one other ending another first second = first ∙ sym second

pub shares_sum_settled : SettlesResult 1 shares_sum_kinds.ps shares_sum_kinds.r shares_sum_reads.Post
shares_sum_settled κs arguments one other ending another first second = first ∙ sym second
