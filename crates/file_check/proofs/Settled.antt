-- Document 01, "What every contract settles": any two outcomes that a check or a look back permits coincide. Assumes nothing.
use mathlib.Core.Path.{sym, ◌∙◌}
use Rattle.laws.proofs.Outcomes.{SettlesResult}
use Rattle.file_check.proofs.check_as.Kinds as check_as_kinds
use Rattle.file_check.proofs.check_as.Reads as check_as_reads
use Rattle.file_check.proofs.check.Kinds as check_kinds
use Rattle.file_check.proofs.check.Reads as check_reads
use Rattle.file_check.proofs.RowBytes.look_back.Kinds as look_back_kinds
use Rattle.file_check.proofs.RowBytes.look_back.Reads as look_back_reads

pub check_settled : SettlesResult 1 check_kinds.ps check_kinds.r check_reads.Post
check_settled κs arguments one other ending another first second = first ∙ sym second

pub check_as_settled : SettlesResult 1 check_as_kinds.ps check_as_kinds.r check_as_reads.Post
check_as_settled κs arguments one other ending another first second = first ∙ sym second

pub look_back_settled : SettlesResult 2 look_back_kinds.ps look_back_kinds.r look_back_reads.Post
look_back_settled κs arguments one other ending another first second = first ∙ sym second
