-- Document 01, "What every contract settles": any two outcomes that a call permits coincide. Assumes nothing.
use mathlib.Core.Path.{◌≡◌, sym, ◌∙◌}
use contract.Lifetimes.{Lfts}
use denote.Triple.Clauses.{AtExit}
use borrow.Fn.Kinds.{Dens, res_t, ended_of}
use Rattle.laws.proofs.Outcomes.{SettlesResult}
use Rattle.tally.proofs.tally_landing.Kinds as tally_kinds
use Rattle.tally.proofs.tally_landing.Reads as tally_reads
use Rattle.tally.proofs.tally_log.Kinds as log_kinds
use Rattle.tally.proofs.tally_log.Reads as log_reads
use Rattle.tally.proofs.counts_rule.Kinds as rule_kinds
use Rattle.tally.proofs.counts_rule.Reads as rule_reads

pub tally_landing_settled :
    (κs : Lfts 1) (arguments : Dens κs tally_kinds.ps) (one other : (res_t tally_kinds.r κs).Denot)
    (ending another : AtExit (ended_of 1 tally_kinds.ps tally_kinds.r) κs)
    → tally_reads.Post κs arguments one ending → tally_reads.Post κs arguments other another
    → (one ≡ other) × (ending.1.0.now ≡ another.1.0.now)
tally_landing_settled κs arguments one other ending another first second = (first.0 ∙ sym second.0, first.1 ∙ sym second.1)

pub tally_log_settled :
    (κs : Lfts 2) (arguments : Dens κs log_kinds.ps) (one other : (res_t log_kinds.r κs).Denot)
    (ending another : AtExit (ended_of 2 log_kinds.ps log_kinds.r) κs)
    → log_reads.Post κs arguments one ending → log_reads.Post κs arguments other another
    → (one ≡ other) × (ending.1.0.now ≡ another.1.0.now)
tally_log_settled κs arguments one other ending another first second = (first.0 ∙ sym second.0, first.1 ∙ sym second.1)

pub counts_rule_settled : SettlesResult 1 rule_kinds.ps rule_kinds.r rule_reads.Post
counts_rule_settled κs arguments one other ending another first second = first ∙ sym second
