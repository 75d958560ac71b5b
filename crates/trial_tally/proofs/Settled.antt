-- Document 01, "What every contract settles": any two outcomes that a call permits leave the same answer and the same numbers.
-- Assumes nothing.
use mathlib.Core.Path.{◌≡◌, sym, ◌∙◌}
use contract.Lifetimes.{Lfts}
use denote.Triple.Clauses.{AtExit}
use borrow.Fn.Kinds.{Dens, res_t, ended_of}
use Rattle.trial_tally.proofs.trial_tally.Kinds as tally_kinds
use Rattle.trial_tally.proofs.trial_tally.Reads as tally_reads
use Rattle.trial_tally.proofs.trial_table.Kinds as table_kinds
use Rattle.trial_tally.proofs.trial_table.Reads as table_reads

pub trial_tally_settled :
    (κs : Lfts 2) (arguments : Dens κs tally_kinds.ps) (one other : (res_t tally_kinds.r κs).Denot)
    (ending another : AtExit (ended_of 2 tally_kinds.ps tally_kinds.r) κs)
    → tally_reads.Post κs arguments one ending → tally_reads.Post κs arguments other another
    → (ending.1.1.1.0.now ≡ another.1.1.1.0.now) × (ending.1.1.0.now ≡ another.1.1.0.now)
trial_tally_settled κs arguments one other ending another first second = (first.0 ∙ sym second.0, first.1 ∙ sym second.1)

pub trial_table_settled :
    (κs : Lfts 3) (arguments : Dens κs table_kinds.ps) (one other : (res_t table_kinds.r κs).Denot)
    (ending another : AtExit (ended_of 3 table_kinds.ps table_kinds.r) κs)
    → table_reads.Post κs arguments one ending → table_reads.Post κs arguments other another
    → (ending.1.1.0.now ≡ another.1.1.0.now) × (ending.1.0.now ≡ another.1.0.now)
trial_table_settled κs arguments one other ending another first second = (first.0 ∙ sym second.0, first.1 ∙ sym second.1)
