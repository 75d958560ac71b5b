-- Document 01, "What every contract settles": any two outcomes that a call permits leave the same answer and the same slices. Assumes nothing.
use mathlib.Core.Path.{◌≡◌, sym, ◌∙◌}
use contract.Lifetimes.{Lfts}
use denote.Triple.Clauses.{AtExit}
use borrow.Fn.Kinds.{Dens, res_t, ended_of}
use Rattle.trial.proofs.trial_check.Kinds as check_kinds
use Rattle.trial.proofs.trial_check.Reads as check_reads
use Rattle.trial.proofs.trial_plan.Kinds as plan_kinds
use Rattle.trial.proofs.trial_plan.Reads as plan_reads
use Rattle.trial.proofs.trial_plan_margin.Kinds as margin_kinds
use Rattle.trial.proofs.trial_plan_margin.Reads as margin_reads
use Rattle.trial.proofs.trial_plan_gate.Kinds as gate_kinds
use Rattle.trial.proofs.trial_plan_gate.Reads as gate_reads
use Rattle.trial.proofs.trial_earliest.Kinds as earliest_kinds
use Rattle.trial.proofs.trial_earliest.Reads as earliest_reads
use Rattle.trial.proofs.trial_earliest_gate.Kinds as gated_kinds
use Rattle.trial.proofs.trial_earliest_gate.Reads as gated_reads
use Rattle.trial.proofs.trial_house.Kinds as house_kinds
use Rattle.trial.proofs.trial_house.Reads as house_reads

pub trial_check_settled :
    (κs : Lfts 2) (arguments : Dens κs check_kinds.ps) (one other : (res_t check_kinds.r κs).Denot)
    (ending another : AtExit (ended_of 2 check_kinds.ps check_kinds.r) κs)
    → check_reads.Post κs arguments one ending → check_reads.Post κs arguments other another
    → ending.1.0.now ≡ another.1.0.now
trial_check_settled κs arguments one other ending another first second = first ∙ sym second

pub trial_plan_settled :
    (κs : Lfts 4) (arguments : Dens κs plan_kinds.ps) (one other : (res_t plan_kinds.r κs).Denot)
    (ending another : AtExit (ended_of 4 plan_kinds.ps plan_kinds.r) κs)
    → plan_reads.Post κs arguments one ending → plan_reads.Post κs arguments other another
    → (ending.1.1.1.1.1.1.1.0.now ≡ another.1.1.1.1.1.1.1.0.now)
    × (ending.1.1.1.1.1.0.now ≡ another.1.1.1.1.1.0.now)
    × (ending.1.1.1.1.1.1.0.now ≡ another.1.1.1.1.1.1.0.now)
trial_plan_settled κs arguments one other ending another first second =
    (first.0 ∙ sym second.0, first.1 ∙ sym second.1, first.2 ∙ sym second.2)

pub trial_plan_margin_settled :
    (κs : Lfts 4) (arguments : Dens κs margin_kinds.ps) (one other : (res_t margin_kinds.r κs).Denot)
    (ending another : AtExit (ended_of 4 margin_kinds.ps margin_kinds.r) κs)
    → margin_reads.Post κs arguments one ending → margin_reads.Post κs arguments other another
    → (ending.1.1.1.1.1.1.1.1.0.now ≡ another.1.1.1.1.1.1.1.1.0.now)
    × (ending.1.1.1.1.1.1.0.now ≡ another.1.1.1.1.1.1.0.now)
    × (ending.1.1.1.1.1.1.1.0.now ≡ another.1.1.1.1.1.1.1.0.now)
trial_plan_margin_settled κs arguments one other ending another first second =
    (first.0 ∙ sym second.0, first.1 ∙ sym second.1, first.2 ∙ sym second.2)

pub trial_plan_gate_settled :
    (κs : Lfts 4) (arguments : Dens κs gate_kinds.ps) (one other : (res_t gate_kinds.r κs).Denot)
    (ending another : AtExit (ended_of 4 gate_kinds.ps gate_kinds.r) κs)
    → gate_reads.Post κs arguments one ending → gate_reads.Post κs arguments other another
    → (ending.1.1.1.1.1.1.1.1.1.0.now ≡ another.1.1.1.1.1.1.1.1.1.0.now)
    × (ending.1.1.1.1.1.1.1.0.now ≡ another.1.1.1.1.1.1.1.0.now)
    × (ending.1.1.1.1.1.1.1.1.0.now ≡ another.1.1.1.1.1.1.1.1.0.now)
trial_plan_gate_settled κs arguments one other ending another first second =
    (first.0 ∙ sym second.0, first.1 ∙ sym second.1, first.2 ∙ sym second.2)

pub trial_earliest_settled :
    (κs : Lfts 3) (arguments : Dens κs earliest_kinds.ps) (one other : (res_t earliest_kinds.r κs).Denot)
    (ending another : AtExit (ended_of 3 earliest_kinds.ps earliest_kinds.r) κs)
    → earliest_reads.Post κs arguments one ending → earliest_reads.Post κs arguments other another
    → (ending.1.1.1.1.1.0.now ≡ another.1.1.1.1.1.0.now)
    × (ending.1.1.1.1.0.now ≡ another.1.1.1.1.0.now)
trial_earliest_settled κs arguments one other ending another first second =
    (first.0 ∙ sym second.0, first.1 ∙ sym second.1)

pub trial_earliest_gate_settled :
    (κs : Lfts 3) (arguments : Dens κs gated_kinds.ps) (one other : (res_t gated_kinds.r κs).Denot)
    (ending another : AtExit (ended_of 3 gated_kinds.ps gated_kinds.r) κs)
    → gated_reads.Post κs arguments one ending → gated_reads.Post κs arguments other another
    → (ending.1.1.1.1.1.1.0.now ≡ another.1.1.1.1.1.1.0.now)
    × (ending.1.1.1.1.1.0.now ≡ another.1.1.1.1.1.0.now)
trial_earliest_gate_settled κs arguments one other ending another first second =
    (first.0 ∙ sym second.0, first.1 ∙ sym second.1)

pub trial_house_settled :
    (κs : Lfts 1) (arguments : Dens κs house_kinds.ps) (one other : (res_t house_kinds.r κs).Denot)
    (ending another : AtExit (ended_of 1 house_kinds.ps house_kinds.r) κs)
    → house_reads.Post κs arguments one ending → house_reads.Post κs arguments other another
    → ending.1.1.0.now ≡ another.1.1.0.now
trial_house_settled κs arguments one other ending another first second = first ∙ sym second
