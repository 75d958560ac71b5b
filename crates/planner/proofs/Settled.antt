-- Document 01, "What every contract settles": any two outcomes that an entry point permits coincide, slices too. Assumes nothing.
use mathlib.Core.Path.{◌≡◌, sym, ◌∙◌}
use contract.Lifetimes.{Lfts}
use denote.Triple.Clauses.{AtExit}
use borrow.Fn.Kinds.{Dens, res_t, ended_of}
use Rattle.laws.proofs.Outcomes.{SettlesResult}
use Rattle.planner.proofs.admit.Kinds as admit_kinds
use Rattle.planner.proofs.admit.Reads as admit_reads
use Rattle.planner.proofs.in_cells.Kinds as cells_kinds
use Rattle.planner.proofs.in_cells.Reads as cells_reads
use Rattle.planner.proofs.admit_checked.Kinds as behind_kinds
use Rattle.planner.proofs.admit_checked.Reads as behind_reads
use Rattle.planner.proofs.plan.Kinds as plan_kinds
use Rattle.planner.proofs.plan.Reads as plan_reads
use Rattle.planner.proofs.plan_checked.Kinds as checked_kinds
use Rattle.planner.proofs.plan_checked.Reads as checked_reads
use Rattle.planner.proofs.earliest_safe_arrival.Kinds as arrival_kinds
use Rattle.planner.proofs.earliest_safe_arrival.Reads as arrival_reads
use Rattle.planner.proofs.earliest_with_gate.Kinds as gate_kinds
use Rattle.planner.proofs.earliest_with_gate.Reads as gate_reads
use Rattle.planner.proofs.earliest_checked.Kinds as checked_arrival_kinds
use Rattle.planner.proofs.earliest_checked.Reads as checked_arrival_reads

pub admit_settled : SettlesResult 1 admit_kinds.ps admit_kinds.r admit_reads.Post
admit_settled κs arguments one other ending another first second = first ∙ sym second

pub in_cells_settled : SettlesResult 0 cells_kinds.ps cells_kinds.r cells_reads.Post
in_cells_settled κs arguments one other ending another first second = first ∙ sym second

pub admit_checked_settled : SettlesResult 0 behind_kinds.ps behind_kinds.r behind_reads.Post
admit_checked_settled κs arguments one other ending another first second = first ∙ sym second

-- the answer, then work, then the plan slice
pub plan_settled :
    (κs : Lfts 3) (arguments : Dens κs plan_kinds.ps) (one other : (res_t plan_kinds.r κs).Denot)
    (ending another : AtExit (ended_of 3 plan_kinds.ps plan_kinds.r) κs) → plan_reads.Post κs arguments one ending
    → plan_reads.Post κs arguments other another
    → (one ≡ other) × (ending.1.1.0.now ≡ another.1.1.0.now) × (ending.1.1.1.0.now ≡ another.1.1.1.0.now)
plan_settled κs arguments one other ending another first second =
    (first.0 ∙ sym second.0, first.1 ∙ sym second.1, first.2 ∙ sym second.2)

pub plan_checked_settled :
    (κs : Lfts 3) (arguments : Dens κs checked_kinds.ps) (one other : (res_t checked_kinds.r κs).Denot)
    (ending another : AtExit (ended_of 3 checked_kinds.ps checked_kinds.r) κs) → checked_reads.Post κs arguments one ending
    → checked_reads.Post κs arguments other another
    → (one ≡ other)
    × (ending.1.1.1.1.0.now ≡ another.1.1.1.1.0.now) × (ending.1.1.1.1.1.0.now ≡ another.1.1.1.1.1.0.now)
plan_checked_settled κs arguments one other ending another first second =
    (first.0 ∙ sym second.0, first.1 ∙ sym second.1, first.2 ∙ sym second.2)

-- the answer, then work
pub earliest_safe_arrival_settled :
    (κs : Lfts 2) (arguments : Dens κs arrival_kinds.ps) (one other : (res_t arrival_kinds.r κs).Denot)
    (ending another : AtExit (ended_of 2 arrival_kinds.ps arrival_kinds.r) κs) → arrival_reads.Post κs arguments one ending
    → arrival_reads.Post κs arguments other another
    → (one ≡ other) × (ending.1.1.1.1.0.now ≡ another.1.1.1.1.0.now)
earliest_safe_arrival_settled κs arguments one other ending another first second =
    (first.0 ∙ sym second.0, first.1 ∙ sym second.1)

pub earliest_with_gate_settled :
    (κs : Lfts 2) (arguments : Dens κs gate_kinds.ps) (one other : (res_t gate_kinds.r κs).Denot)
    (ending another : AtExit (ended_of 2 gate_kinds.ps gate_kinds.r) κs) → gate_reads.Post κs arguments one ending
    → gate_reads.Post κs arguments other another
    → (one ≡ other) × (ending.1.1.1.1.1.0.now ≡ another.1.1.1.1.1.0.now)
earliest_with_gate_settled κs arguments one other ending another first second =
    (first.0 ∙ sym second.0, first.1 ∙ sym second.1)

pub earliest_checked_settled :
    (κs : Lfts 2) (arguments : Dens κs checked_arrival_kinds.ps) (one other : (res_t checked_arrival_kinds.r κs).Denot)
    (ending another : AtExit (ended_of 2 checked_arrival_kinds.ps checked_arrival_kinds.r) κs)
    → checked_arrival_reads.Post κs arguments one ending → checked_arrival_reads.Post κs arguments other another
    → (one ≡ other) × (ending.1.1.1.1.0.now ≡ another.1.1.1.1.0.now)
earliest_checked_settled κs arguments one other ending another first second =
    (first.0 ∙ sym second.0, first.1 ∙ sym second.1)
