-- Document 01, "What every contract settles": any two permitted outcomes of a call from C are one answer and the same bytes. Assumes nothing.
use mathlib.Core.Path.{◌≡◌, sym, ◌∙◌}
use contract.Lifetimes.{Lfts}
use denote.Triple.Clauses.{AtExit}
use borrow.Fn.Kinds.{Dens, res_t, ended_of}
use Rattle.sayurimpak_c.proofs.sayurimpak_plan.Kinds as kinds
use Rattle.sayurimpak_c.proofs.sayurimpak_plan.Reads as reads
use Rattle.sayurimpak_c.proofs.sayurimpak_plan_margin.Kinds as margin_kinds
use Rattle.sayurimpak_c.proofs.sayurimpak_plan_margin.Reads as margin_reads
use Rattle.sayurimpak_c.proofs.sayurimpak_plan_gate.Kinds as gate_kinds
use Rattle.sayurimpak_c.proofs.sayurimpak_plan_gate.Reads as gate_reads

pub sayurimpak_plan_settled :
    (κs : Lfts 2) (arguments : Dens κs kinds.ps) (one other : (res_t kinds.r κs).Denot)
    (ending another : AtExit (ended_of 2 kinds.ps kinds.r) κs)
    → reads.Post κs arguments one ending → reads.Post κs arguments other another
    → (one ≡ other) × (ending.1.1.1.1.1.0.now ≡ another.1.1.1.1.1.0.now)
sayurimpak_plan_settled κs arguments one other ending another first second =
    (first.0 ∙ sym second.0, first.1 ∙ sym second.1)

pub sayurimpak_plan_margin_settled :
    (κs : Lfts 2) (arguments : Dens κs margin_kinds.ps) (one other : (res_t margin_kinds.r κs).Denot)
    (ending another : AtExit (ended_of 2 margin_kinds.ps margin_kinds.r) κs)
    → margin_reads.Post κs arguments one ending → margin_reads.Post κs arguments other another
    → (one ≡ other) × (ending.1.1.1.1.1.1.0.now ≡ another.1.1.1.1.1.1.0.now)
sayurimpak_plan_margin_settled κs arguments one other ending another first second =
    (first.0 ∙ sym second.0, first.1 ∙ sym second.1)

pub sayurimpak_plan_gate_settled :
    (κs : Lfts 2) (arguments : Dens κs gate_kinds.ps) (one other : (res_t gate_kinds.r κs).Denot)
    (ending another : AtExit (ended_of 2 gate_kinds.ps gate_kinds.r) κs)
    → gate_reads.Post κs arguments one ending → gate_reads.Post κs arguments other another
    → (one ≡ other) × (ending.1.1.1.1.1.1.1.0.now ≡ another.1.1.1.1.1.1.1.0.now)
sayurimpak_plan_gate_settled κs arguments one other ending another first second =
    (first.0 ∙ sym second.0, first.1 ∙ sym second.1)
