-- Document 01, "What every contract settles": any two outcomes that the cells' functions permit coincide. Assumes nothing.
use mathlib.Core.Path.{◌≡◌, sym, ◌∙◌}
use contract.Lifetimes.{Lfts}
use denote.Triple.Clauses.{AtExit}
use borrow.Fn.Kinds.{Dens, res_t, ended_of}
use Rattle.plan_cells.proofs.fill.Kinds as fill_kinds
use Rattle.plan_cells.proofs.fill.Reads as fill_reads

pub fill_settled :
    (κs : Lfts 1) (arguments : Dens κs fill_kinds.ps) (one other : (res_t fill_kinds.r κs).Denot)
    (ending another : AtExit (ended_of 1 fill_kinds.ps fill_kinds.r) κs) → fill_reads.Post κs arguments one ending
    → fill_reads.Post κs arguments other another → ending.0.now ≡ another.0.now
fill_settled κs arguments one other ending another first second = first ∙ sym second
