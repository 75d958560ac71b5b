-- Document 01, "What every contract settles": the scan's answer, the length of the work slice and its cells from 2,400 on are settled.
-- The cells ahead of those are scratch, filled anew by the next use: they may hold anything. Assumes nothing.
use Prim.Native.Nat.{ℕ, ◌≤◌}
use mathlib.Core.Path.{◌≡◌, sym, ◌∙◌}
use contract.Lifetimes.{Lfts}
use denote.Triple.Clauses.{AtExit}
use lib.ListN.{length, get_or}
use borrow.Fn.Kinds.{Dens, res_t, ended_of}
use Rattle.plan_cells.specs.Cells.{pair_cells}
use Rattle.plan_earliest.proofs.earliest_arrival.Kinds as kinds
use Rattle.plan_earliest.proofs.earliest_arrival.Reads as reads

pub earliest_arrival_settled :
    (κs : Lfts 4) (arguments : Dens κs kinds.ps) (one other : (res_t kinds.r κs).Denot)
    (ending another : AtExit (ended_of 4 kinds.ps kinds.r) κs) → reads.Post κs arguments one ending → reads.Post κs arguments other another
    → (one ≡ other) × (length ending.1.1.1.1.0.now ≡ length another.1.1.1.1.0.now)
    × ((i : ℕ) → pair_cells ≤ i → get_or ending.1.1.1.1.0.now i 0 ≡ get_or another.1.1.1.1.0.now i 0)
earliest_arrival_settled κs arguments one other ending another first second = (
  first.0 ∙ sym second.0,
  first.1.same_length ∙ sym second.1.same_length,
  λ i h. first.1.behind i h ∙ sym (second.1.behind i h),
)
