-- Document 01, "What every contract settles": there is one last start, and work is left in one way. Assumes nothing.
use mathlib.Core.Path.{◌≡◌, sym, ◌∙◌}
use contract.Lifetimes.{Lfts}
use denote.Triple.Clauses.{AtExit}
use borrow.Fn.Kinds.{Dens, res_t, ended_of}
use Rattle.explain_starts.proofs.Closing.{one_last_start}
use Rattle.explain_starts.proofs.last_start.Kinds as kinds
use Rattle.explain_starts.proofs.last_start.Reads as reads

-- the answer, then work
pub last_start_settled :
    (κs : Lfts 2) (arguments : Dens κs kinds.ps) (one other : (res_t kinds.r κs).Denot)
    (ending another : AtExit (ended_of 2 kinds.ps kinds.r) κs) → reads.Post κs arguments one ending → reads.Post κs arguments other another
    → (one ≡ other) × (ending.1.1.1.1.1.1.0.now ≡ another.1.1.1.1.1.1.0.now)
last_start_settled κs arguments one other ending another first second =
    (one_last_start first.0 second.0, first.1 ∙ sym second.1)
