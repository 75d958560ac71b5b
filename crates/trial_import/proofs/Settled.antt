-- Document 01, "What every contract settles": any two outcomes that the call permits leave the same answer and the same slices. Assumes nothing.
use mathlib.Core.Path.{◌≡◌, sym, ◌∙◌}
use contract.Lifetimes.{Lfts}
use denote.Triple.Clauses.{AtExit}
use borrow.Fn.Kinds.{Dens, res_t, ended_of}
use Rattle.trial_import.proofs.trial_import.Kinds as kinds
use Rattle.trial_import.proofs.trial_import.Reads as reads

pub trial_import_settled :
    (κs : Lfts 3) (arguments : Dens κs kinds.ps) (one other : (res_t kinds.r κs).Denot) (ending another : AtExit (ended_of 3 kinds.ps kinds.r) κs)
    → reads.Post κs arguments one ending → reads.Post κs arguments other another
    → (ending.1.1.1.0.now ≡ another.1.1.1.0.now) × (ending.1.1.0.now ≡ another.1.1.0.now)
trial_import_settled κs arguments one other ending another first second = (first.0 ∙ sym second.0, first.1 ∙ sym second.1)
