-- Document 01, "What every contract settles": any two outcomes that a buffer's six numbers permit coincide. Assumes nothing.
use mathlib.Core.Path.{◌≡◌, sym, ◌∙◌}
use contract.Lifetimes.{Lfts}
use denote.Triple.Clauses.{AtExit}
use borrow.Fn.Kinds.{Dens, res_t, ended_of}
use Rattle.trial_answers.proofs.put_six.Kinds as kinds
use Rattle.trial_answers.proofs.put_six.Reads as reads

pub put_six_settled :
    (κs : Lfts 1) (arguments : Dens κs kinds.ps) (one other : (res_t kinds.r κs).Denot) (ending another : AtExit (ended_of 1 kinds.ps kinds.r) κs)
    → reads.Post κs arguments one ending → reads.Post κs arguments other another
    → ending.1.1.1.1.1.1.0.now ≡ another.1.1.1.1.1.1.0.now
put_six_settled κs arguments one other ending another first second = first ∙ sym second
