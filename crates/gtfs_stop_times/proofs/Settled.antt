-- Document 01, "What every contract settles": any two outcomes that reading permits coincide. Assumes nothing.
use mathlib.Core.Path.{◌≡◌, sym, ◌∙◌}
use contract.Lifetimes.{Lfts}
use denote.Triple.Clauses.{AtExit}
use borrow.Fn.Kinds.{res_t, Dens, ended_of}
use Rattle.gtfs_stop_times.proofs.stop_times.Kinds as kinds
use Rattle.gtfs_stop_times.proofs.stop_times.Reads as reads

pub stop_times_settled :
    (κs : Lfts 2) (arguments : Dens κs kinds.ps) (one other : (res_t kinds.r κs).Denot)
    (ending another : AtExit (ended_of 2 kinds.ps kinds.r) κs)
    → reads.Post κs arguments one ending → reads.Post κs arguments other another
    → (one ≡ other) × (ending.1.1.1.0.now ≡ another.1.1.1.0.now)
stop_times_settled κs arguments one other ending another first second = (first.0 ∙ sym second.0, first.1 ∙ sym second.1)
