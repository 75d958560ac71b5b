-- Document 01, "What every contract settles": any two outcomes that the import permits coincide. Assumes nothing.
use mathlib.Core.Path.{◌≡◌, sym, ◌∙◌}
use contract.Lifetimes.{Lfts}
use denote.Triple.Clauses.{AtExit}
use borrow.Fn.Kinds.{Dens, res_t, ended_of}
use Rattle.laws.proofs.Outcomes.{SettlesResult}
use Rattle.gtfs_import.proofs.fault_place.Kinds as place_kinds
use Rattle.gtfs_import.proofs.fault_place.Reads as place_reads
use Rattle.gtfs_import.proofs.import_stop_times.Kinds as kinds
use Rattle.gtfs_import.proofs.import_stop_times.Reads as reads
use Rattle.gtfs_import.proofs.names_of.Kinds as names_kinds
use Rattle.gtfs_import.proofs.names_of.Reads as names_reads

pub import_stop_times_settled :
    (κs : Lfts 2) (arguments : Dens κs kinds.ps) (one other : (res_t kinds.r κs).Denot)
    (ending another : AtExit (ended_of 2 kinds.ps kinds.r) κs)
    → reads.Post κs arguments one ending → reads.Post κs arguments other another
    → (one ≡ other) × (ending.1.1.0.now ≡ another.1.1.0.now)
import_stop_times_settled κs arguments one other ending another first second = (first.0 ∙ sym second.0, first.1 ∙ sym second.1)

pub fault_place_settled : SettlesResult 1 place_kinds.ps place_kinds.r place_reads.Post
fault_place_settled κs arguments one other ending another first second = first ∙ sym second

pub names_of_settled :
    (κs : Lfts 2) (arguments : Dens κs names_kinds.ps) (one other : (res_t names_kinds.r κs).Denot)
    (ending another : AtExit (ended_of 2 names_kinds.ps names_kinds.r) κs)
    → names_reads.Post κs arguments one ending → names_reads.Post κs arguments other another
    → (one ≡ other) × (ending.1.1.0.now ≡ another.1.1.0.now)
names_of_settled κs arguments one other ending another first second = (first.0 ∙ sym second.0, first.1 ∙ sym second.1)
