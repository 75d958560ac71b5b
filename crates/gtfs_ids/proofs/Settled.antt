-- Document 01, "What every contract settles": any two outcomes that the calls on ids permit coincide. Assumes nothing.
use mathlib.Core.Path.{◌≡◌, sym, ◌∙◌}
use contract.Lifetimes.{Lfts}
use denote.Triple.Clauses.{AtExit}
use borrow.Fn.Kinds.{Dens, res_t, ended_of}
use Rattle.laws.proofs.Outcomes.{SettlesResult}
use Rattle.gtfs_ids.proofs.key_of.Kinds as key_kinds
use Rattle.gtfs_ids.proofs.key_of.Reads as key_reads
use Rattle.gtfs_ids.proofs.number_of.Kinds as number_kinds
use Rattle.gtfs_ids.proofs.number_of.Reads as number_reads
use Rattle.gtfs_ids.proofs.add.Kinds as add_kinds
use Rattle.gtfs_ids.proofs.add.Reads as add_reads
use Rattle.gtfs_ids.proofs.place_of.Kinds as place_kinds
use Rattle.gtfs_ids.proofs.place_of.Reads as place_reads
use Rattle.gtfs_ids.proofs.size_of.Kinds as size_kinds
use Rattle.gtfs_ids.proofs.size_of.Reads as size_reads

pub key_of_settled : SettlesResult 1 key_kinds.ps key_kinds.r key_reads.Post
key_of_settled κs arguments one other ending another first second = first ∙ sym second

pub number_of_settled : SettlesResult 1 number_kinds.ps number_kinds.r number_reads.Post
number_of_settled κs arguments one other ending another first second = first ∙ sym second

pub add_settled :
    (κs : Lfts 1) (arguments : Dens κs add_kinds.ps) (one other : (res_t add_kinds.r κs).Denot)
    (ending another : AtExit (ended_of 1 add_kinds.ps add_kinds.r) κs)
    → add_reads.Post κs arguments one ending → add_reads.Post κs arguments other another
    → ending.0.now ≡ another.0.now
add_settled κs arguments one other ending another first second = first ∙ sym second

pub place_of_settled : SettlesResult 1 place_kinds.ps place_kinds.r place_reads.Post
place_of_settled κs arguments one other ending another first second = first ∙ sym second

pub size_of_settled : SettlesResult 1 size_kinds.ps size_kinds.r size_reads.Post
size_of_settled κs arguments one other ending another first second = first ∙ sym second
