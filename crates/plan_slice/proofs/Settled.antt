-- Document 01, "What every contract settles": any two outcomes that the plan slice's functions permit coincide. Assumes nothing.
use mathlib.Core.Path.{◌≡◌, sym, ◌∙◌}
use contract.Lifetimes.{Lfts}
use denote.Triple.Clauses.{AtExit}
use borrow.Fn.Kinds.{Dens, res_t, ended_of}
use Rattle.laws.proofs.Outcomes.{SettlesResult}
use Rattle.plan_slice.proofs.write_ride.Kinds as write_ride_kinds
use Rattle.plan_slice.proofs.write_ride.Reads as write_ride_reads
use Rattle.plan_slice.proofs.ride_at.Kinds as ride_at_kinds
use Rattle.plan_slice.proofs.ride_at.Reads as ride_at_reads
use Rattle.plan_slice.proofs.board_of.Kinds as board_of_kinds
use Rattle.plan_slice.proofs.board_of.Reads as board_of_reads
use Rattle.plan_slice.proofs.leave_of.Kinds as leave_of_kinds
use Rattle.plan_slice.proofs.leave_of.Reads as leave_of_reads
use Rattle.plan_slice.proofs.worth_of.Kinds as worth_of_kinds
use Rattle.plan_slice.proofs.worth_of.Reads as worth_of_reads

pub write_ride_settled :
    (κs : Lfts 1) (arguments : Dens κs write_ride_kinds.ps) (one other : (res_t write_ride_kinds.r κs).Denot)
    (ending another : AtExit (ended_of 1 write_ride_kinds.ps write_ride_kinds.r) κs) → write_ride_reads.Post κs arguments one ending
    → write_ride_reads.Post κs arguments other another → ending.0.now ≡ another.0.now
write_ride_settled κs arguments one other ending another first second = first ∙ sym second

pub ride_at_settled : SettlesResult 1 ride_at_kinds.ps ride_at_kinds.r ride_at_reads.Post
ride_at_settled κs arguments one other ending another first second =
    λ i. record { board = (first.0 ∙ sym second.0) i; leave = (first.1 ∙ sym second.1) i; worth = (first.2 ∙ sym second.2) i }

pub board_of_settled : SettlesResult 1 board_of_kinds.ps board_of_kinds.r board_of_reads.Post
board_of_settled κs arguments one other ending another first second = first ∙ sym second

pub leave_of_settled : SettlesResult 1 leave_of_kinds.ps leave_of_kinds.r leave_of_reads.Post
leave_of_settled κs arguments one other ending another first second = first ∙ sym second

pub worth_of_settled : SettlesResult 1 worth_of_kinds.ps worth_of_kinds.r worth_of_reads.Post
worth_of_settled κs arguments one other ending another first second = first ∙ sym second
