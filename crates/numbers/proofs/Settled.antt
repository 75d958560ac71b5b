-- Document 01, "What every contract settles": any two outcomes that casts, readers of bytes and their writers permit coincide. Assumes nothing.
use mathlib.Core.Path.{◌≡◌, sym, ◌∙◌}
use contract.Lifetimes.{Lfts}
use denote.Triple.Clauses.{AtExit}
use borrow.Fn.Kinds.{Dens, res_t, ended_of}
use Rattle.laws.proofs.Outcomes.{SettlesResult}
use Rattle.numbers.proofs.number.Kinds as number_kinds
use Rattle.numbers.proofs.number.Reads as number_reads
use Rattle.numbers.proofs.cell.Kinds as cell_kinds
use Rattle.numbers.proofs.cell.Reads as cell_reads
use Rattle.numbers.proofs.long.Kinds as long_kinds
use Rattle.numbers.proofs.long.Reads as long_reads
use Rattle.numbers.proofs.short.Kinds as short_kinds
use Rattle.numbers.proofs.short.Reads as short_reads
use Rattle.numbers.proofs.u16_at.Kinds as u16_kinds
use Rattle.numbers.proofs.u16_at.Reads as u16_reads
use Rattle.numbers.proofs.u32_at.Kinds as u32_kinds
use Rattle.numbers.proofs.u32_at.Reads as u32_reads
use Rattle.numbers.proofs.put_numbers.Kinds as kinds
use Rattle.numbers.proofs.put_numbers.Reads as reads
use Rattle.numbers.proofs.put_u16.Kinds as put_u16_kinds
use Rattle.numbers.proofs.put_u16.Reads as put_u16_reads
use Rattle.numbers.proofs.put_u32.Kinds as put_u32_kinds
use Rattle.numbers.proofs.put_u32.Reads as put_u32_reads

pub put_numbers_settled :
    (κs : Lfts 2) (arguments : Dens κs kinds.ps) (one other : (res_t kinds.r κs).Denot)
    (ending another : AtExit (ended_of 2 kinds.ps kinds.r) κs)
    → reads.Post κs arguments one ending → reads.Post κs arguments other another
    → ending.1.1.0.now ≡ another.1.1.0.now
put_numbers_settled κs arguments one other ending another first second = first ∙ sym second

pub put_u16_settled :
    (κs : Lfts 1) (arguments : Dens κs put_u16_kinds.ps) (one other : (res_t put_u16_kinds.r κs).Denot)
    (ending another : AtExit (ended_of 1 put_u16_kinds.ps put_u16_kinds.r) κs)
    → put_u16_reads.Post κs arguments one ending → put_u16_reads.Post κs arguments other another
    → ending.1.1.0.now ≡ another.1.1.0.now
put_u16_settled κs arguments one other ending another first second = first ∙ sym second

pub put_u32_settled :
    (κs : Lfts 1) (arguments : Dens κs put_u32_kinds.ps) (one other : (res_t put_u32_kinds.r κs).Denot)
    (ending another : AtExit (ended_of 1 put_u32_kinds.ps put_u32_kinds.r) κs)
    → put_u32_reads.Post κs arguments one ending → put_u32_reads.Post κs arguments other another
    → ending.1.1.0.now ≡ another.1.1.0.now
put_u32_settled κs arguments one other ending another first second = first ∙ sym second

pub number_settled : SettlesResult 0 number_kinds.ps number_kinds.r number_reads.Post
number_settled κs arguments one other ending another first second = first.0 ∙ sym second.0

pub cell_settled : SettlesResult 0 cell_kinds.ps cell_kinds.r cell_reads.Post
cell_settled κs arguments one other ending another first second = first ∙ sym second

pub long_settled : SettlesResult 0 long_kinds.ps long_kinds.r long_reads.Post
long_settled κs arguments one other ending another first second = first.0 ∙ sym second.0

pub short_settled : SettlesResult 0 short_kinds.ps short_kinds.r short_reads.Post
short_settled κs arguments one other ending another first second = first ∙ sym second

pub u16_at_settled : SettlesResult 1 u16_kinds.ps u16_kinds.r u16_reads.Post
u16_at_settled κs arguments one other ending another first second = first.0 ∙ sym second.0

pub u32_at_settled : SettlesResult 1 u32_kinds.ps u32_kinds.r u32_reads.Post
u32_at_settled κs arguments one other ending another first second = first.0 ∙ sym second.0
