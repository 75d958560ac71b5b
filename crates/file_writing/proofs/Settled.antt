-- Document 01, "What every contract settles": any two outcomes that a writer of the file permits coincide. Assumes nothing.
use mathlib.Core.Path.{◌≡◌, sym, ◌∙◌}
use contract.Lifetimes.{Lfts}
use denote.Triple.Clauses.{AtExit}
use borrow.Fn.Kinds.{Dens, res_t, ended_of}
use Rattle.file_writing.proofs.put_row.Kinds as row_kinds
use Rattle.file_writing.proofs.put_row.Reads as row_reads
use Rattle.file_writing.proofs.put_never_late.Kinds as table_kinds
use Rattle.file_writing.proofs.put_never_late.Reads as table_reads
use Rattle.file_writing.proofs.put_trailer.Kinds as trailer_kinds
use Rattle.file_writing.proofs.put_trailer.Reads as trailer_reads

pub put_row_settled :
    (κs : Lfts 1) (arguments : Dens κs row_kinds.ps) (one other : (res_t row_kinds.r κs).Denot)
    (ending another : AtExit (ended_of 1 row_kinds.ps row_kinds.r) κs)
    → row_reads.Post κs arguments one ending → row_reads.Post κs arguments other another → ending.0.now ≡ another.0.now
put_row_settled κs arguments one other ending another first second = first ∙ sym second

pub put_never_late_settled :
    (κs : Lfts 1) (arguments : Dens κs table_kinds.ps) (one other : (res_t table_kinds.r κs).Denot)
    (ending another : AtExit (ended_of 1 table_kinds.ps table_kinds.r) κs)
    → table_reads.Post κs arguments one ending → table_reads.Post κs arguments other another → ending.0.now ≡ another.0.now
put_never_late_settled κs arguments one other ending another first second = first ∙ sym second

pub put_trailer_settled :
    (κs : Lfts 1) (arguments : Dens κs trailer_kinds.ps) (one other : (res_t trailer_kinds.r κs).Denot)
    (ending another : AtExit (ended_of 1 trailer_kinds.ps trailer_kinds.r) κs)
    → trailer_reads.Post κs arguments one ending → trailer_reads.Post κs arguments other another → ending.0.now ≡ another.0.now
put_trailer_settled κs arguments one other ending another first second = first ∙ sym second
