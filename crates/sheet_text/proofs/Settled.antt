-- Document 01, "What every contract settles": any two outcomes that `sheet_text::sheet` permits have one answer and one text in the lent bytes,
-- the bytes beyond it with them, and room for it is all zeros. Assumes nothing.
use mathlib.Core.Path.{◌≡◌, sym, ◌∙◌}
use contract.Lifetimes.{Lfts}
use denote.Triple.Clauses.{AtExit}
use borrow.Fn.Kinds.{Dens, res_t, ended_of}
use Rattle.laws.proofs.Outcomes.{SettlesResult}
use Rattle.sheet_text.proofs.sheet_room.Kinds as room_kinds
use Rattle.sheet_text.proofs.sheet_room.Reads as room_reads
use Rattle.sheet_text.proofs.sheet.Kinds as kinds
use Rattle.sheet_text.proofs.sheet.Reads as reads

pub sheet_settled :
    (κs : Lfts 3) (arguments : Dens κs kinds.ps) (one other : (res_t kinds.r κs).Denot) (ending another : AtExit (ended_of 3 kinds.ps kinds.r) κs)
    → reads.Post κs arguments one ending → reads.Post κs arguments other another
    → (one ≡ other) × (ending.1.1.0.now ≡ another.1.1.0.now)
sheet_settled κs arguments one other ending another first second = (first.0 ∙ sym second.0, first.1 ∙ sym second.1)

pub sheet_room_settled : SettlesResult 0 room_kinds.ps room_kinds.r room_reads.Post
sheet_room_settled κs arguments one other ending another first second = first.0 ∙ sym second.0
