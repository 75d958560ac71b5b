-- Document 01, "What every contract settles": any two outcomes that putting a text permits coincide. Assumes nothing.
use mathlib.Core.Path.{◌≡◌, sym, ◌∙◌}
use contract.Lifetimes.{Lfts}
use denote.Triple.Clauses.{AtExit}
use borrow.Fn.Kinds.{Dens, res_t, ended_of}
use Rattle.laws.proofs.Outcomes.{SettlesResult}
use Rattle.text.proofs.Digits.{ahead_once}
use Rattle.text.proofs.digit.Kinds as digit_kinds
use Rattle.text.proofs.digit.Reads as digit_reads
use Rattle.text.proofs.put_ahead.Kinds as ahead_kinds
use Rattle.text.proofs.put_ahead.Reads as ahead_reads
use Rattle.text.proofs.put_byte.Kinds as byte_kinds
use Rattle.text.proofs.put_byte.Reads as byte_reads
use Rattle.text.proofs.put_text.Kinds as text_kinds
use Rattle.text.proofs.put_text.Reads as text_reads
use Rattle.text.proofs.put_number.Kinds as number_kinds
use Rattle.text.proofs.put_number.Reads as number_reads

pub digit_settled : SettlesResult 0 digit_kinds.ps digit_kinds.r digit_reads.Post
digit_settled κs arguments one other ending another first second = first ∙ sym second

pub put_ahead_settled :
    (κs : Lfts 1) (arguments : Dens κs ahead_kinds.ps) (one other : (res_t ahead_kinds.r κs).Denot)
    (ending another : AtExit (ended_of 1 ahead_kinds.ps ahead_kinds.r) κs)
    → ahead_reads.Post κs arguments one ending → ahead_reads.Post κs arguments other another
    → (one ≡ other) × (ending.0.now ≡ another.0.now)
put_ahead_settled κs arguments one other ending another first second = ahead_once first second

pub put_byte_settled :
    (κs : Lfts 1) (arguments : Dens κs byte_kinds.ps) (one other : (res_t byte_kinds.r κs).Denot)
    (ending another : AtExit (ended_of 1 byte_kinds.ps byte_kinds.r) κs)
    → byte_reads.Post κs arguments one ending → byte_reads.Post κs arguments other another
    → (one ≡ other) × (ending.0.now ≡ another.0.now)
put_byte_settled κs arguments one other ending another first second =
    (first.0.ends ∙ sym second.0.ends, first.0.says ∙ sym second.0.says)

pub put_text_settled :
    (κs : Lfts 2) (arguments : Dens κs text_kinds.ps) (one other : (res_t text_kinds.r κs).Denot)
    (ending another : AtExit (ended_of 2 text_kinds.ps text_kinds.r) κs)
    → text_reads.Post κs arguments one ending → text_reads.Post κs arguments other another
    → (one ≡ other) × (ending.0.now ≡ another.0.now)
put_text_settled κs arguments one other ending another first second =
    (first.0.ends ∙ sym second.0.ends, first.0.says ∙ sym second.0.says)

pub put_number_settled :
    (κs : Lfts 1) (arguments : Dens κs number_kinds.ps) (one other : (res_t number_kinds.r κs).Denot)
    (ending another : AtExit (ended_of 1 number_kinds.ps number_kinds.r) κs)
    → number_reads.Post κs arguments one ending → number_reads.Post κs arguments other another
    → (one ≡ other) × (ending.0.now ≡ another.0.now)
put_number_settled κs arguments one other ending another first second =
    (first.0.ends ∙ sym second.0.ends, first.0.says ∙ sym second.0.says)
