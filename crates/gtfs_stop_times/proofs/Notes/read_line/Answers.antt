-- `gtfs_stop_times::Notes::read_line` meets its contract: a quote mark, a fault of the fields, a fault behind the calls read so far, or a
-- call more. Assumes nothing.
use mathlib.Core.Path.{sym, ◌∙◌}
use borrow.Author.Rules.{rules}
use Rattle.gtfs_stop_time.proofs.Told.{said_wrong}
use Rattle.gtfs_stop_times.proofs.LineSteps.{line_refused, fields_inside, line_says, own_refused, next_decides, next_read}
use Rattle.gtfs_stop_times.proofs.Notes.read_line.Goals as goal

pub returns-in_default : goal.returns-in_default
returns-in_default c =
    λ back held. line_refused c.args.text.now c.args.at c.args.service c.requires.0 back (sym c.line_at.ensures ∙ c.in_default.is)

pub call_of-requires : goal.call_of-requires
call_of-requires c =
    let a = c.args in
    (fields_inside a.text.now a.at a.service c.requires.0 c.in-Some.cut.fields c.in-Some.cut.next (sym c.in-Some.ensures), c.requires.1)

pub take_call-requires : goal.take_call-requires
take_call-requires c =
    let a = c.args in
    let says =
    line_says a.text.now a.at a.service c.requires.0 c.in-Some.cut.fields c.in-Some.cut.next (sym c.in-Some.ensures) (sym c.in_ok-call.ensures) c.type_inv.text
    in
    (a.text.now, c.requires.2.0, _, c.requires.2.1, says.1)

pub returns-in_err-call : goal.returns-in_err-call
returns-in_err-call c =
    λ back held.
    let a = c.args in
    let told =
    own_refused a.text.now a.at a.service c.requires.0 c.in-Some.cut.fields c.in-Some.cut.next (sym c.in-Some.ensures) back _ _
    (said_wrong a.service.start a.text.now c.in-Some.cut.fields (sym c.in_err-call.ensures))
    in
    search rules

pub returns-in_err-take_call : goal.returns-in_err-take_call
returns-in_err-take_call c =
    λ back held.
    let a = c.args in
    let cut = sym c.in-Some.ensures in
    let says = line_says a.text.now a.at a.service c.requires.0 c.in-Some.cut.fields c.in-Some.cut.next cut (sym c.in_ok-call.ensures) c.type_inv.text in
    let told =
    next_decides a.text.now a.at a.service c.requires.0 c.in-Some.cut.fields c.in-Some.cut.next cut says.0 back
    ∙ c.in_err-take_call.ensures a.text.now back _ held says.1
    in
    search rules

pub returns : goal.returns
returns c =
    λ back held.
    let a = c.args in
    let cut = sym c.in-Some.ensures in
    let says = line_says a.text.now a.at a.service c.requires.0 c.in-Some.cut.fields c.in-Some.cut.next cut (sym c.in_ok-call.ensures) c.type_inv.text in
    let taken = c.in_ok-take_call.ensures a.text.now back _ held says.1 in
    next_read a.text.now a.at a.service c.requires.0 c.in-Some.cut.fields c.in-Some.cut.next cut says.0 back _ taken.0 taken.1
