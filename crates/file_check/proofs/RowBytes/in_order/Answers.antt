-- `file_check::RowBytes::in_order` meets its contract: a fall of departures first, then what looking back finds. Assumes nothing.
use mathlib.Core.Bool.{◌&&◌}
use mathlib.Core.Path.{ap, sym, ◌∙◌}
use Rattle.laws.proofs.Tests.{both}
use Rattle.timetable.specs.Rows.{last_of_trip, follows}
use Rattle.file_check.specs.Behind.{rows_behind}
use Rattle.file_check.proofs.Back.{nothing_found, last_found}
use Rattle.file_check.proofs.RowBytes.in_order.Goals as goal

pub returns-in_default : goal.returns-in_default
unfolding follows
returns-in_default c =
    let rows = c.args.self.now in
    let none_there = nothing_found rows.width rows.file.now rows.start c.args.row.trip c.args.count (sym c.look_back.ensures ∙ c.in_default.is) in
    sym (both (sym c.departure_rule.ensures ∙ c.if-not-departure_rule.false) (ap (λ o. follows o c.args.row) none_there))

pub returns : goal.returns
returns c =
    let rows = c.args.self.now in
    let row = c.args.row in
    let there = last_found rows.width rows.file.now rows.start row.trip c.args.count _ (sym c.look_back.ensures ∙ c.in-Some.is) in
    let rises = sym c.departure_rule.ensures ∙ c.if-not-departure_rule.false in
    c.follows.ensures
    ∙ sym (ap (λ o. follows o row) there)
    ∙ sym (ap (λ b. b && follows (last_of_trip row.trip (rows_behind rows.width rows.file.now rows.start c.args.count)) row) rises)
