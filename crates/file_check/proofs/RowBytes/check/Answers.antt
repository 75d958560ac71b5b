-- `file_check::RowBytes::check` meets its contract: the verdict on all the rows is the verdict on those still to come. Assumes nothing.
use mathlib.Core.Path.{refl, ap, sym, ◌∙◌}
use Rattle.timetable.proofs.RowsSound.{own_gives}
use Rattle.file_sections.specs.ReadBy.{read_by}
use Rattle.file_check.proofs.Reading.{reading_none, reading_ends, breaks_own, breaks_order, reads_on}
use Rattle.file_check.proofs.RowBytes.check.Goals as goal

pub loop-i-init : goal.loop-i-init
loop-i-init c = let rows = c.args.self.now in reading_none c.args.ranges rows.width rows.file.now rows.start rows.count _ refl

pub returns-then-not-own_rule : goal.returns-then-not-own_rule
returns-then-not-own_rule c =
    let rows = c.args.self.now in
    let l = c.loop-i in
    sym
    (ap (read_by tt)
    (breaks_own c.args.ranges rows.width rows.file.now rows.start rows.count l.seen l.departure l.i l.invariant
    c.loop-i-test.true c.nth-row.result c.nth-row.ensures.0 (sym c.own_rule.ensures ∙ c.if-not-own_rule.true)))

pub bounds-seen-trip : goal.bounds-seen-trip
bounds-seen-trip c = (own_gives c.args.ranges c.nth-row.result (sym c.own_rule.ensures ∙ c.if-not-own_rule.false)).trip

pub returns-then-not-in_order : goal.returns-then-not-in_order
returns-then-not-in_order c =
    let rows = c.args.self.now in
    let l = c.loop-i in
    sym
    (ap (read_by tt)
    (breaks_order c.args.ranges rows.width rows.file.now rows.start rows.count l.seen l.departure l.i l.invariant
    c.loop-i-test.true c.nth-row.result c.nth-row.ensures.0 _ c.from.ensures (sym c.own_rule.ensures ∙ c.if-not-own_rule.false)
    (sym c.in_order.ensures ∙ c.if-not-in_order.true)))

pub bounds-seen-trip-in-loop-i : goal.bounds-seen-trip-in-loop-i
bounds-seen-trip-in-loop-i c = (own_gives c.args.ranges c.nth-row.result (sym c.own_rule.ensures ∙ c.if-not-own_rule.false)).trip

pub loop-i-preserved : goal.loop-i-preserved
loop-i-preserved c =
    let rows = c.args.self.now in
    let l = c.loop-i in
    reads_on c.args.ranges rows.width rows.file.now rows.start rows.count l.seen l.departure l.i l.invariant
    c.loop-i-test.true c.nth-row.result c.nth-row.ensures.0 _ c.from.ensures (sym c.own_rule.ensures ∙ c.if-not-own_rule.false)
    (sym c.in_order.ensures ∙ c.if-not-in_order.false)

pub returns : goal.returns
returns c =
    let rows = c.args.self.now in
    let l = c.loop-i in
    sym
    (ap (read_by tt)
    (reading_ends c.args.ranges rows.width rows.file.now rows.start rows.count l.seen l.departure l.i l.invariant
    c.loop-i-test.false))
