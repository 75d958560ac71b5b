-- `plan_earliest::board` meets its contract: a line for each return. Assumes nothing.
use mathlib.Core.Path.{sym, ap, ◌∙◌}
use Rattle.plans.specs.Rides.{ready}
use Rattle.plan_earliest.specs.Cells.{already}
use Rattle.plan_earliest.proofs.Returns.{boards_now, misses_now}
use Rattle.plan_earliest.proofs.board.Goals as goal

pub returns-then-work-trip-ne0 : goal.returns-then-work-trip-ne0
returns-then-work-trip-ne0 c = already c.if-work-trip-ne0.true

pub returns-then-can_board : goal.returns-then-can_board
returns-then-can_board c =
    let a = c.args in
    boards_now a.gate a.row a.work.now
    (c.ready.ensures ∙ ap (ready a.gate) c.number.ensures.0)
    (sym c.can_board.ensures ∙ c.if-can_board.true)

pub returns : goal.returns
returns c =
    let a = c.args in
    misses_now a.gate a.row a.work.now c.if-work-trip-ne0.false
    (c.ready.ensures ∙ ap (ready a.gate) c.number.ensures.0)
    (sym c.can_board.ensures ∙ c.if-can_board.false)
