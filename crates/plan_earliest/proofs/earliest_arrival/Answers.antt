-- `plan_earliest::earliest_arrival` meets its contract: blank cells, then the sweep. Assumes nothing.
use Rattle.plan_cells.proofs.Outside.{outside_then}
use Rattle.plan_earliest.proofs.Start.{blanked, start_behind, set_out}
use Rattle.plan_earliest.proofs.Answer.{answers_none, answers_some}
use Rattle.plan_earliest.proofs.earliest_arrival.Goals as goal

pub returns-then-end : goal.returns-then-end
returns-then-end c =
    let a = c.args in
    let r = c.requires in
    let blank = blanked r.6 c.fill.ensures c.fill-2.ensures in (
      answers_none a.sailings.now a.q a.first r.3 r.4 r.5 (set_out blank a.q.source r.1 c.cell.ensures)
          (c.sail_until.ensures.1 a.q.source a.q.minute) c.if-end.true,
      outside_then (start_behind blank a.q.source r.1 c.cell.ensures) c.sail_until.ensures.0,
    )

pub returns-else-end : goal.returns-else-end
returns-else-end c =
    let a = c.args in
    let r = c.requires in
    let blank = blanked r.6 c.fill.ensures c.fill-2.ensures in (
      answers_some a.sailings.now a.q a.first r.3 r.4 r.5 (set_out blank a.q.source r.1 c.cell.ensures)
          (c.sail_until.ensures.1 a.q.source a.q.minute) c.if-end.false,
      outside_then (start_behind blank a.q.source r.1 c.cell.ensures) c.sail_until.ensures.0,
    )
