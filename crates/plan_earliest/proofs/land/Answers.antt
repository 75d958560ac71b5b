-- `plan_earliest::land` meets its contract: a line for each way. Assumes nothing.
use Rattle.plan_earliest.proofs.Returns.{landing_computed, landed_sooner, landed_no_sooner}
use Rattle.plan_earliest.proofs.land.Goals as goal

pub returns-then-landing-work : goal.returns-then-landing-work
returns-then-landing-work c =
    let a = c.args in
    landed_sooner a.row.land a.work.now (landing_computed a.tables.now a.row c.cell.ensures) c.if-landing-work.true

pub returns-else-landing-work : goal.returns-else-landing-work
returns-else-landing-work c =
    let a = c.args in
    landed_no_sooner a.row.land a.work.now (landing_computed a.tables.now a.row c.cell.ensures) c.if-landing-work.false
