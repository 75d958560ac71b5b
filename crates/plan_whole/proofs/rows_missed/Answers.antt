-- `plan_whole::rows_missed` meets its contract: rows are cut where one is ready. Assumes nothing.
use mathlib.Core.Path.{subst}
use Rattle.plan_rows.specs.Reading.{Cut}
use Rattle.plan_rows.specs.Sailings.{rows_of}
use Rattle.plan_whole.proofs.rows_missed.Goals as goal

pub returns : goal.returns
returns c =
    let a = c.args in
    subst (λ m. Cut (rows_of a.sailings.now) m c.rows_before.result) c.ready.ensures c.rows_before.ensures
