-- `gtfs_import::fault_place` meets its contract: no place on another day or without a fault, else the fault's. Assumes nothing.
use mathlib.Core.Path.{sym, ◌∙◌}
use Rattle.gtfs_import.proofs.Placed.{placed_nowhere, placed_none, placed_there}
use Rattle.gtfs_import.proofs.fault_place.Goals as goal

pub returns-then-not-is_service_day : goal.returns-then-not-is_service_day
returns-then-not-is_service_day c = placed_nowhere c.args.text.now c.args.day (sym c.is_service_day.ensures ∙ c.if-not-is_service_day.true)

pub returns-in-Ok : goal.returns-in-Ok
returns-in-Ok c =
    placed_none c.args.text.now c.args.day (sym c.is_service_day.ensures ∙ c.if-not-is_service_day.false) _ c.day_start.ensures.0 c.in-Ok.field-0
    c.in-Ok.ensures.0

pub returns-in-Err : goal.returns-in-Err
returns-in-Err c =
    placed_there c.args.text.now c.args.day (sym c.is_service_day.ensures ∙ c.if-not-is_service_day.false) _ c.day_start.ensures.0 c.in-Err.fault
    c.in-Err.ensures.0
