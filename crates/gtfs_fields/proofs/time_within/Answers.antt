-- `gtfs_fields::time_within` meets its contract: the ending first, then the hours ahead of it, then their sum. Assumes nothing.
use Prim.Native.Nat.{◌+◌, ◌/◌}
use mathlib.Core.Path.{refl, sym, ◌∙◌}
use native.Mathlib.Omega.{arith}
use Rattle.std.specs.Prelude.{Some, None}
use Rattle.gtfs_fields.specs.Whole.{whole_below}
use Rattle.gtfs_fields.specs.Time.{minutes_an_hour}
use Rattle.gtfs_fields.proofs.Bounds.{whole_bound, minutes_bound}
use Rattle.gtfs_fields.proofs.Onward.{told_where}
use Rattle.gtfs_fields.proofs.Joined.{time_short, time_cut}
use Rattle.gtfs_fields.proofs.time_within.Goals as goal

pub returns-then-field-le-TAIL_BYTES : goal.returns-then-field-le-TAIL_BYTES
returns-then-field-le-TAIL_BYTES c = sym (time_short c.args.most c.args.field.now (omega arith))

pub returns-in_err-minutes : goal.returns-in_err-minutes
returns-in_err-minutes c =
    let a = c.args in
    let parts = c.split_at in
    c.from_residual.ensures
    ∙ sym (time_cut a.most a.field.now parts.result.0.now parts.result.1.now None (whole_below (a.most / minutes_an_hour + 1) parts.result.0.now)
    parts.ensures.front parts.ensures.back c.in_err-minutes.ensures refl)

pub returns-in_err-hours : goal.returns-in_err-hours
returns-in_err-hours c =
    let a = c.args in
    let parts = c.split_at in
    c.from_residual-in_err-hours.ensures
    ∙ sym (time_cut a.most a.field.now parts.result.0.now parts.result.1.now (Some c.in_ok-minutes.minutes) None
    parts.ensures.front parts.ensures.back c.in_ok-minutes.ensures c.in_err-hours.ensures)

-- neither is more than was asked
pub overflow_mul-time : goal.overflow_mul-time
overflow_mul-time c =
    omega (arith, whole_bound (c.args.most / minutes_an_hour + 1) c.in_ok-hours.hours c.split_at.result.0.now (sym c.in_ok-hours.ensures))

pub overflow_add-time : goal.overflow_add-time
overflow_add-time c =
    omega (
      arith,
      whole_bound (c.args.most / minutes_an_hour + 1) c.in_ok-hours.hours c.split_at.result.0.now (sym c.in_ok-hours.ensures),
      minutes_bound c.in_ok-minutes.minutes c.split_at.result.1.now (sym c.in_ok-minutes.ensures),
    )

-- and their sum is held against the most
pub returns : goal.returns
returns c =
    let a = c.args in
    let parts = c.split_at in
    c.then_some.ensures ∙ told_where _ _
    ∙ sym (time_cut a.most a.field.now parts.result.0.now parts.result.1.now (Some c.in_ok-minutes.minutes) (Some c.in_ok-hours.hours)
    parts.ensures.front parts.ensures.back c.in_ok-minutes.ensures c.in_ok-hours.ensures)
