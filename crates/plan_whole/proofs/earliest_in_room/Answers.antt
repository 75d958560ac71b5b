-- `plan_whole::earliest_in_room` meets its contract: E in the timetable that is laid out is that of the file. Assumes nothing.
use mathlib.Core.Path.{sym, ap, ◌∙◌}
use Rattle.plans.specs.Plan.{earliest}
use Rattle.plan_rows.specs.Reading.{timetable_in}
use Rattle.plan_earliest.specs.Arrival.{arrival}
use Rattle.plan_whole.proofs.Laying.{earliest_there}
use Rattle.plan_whole.proofs.earliest_in_room.Goals as goal

pub returns : goal.returns
returns c =
    let a = c.args in
    let laid = c.lay_out-first in
    let s = laid.result.0 in (
      c.earliest_arrival.ensures.0
          ∙ ap (λ file. arrival (earliest (timetable_in file s.places) a.q)) laid.ensures.0
          ∙ ap arrival (sym (earliest_there a.f a.file.now a.trailer a.q c.requires.0 s.places laid.ensures.1)),
      c.earliest_arrival.ensures.1,
    )
