-- `plan_whole::plan_in_room` meets its contract: what is laid out of a sound file, E, the bound, then the plan within it. Assumes nothing.
use mathlib.Core.Option.{Option, some}
use mathlib.Core.Path.{◌≡◌, sym, ap, subst, ◌∙◌}
use native.Mathlib.Omega.{arith}
use borrow.Author.Rules.{rules}
use Rattle.file_layout.specs.Decode.{decode}
use Rattle.query.proofs.Rules.{code_most}
use Rattle.timetable.specs.Verdict.{refused}
use Rattle.plans.specs.Journeys.{bound_of, ready_at}
use Rattle.plans.specs.Plan.{Plan as Planned, planned, earliest}
use Rattle.plan_cells.specs.Cells.{used}
use Rattle.plan_rows.specs.Reading.{timetable_in}
use Rattle.plan_rows.specs.Sailings.{timetable_of}
use Rattle.plan_cells.proofs.Outside.{outside_then, outside_wider}
use Rattle.plan_whole.specs.declared.Plan.{Plan}
use Rattle.plan_whole.specs.Answers.{Answers}
use Rattle.plan_whole.specs.Steps.{Reaches, plan_in, KeptBehind}
use Rattle.plan_whole.proofs.Bounds.{earliest_fits, code_stands, bound_reaches}
use Rattle.plan_whole.proofs.Answered.{no_arrival, arrival_told, no_plan_answers, no_plan_of}
use Rattle.plan_whole.proofs.Laying.{plan_there, plan_by_arrival, rows_there}
use Rattle.plan_whole.proofs.plan_in_room.Goals as goal

pub returns-in_err-end : goal.returns-in_err-end
returns-in_err-end c =
    let a = c.args in
    let laid = c.lay_out-first in
    let s = laid.result.0 in
    let refusal : c.from_residual.result ≡ refused {A = Plan} 8 0 = search rules in
    let gone = no_arrival (earliest (timetable_of s) a.q) (sym c.in_err-end.ensures.ok_part ∙ c.earliest_arrival.ensures.0) in (
      subst (λ r. Answers (planned (decode a.f a.file.now) a.q) r a.plan.now a.plan.now) (sym refusal)
          (no_plan_answers (planned (decode a.f a.file.now) a.q) a.plan.now
          (plan_there a.f a.file.now a.trailer a.q c.requires.0 s.places laid.ensures.1
          ∙ ap (λ file. planned (timetable_in file s.places) a.q) (sym laid.ensures.0) ∙ no_plan_of (timetable_of s) a.q gone)),
      outside_wider (omega arith) (omega arith) c.earliest_arrival.ensures.1,
    )

pub bound_of-bound-requires : goal.bound_of-bound-requires
bound_of-bound-requires c =
    let a = c.args in
    let laid = c.lay_out-first in
    let s = laid.result.0 in
    let found = arrival_told (earliest (timetable_of s) a.q) c.in_ok-end.end (sym c.in_ok-end.ensures.ok_part ∙ c.earliest_arrival.ensures.0) in
    let fits = earliest_fits s.file.now s.places laid.ensures.2.stand laid.ensures.2.timely a.q c.in_ok-end.end found in
    (omega arith, omega arith, code_most c.requires.0.fits)

pub plan_within-requires : goal.plan_within-requires
plan_within-requires c =
    let a = c.args in
    let laid = c.lay_out-first in
    let s = laid.result.0 in
    let found = arrival_told (earliest (timetable_of s) a.q) c.in_ok-end.end (sym c.in_ok-end.ensures.ok_part ∙ c.earliest_arrival.ensures.0) in
    let fits = earliest_fits s.file.now s.places laid.ensures.2.stand laid.ensures.2.timely a.q c.in_ok-end.end found in
    let rows = rows_there a.f a.file.now a.trailer a.q c.requires.0 s.places laid.ensures.1 in (
      laid.ensures.2,
      subst (Reaches (ready_at a.q)) (sym c.bound_of-bound.ensures.0)
          (bound_reaches a.q c.number.result (code_stands c.requires.0.fits) (omega arith)),
      c.bound_of-bound.ensures.1,
      omega (arith, c.earliest_arrival.ensures.1.same_length),
      omega arith,
    )

pub returns : goal.returns
returns c =
    let a = c.args in
    let laid = c.lay_out-first in
    let s = laid.result.0 in
    let found = arrival_told (earliest (timetable_of s) a.q) c.in_ok-end.end (sym c.in_ok-end.ensures.ok_part ∙ c.earliest_arrival.ensures.0) in
    let rows = rows_there a.f a.file.now a.trailer a.q c.requires.0 s.places laid.ensures.1 in
    let same : plan_in s.file.now s.places a.q c.bound_of-bound.result ≡ planned (decode a.f a.file.now) a.q =
    ap (plan_in s.file.now s.places a.q) (c.bound_of-bound.ensures.0 ∙ ap (bound_of a.q) c.number.ensures.0)
    ∙ ap (λ file. plan_in file s.places a.q (bound_of a.q c.in_ok-end.end)) laid.ensures.0
    ∙ sym (plan_by_arrival a.f a.file.now a.trailer a.q c.requires.0 s.places laid.ensures.1 c.in_ok-end.end
    (subst (λ file. earliest (timetable_in file s.places) a.q ≡ some c.in_ok-end.end) laid.ensures.0 found))
    in (
      subst (λ (o : Option Planned). Answers o c.plan_within.result a.plan.now c.plan_within.new.plan) same c.plan_within.ensures.0,
      outside_then (outside_wider (omega arith) (omega arith) c.earliest_arrival.ensures.1)
          (subst (λ n. KeptBehind (used n) c.earliest_arrival.new.work c.plan_within.new.work) rows c.plan_within.ensures.1),
    )
