-- `plan_whole::plan_scanned` meets its contract: the top of the source's stack begins the plan. Assumes nothing.
use Prim.Native.Nat.{◌-◌}
use mathlib.Core.Path.{◌≡◌, ◌∙◌}
use native.Mathlib.Omega.{arith}
use Rattle.plan_cells.specs.Cells.{trip_cells, used}
use Rattle.plan_cells.proofs.Outside.{outside_same}
use Rattle.plan_stacks.specs.Stacks.{stack_start, stack_size, entry_row, entry_worth}
use Rattle.plan_whole.specs.Steps.{plan_in}
use Rattle.plan_whole.proofs.First.{goal_told, begins}
use Rattle.plan_whole.proofs.Answered.{no_plan_answers, plan_answers}
use Rattle.plan_whole.proofs.plan_scanned.Goals as goal

pub returns-then-stack-eq0 : goal.returns-then-stack-eq0
returns-then-stack-eq0 c =
    let a = c.args in
    let r = c.requires in
    let reach = a.reach.now in
    let s = reach.sailings in
    let told = goal_told s.file.now s.places reach.tables.now a.q reach.first r.0 reach.goal.bound reach.end r.1.ordered r.1.inside a.work.now reach.goal
    r.1.aims r.4 r.1.idle in
    let none_here : stack_size a.work.now a.q.source ≡ 0 = cc in
    (no_plan_answers (plan_in s.file.now s.places a.q reach.goal.bound) a.plan.now (told.0 none_here), outside_same trip_cells (used s.places.rows) a.work.now)

pub write_plan-written-requires : goal.write_plan-written-requires
write_plan-written-requires c =
    let a = c.args in
    let r = c.requires in
    let reach = a.reach.now in
    let s = reach.sailings in
    let top = (goal_told s.file.now s.places reach.tables.now a.q reach.first r.0 reach.goal.bound reach.end r.1.ordered r.1.inside a.work.now reach.goal
    r.1.aims r.4 r.1.idle).1 (omega arith) in
    let row : c.top-ahead.result.row ≡ entry_row a.work.now (stack_start a.work.now a.q.source) (stack_size a.work.now a.q.source - 1) = cc in (
      r.2,
      r.3,
      begins s.file.now s.places reach.tables.now a.q reach.first r.0 reach.goal.bound reach.end r.1.ordered r.1.inside a.work.now r.4 top row,
    )

pub cell-requires : goal.cell-requires
cell-requires c =
    let a = c.args in
    let r = c.requires in
    let reach = a.reach.now in
    let s = reach.sailings in
    let top = (goal_told s.file.now s.places reach.tables.now a.q reach.first r.0 reach.goal.bound reach.end r.1.ordered r.1.inside a.work.now reach.goal
    r.1.aims r.4 r.1.idle).1 (omega arith) in
    let row : c.top-ahead.result.row ≡ entry_row a.work.now (stack_start a.work.now a.q.source) (stack_size a.work.now a.q.source - 1) = cc in
    let ahead = begins s.file.now s.places reach.tables.now a.q reach.first r.0 reach.goal.bound reach.end r.1.ordered r.1.inside a.work.now r.4 top row in
    omega (arith, top.few, (c.write_plan-written.ensures.0 ahead).1)

pub returns : goal.returns
returns c =
    let a = c.args in
    let r = c.requires in
    let reach = a.reach.now in
    let s = reach.sailings in
    let top = (goal_told s.file.now s.places reach.tables.now a.q reach.first r.0 reach.goal.bound reach.end r.1.ordered r.1.inside a.work.now reach.goal
    r.1.aims r.4 r.1.idle).1 (omega arith) in
    let row : c.top-ahead.result.row ≡ entry_row a.work.now (stack_start a.work.now a.q.source) (stack_size a.work.now a.q.source - 1) = cc in
    let worth : c.top-ahead.result.worth ≡ entry_worth a.work.now (stack_start a.work.now a.q.source) (stack_size a.work.now a.q.source - 1) = cc in
    let ahead = begins s.file.now s.places reach.tables.now a.q reach.first r.0 reach.goal.bound reach.end r.1.ordered r.1.inside a.work.now r.4 top row in
    let made = c.write_plan-written.ensures.0 ahead in (
      plan_answers (plan_in s.file.now s.places a.q reach.goal.bound) _ _ a.plan.now _ top.is_plan (c.cell.ensures ∙ made.1)
          (worth ∙ top.worth) made.2 c.cell-2.ensures made.0,
      c.write_plan-written.ensures.1,
    )
