-- `plan_extract::write_wanted` meets its contract: at row i the plan is written as far as the rows before it. Assumes nothing.
use Prim.Native.Nat.{◌+◌, ◌<◌}
use mathlib.Core.Path.{ap, ◌∙◌}
use native.Mathlib.Nat.{zero-add}
use native.Mathlib.Omega.{arith}
use lib.ListN.{get_or}
use Rattle.plan_cells.specs.Cells.{trip_cells, stop_cells}
use Rattle.plan_cells.proofs.Outside.{outside_same, outside_then, outside_wider}
use Rattle.plan_scan.specs.Scanned.{scan_in}
use Rattle.plan_extract.specs.Extracted.{PlanFrom}
use Rattle.plan_extract.proofs.Timed.{ordered, own_worth, known}
use Rattle.plan_extract.proofs.Passing.{marks_only}
use Rattle.plan_extract.proofs.Writing.{writing_start, writing_pass, writing_end, plan_length}
use Rattle.plan_extract.proofs.Turn.{later_of, turn, up_to_by, leave_inside, landing_fits, met, arrived, changed}
use Rattle.plan_extract.proofs.write_wanted.Goals as goal
use Rattle.plan_extract.proofs.write_wanted.Goals.{then-work-board-eq1+then-row-goal, then-work-board-eq1+else-row-goal, else-work-board-eq1}

pub loop-board-init : goal.loop-board-init
loop-board-init c =
    let a = c.args in
    let r = a.reach.now in
    record {
      few = omega arith;
      fits = omega arith;
      kept = outside_same trip_cells stop_cells a.work.now;
      at_row = λ p.
          writing_start (scan_in r.sailings.file.now r.sailings.places r.goal p.first r.end).chosen
          (ordered r.sailings.file.now r.sailings.places r.sailings.readable r.end r.inside r.goal p.first p.ordered) p.begins
          r.goal.gate r.goal.target r.sailings.places.rows
          (own_worth r.sailings.file.now r.sailings.places r.sailings.readable r.end r.inside r.goal p.first p.ordered)
          a.plan.now a.work.now c.requires.3;
    }

pub write_row-leave-requires : goal.write_row-leave-requires
write_row-leave-requires c =
    let r = c.args.reach.now in
    let l = c.loop-board in
    let few : l.rides < r.sailings.places.rows = omega (arith, l.invariant.few, r.inside) in (
      omega (arith, r.inside, r.sailings.readable.few_rows),
      omega (arith, l.invariant.kept.same_length, r.inside),
      omega (arith, plan_length (l.invariant.at_row c.requires.2) (omega arith)),
    )

pub nth_row-row-requires : goal.nth_row-row-requires
nth_row-row-requires c =
    let r = c.args.reach.now in
    let l = c.loop-board in
    let own = turn c.requires.2 c.requires.0 c.requires.1 c.loop-board-test.true l.invariant c.if-work-board-eq1.true in
    leave_inside own c.write_row-leave.result c.write_row-leave.ensures.0

pub overflow_add-rides : goal.overflow_add-rides
overflow_add-rides c =
    let r = c.args.reach.now in omega (arith, c.loop-board.invariant.few, r.inside, r.sailings.readable.few_rows)

pub ready-requires : goal.ready-requires
ready-requires c =
    let r = c.args.reach.now in
    let l = c.loop-board in
    let own = turn c.requires.2 c.requires.0 c.requires.1 c.loop-board-test.true l.invariant c.if-work-board-eq1.true in
    (r.gate, omega (arith, landing_fits own c.write_row-leave.result c.write_row-leave.ensures.0 c.nth_row-row.result c.nth_row-row.ensures.0 c.number.result c.number.ensures.0))

pub want-requires : goal.want-requires
want-requires c =
    let r = c.args.reach.now in
    let l = c.loop-board in
    let own = turn c.requires.2 c.requires.0 c.requires.1 c.loop-board-test.true l.invariant c.if-work-board-eq1.true in
    met own c.write_row-leave.result c.write_row-leave.ensures.0 c.nth_row-row.result c.nth_row-row.ensures.0 c.number.result c.number.ensures.0
    c.if-row-goal.true c.ready-soon.ensures c.ready.ensures

pub loop-board-preserved : goal.loop-board-preserved
loop-board-preserved c =
    let r = c.args.reach.now in
    let l = c.loop-board in
    elim c.if-work-board-eq1.branch [
      | then-work-board-eq1+then-row-goal w ↦
          let on = λ (p : PlanFrom r c.args.boarding c.args.work.now). turn p c.requires.0 c.requires.1 c.loop-board-test.true l.invariant w.if-work-board-eq1.true in
          let lands = landing_fits (on c.requires.2) w.write_row-leave.result w.write_row-leave.ensures.0 w.nth_row-row.result w.nth_row-row.ensures.0
          w.number.result w.number.ensures.0 in
          up_to_by w.work-is w.plan-is w.rides-is w.latest-is
          (record {
            few = omega (arith, l.invariant.few);
            fits = omega (arith, w.max-latest.ensures, later_of l.latest (w.nth_row-row.result.arrival + w.number.result), l.invariant.fits, lands);
            kept =
                outside_then l.invariant.kept
                (marks_only l.work _ _ _
                (met (on c.requires.2) w.write_row-leave.result w.write_row-leave.ensures.0 w.nth_row-row.result w.nth_row-row.ensures.0
                w.number.result w.number.ensures.0 w.if-row-goal.true w.ready-soon.ensures w.ready.ensures) w.want.ensures);
            at_row = λ p.
                changed (on p) w.write_row-leave.result w.write_row-leave.ensures.0 w.nth_row-row.result w.nth_row-row.ensures.0
                w.number.result w.number.ensures.0 w.write_row-leave.new.plan w.write_row-leave.ensures.1 w.max-latest.result
                (w.max-latest.ensures ∙ later_of l.latest (w.nth_row-row.result.arrival + w.number.result))
                w.if-row-goal.true w.ready-soon.ensures w.ready.ensures w.want.new.work w.want.ensures;
          })
      | then-work-board-eq1+else-row-goal w ↦
          let on = λ (p : PlanFrom r c.args.boarding c.args.work.now). turn p c.requires.0 c.requires.1 c.loop-board-test.true l.invariant w.if-work-board-eq1.true in
          let lands = landing_fits (on c.requires.2) w.write_row-leave.result w.write_row-leave.ensures.0 w.nth_row-row.result w.nth_row-row.ensures.0
          w.number.result w.number.ensures.0 in
          up_to_by w.work-is w.plan-is w.rides-is w.latest-is
          (record {
            few = omega (arith, l.invariant.few);
            fits = omega (arith, w.max-latest.ensures, later_of l.latest (w.nth_row-row.result.arrival + w.number.result), l.invariant.fits, lands);
            kept = l.invariant.kept;
            at_row = λ p.
                arrived (on p) w.write_row-leave.result w.write_row-leave.ensures.0 w.nth_row-row.result w.nth_row-row.ensures.0
                w.number.result w.number.ensures.0 w.write_row-leave.new.plan w.write_row-leave.ensures.1 w.max-latest.result
                (w.max-latest.ensures ∙ later_of l.latest (w.nth_row-row.result.arrival + w.number.result))
                w.if-row-goal.false;
          })
      | else-work-board-eq1 w ↦
          up_to_by w.work-is w.plan-is w.rides-is w.latest-is
          (record {
            few = omega (arith, l.invariant.few);
            fits = l.invariant.fits;
            kept = l.invariant.kept;
            at_row = λ p. writing_pass (l.invariant.at_row p) (λ mark. w.if-work-board-eq1.false (ap (λ k. get_or l.work k 0) (zero-add l.board) ∙ mark));
          })
    ]

pub cell-requires : goal.cell-requires
cell-requires c = omega (arith, c.loop-board.invariant.fits)

pub returns : goal.returns
returns c =
    let r = c.args.reach.now in
    let l = c.loop-board in (
      λ p.
          let inside = known r.sailings.file.now r.sailings.places r.sailings.readable r.end r.inside r.goal p.first p.ordered in
          let done = writing_end (l.invariant.at_row p) (λ v m. omega (arith, c.loop-board-test.false, (inside v m).before_end)) in
          (done.0, done.1, c.cell.ensures ∙ done.2),
      outside_wider (omega arith) (omega arith) l.invariant.kept,
    )
