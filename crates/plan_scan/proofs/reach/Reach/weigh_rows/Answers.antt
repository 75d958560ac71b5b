-- `plan_scan::Reach::weigh_rows` meets its contract: the cells hold the scan from row i on. Assumes nothing.
use Prim.Native.Nat.{suc, ◌-◌}
use mathlib.Core.Path.{◌≡◌, subst}
use native.Mathlib.Omega.{arith}
use Rattle.plan_cells.specs.Cells.{trip_cells, used}
use Rattle.plan_cells.proofs.Outside.{outside_same, outside_then}
use Rattle.plan_scan.specs.Reach.{HeldFrom}
use Rattle.plan_scan.proofs.Turn.{turn_weighable, turn_some_landable, turn_weighed, turn_unchosen, turn_pushable, turn_chosen, turn_stays}
use Rattle.plan_scan.proofs.reach.Reach.weigh_rows.Goals as goal

pub loop-i-init : goal.loop-i-init
loop-i-init c =
    let r = c.args.self.now in (r.ordered, c.requires.1, outside_same trip_cells (used r.sailings.places.rows) c.args.work.now)

pub getting_off-off-requires : goal.getting_off-off-requires
getting_off-off-requires c =
    let r = c.args.self.now in
    let l = c.loop-i in
    let next : l.i ≡ suc (l.i - 1) = omega arith in
    let held = subst (λ k. HeldFrom r k l.work l.limits) next l.invariant.1 in (
      turn_some_landable r.sailings.file.now r.sailings.places r.goal r.first r.end r.sailings.readable r.inside (l.i - 1) (omega arith) (omega arith) l.work l.limits (omega arith)
          c.nth_row-row.result c.nth_row-row.ensures.0 held r.tables.now r.held,
      r.gate,
    )

pub weigh_row-requires : goal.weigh_row-requires
weigh_row-requires c =
    let r = c.args.self.now in
    let l = c.loop-i in
    let next : l.i ≡ suc (l.i - 1) = omega arith in
    let held = subst (λ k. HeldFrom r k l.work l.limits) next l.invariant.1 in
    turn_weighable r.sailings.file.now r.sailings.places r.goal r.first r.end r.sailings.readable r.inside (l.i - 1) (omega arith) (omega arith) l.work l.limits (omega arith)
    c.nth_row-row.result c.nth_row-row.ensures.0 held

pub choose-requires : goal.choose-requires
choose-requires c =
    let r = c.args.self.now in
    let l = c.loop-i in
    let next : l.i ≡ suc (l.i - 1) = omega arith in
    let held = subst (λ k. HeldFrom r k l.work l.limits) next l.invariant.1 in
    let weighed = turn_weighed r.sailings.file.now r.sailings.places r.goal r.first r.end r.sailings.readable r.inside (l.i - 1) (omega arith) (omega arith) l.work l.limits (omega arith)
    c.nth_row-row.result c.nth_row-row.ensures.0 held
    r.tables.now r.held c.getting_off-off.result c.getting_off-off.ensures c.weigh_row.new.work c.weigh_row.ensures
    in
    let pushable = turn_pushable r.sailings.file.now r.sailings.places r.goal r.first r.end r.sailings.readable r.inside (l.i - 1) (omega arith) (omega arith) l.work l.limits (omega arith)
    c.nth_row-row.result c.nth_row-row.ensures.0
    c.weigh_row.new.work weighed c.if-row-self.true
    in
    (pushable, omega (arith, pushable.board, held.limits_held.count))

pub loop-i-preserved-then-row-self : goal.loop-i-preserved-then-row-self
loop-i-preserved-then-row-self c =
    let r = c.args.self.now in
    let l = c.loop-i in
    let next : l.i ≡ suc (l.i - 1) = omega arith in
    let held = subst (λ k. HeldFrom r k l.work l.limits) next l.invariant.1 in
    let weighed = turn_weighed r.sailings.file.now r.sailings.places r.goal r.first r.end r.sailings.readable r.inside (l.i - 1) (omega arith) (omega arith) l.work l.limits (omega arith)
    c.nth_row-row.result c.nth_row-row.ensures.0 held
    r.tables.now r.held c.getting_off-off.result c.getting_off-off.ensures c.weigh_row.new.work c.weigh_row.ensures
    in (
      omega arith,
      turn_chosen r.sailings.file.now r.sailings.places r.goal r.first r.end r.sailings.readable r.inside (l.i - 1) (omega arith) (omega arith) l.work l.limits (omega arith)
          c.nth_row-row.result c.nth_row-row.ensures.0
          c.weigh_row.new.work weighed c.if-row-self.true c.choose.new.work c.choose.new.limits c.choose.ensures,
      outside_then l.invariant.2
          (turn_stays r.sailings.file.now r.sailings.places r.goal r.first r.end r.sailings.readable r.inside (l.i - 1) (omega arith) (omega arith) l.work l.limits (omega arith)
          c.nth_row-row.result c.nth_row-row.ensures.0
          c.weigh_row.new.work weighed c.if-row-self.true c.choose.new.work c.choose.new.limits c.choose.ensures),
    )

pub loop-i-preserved : goal.loop-i-preserved
loop-i-preserved c =
    let r = c.args.self.now in
    let l = c.loop-i in
    let next : l.i ≡ suc (l.i - 1) = omega arith in
    let held = subst (λ k. HeldFrom r k l.work l.limits) next l.invariant.1 in
    let weighed = turn_weighed r.sailings.file.now r.sailings.places r.goal r.first r.end r.sailings.readable r.inside (l.i - 1) (omega arith) (omega arith) l.work l.limits (omega arith)
    c.nth_row-row.result c.nth_row-row.ensures.0 held
    r.tables.now r.held c.getting_off-off.result c.getting_off-off.ensures c.weigh_row.new.work c.weigh_row.ensures
    in (
      omega arith,
      turn_unchosen r.sailings.file.now r.sailings.places r.goal r.first r.end r.sailings.readable r.inside (l.i - 1) (omega arith) (omega arith) l.work l.limits (omega arith)
          c.nth_row-row.result c.nth_row-row.ensures.0
          c.weigh_row.new.work weighed c.if-row-self.false,
      outside_then l.invariant.2 weighed.stays,
    )

pub returns : goal.returns
returns c =
    let r = c.args.self.now in
    let l = c.loop-i in
    let done : l.i ≡ r.first = omega arith in
    (subst (λ k. HeldFrom r k l.work l.limits) done l.invariant.1, l.invariant.2)
