-- `plan_scan::choose` meets its contract: passed by its worth, or stored by size and the top's minute. Assumes nothing.
use Prim.Native.Nat.{◌+◌, ◌-◌}
use mathlib.Core.Path.{◌≡◌, sym, ap, ◌∙◌}
use native.Mathlib.Omega.{arith}
use lib.ListN.{set}
use Rattle.plan_scan.specs.Stores.{row_worth, Stacked, taken}
use Rattle.plan_scan.proofs.Ways.{stacked_alone, stacked_replacing, stacked_ahead}
use Rattle.plan_scan.proofs.choose.Goals as goal
use Rattle.plan_scan.proofs.choose.Goals.{else-stack-ne0-via-then-stack-ne0+else-top-row, else-stack-ne0-via-else-stack-ne0}

pub returns-then-top-row : goal.returns-then-top-row
returns-then-top-row c =
    let a = c.args in
    let stack = c.stack_of-stack in
    let limit : c.cell.result ≡ row_worth a.work.now a.i + 1 - a.margin = omega (arith, c.saturating_sub.ensures) in
    taken c.if-limits-stop.false
    (stacked_replacing a.row a.i a.work.now stack.result.start stack.result.size stack.ensures.0 stack.ensures.1
    c.if-stack-ne0.true c.replace_top.new.work c.requires.0.board (sym c.top.ensures.1 ∙ c.if-top-row.true) c.replace_top.ensures)
    (ap (set a.limits.now a.row.board) limit)

pub returns-else-stack-ne0 : goal.returns-else-stack-ne0
returns-else-stack-ne0 c =
    let a = c.args in
    let stack = c.stack_of-stack in
    let limit : c.cell.result ≡ row_worth a.work.now a.i + 1 - a.margin = omega (arith, c.saturating_sub.ensures) in
    let stacked : Stacked a.row a.i a.work.now c.push.new.work =
    elim c.else-stack-ne0.branch [
      | else-stack-ne0-via-then-stack-ne0+else-top-row w ↦
          stacked_ahead a.row a.i a.work.now stack.result.start stack.result.size stack.ensures.0 stack.ensures.1 w.if-stack-ne0.true
          c.push.new.work (λ same. w.if-top-row.false (w.top.ensures.1 ∙ same)) c.push.ensures
      | else-stack-ne0-via-else-stack-ne0 w ↦
          stacked_alone a.row a.i a.work.now stack.result.start stack.result.size stack.ensures.0 stack.ensures.1 c.push.new.work
          w.if-stack-ne0.false c.push.ensures
    ]
    in
    taken c.if-limits-stop.false stacked (ap (set a.limits.now a.row.board) limit)
