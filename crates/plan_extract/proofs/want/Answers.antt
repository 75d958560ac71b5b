-- `plan_extract::want` meets its contract: the entries above the one that the loop is at are passed. Assumes nothing.
use Prim.Native.Nat.{◌+◌, ◌%◌}
use mathlib.Core.Path.{◌≡◌, sym, ◌∙◌}
use native.Mathlib.Omega.{arith}
use borrow.Author.Tests.{leb-false}
use Rattle.plan_stacks.specs.Stacks.{key_step}
use Rattle.plan_extract.proofs.Passing.{down_on}
use Rattle.plan_extract.proofs.want.Goals as goal

pub loop-key-preserved : goal.loop-key-preserved
loop-key-preserved c =
    let a = c.args in
    let l = c.loop-key in
    let here : 0 + c.row_of.result ≡ l.key % key_step = omega (arith, c.row_of.ensures) in
    down_on a.work.now a.land a.soon a.last c.requires l.invariant (0 + c.row_of.result) here
    (omega (arith, leb-false a.last c.departure_of.result (sym c.can_board.ensures ∙ c.loop-key-test.true), c.departure_of.ensures))
