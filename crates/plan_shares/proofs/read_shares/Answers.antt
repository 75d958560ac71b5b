-- `plan_shares::read_shares` meets its contract: so far the first `minute` running sums stand in their cells. Assumes nothing.
use Prim.Native.Nat.{suc}
use mathlib.Core.Path.{◌≡◌, ap, ◌∙◌}
use native.Mathlib.Omega.{arith}
use lib.ListN.{take}
use lib.Seq.{take_all}
use Rattle.file_layout.specs.Decode.{shares_from}
use Rattle.file_layout.proofs.Blocks.{shares_length}
use Rattle.plans.specs.Worth.{weigh}
use Rattle.plan_shares.proofs.Running.{so_far_none, so_far_more, total_small, late_whole}
use Rattle.plan_shares.proofs.read_shares.Goals as goal

pub loop-minute-init : goal.loop-minute-init
loop-minute-init c = so_far_none _ _ _ _ _

pub overflow_add-total : goal.overflow_add-total
overflow_add-total c = omega (arith, total_small c.requires.0 c.loop-minute.invariant (omega arith) c.u16_at-share.ensures.0)

pub overflow_add-late : goal.overflow_add-late
overflow_add-late c = omega (arith, late_whole c.requires.0 c.loop-minute.invariant (omega arith) c.u16_at-share.ensures.0)

pub cell-requires : goal.cell-requires
cell-requires c = omega (arith, total_small c.requires.0 c.loop-minute.invariant (omega arith) c.u16_at-share.ensures.0)

pub loop-minute-preserved : goal.loop-minute-preserved
loop-minute-preserved c =
    rw c.cell.ensures (so_far_more c.requires.0 c.loop-minute.invariant (omega arith) c.u16_at-share.ensures.0 c.requires.1)

pub returns : goal.returns
returns c =
    let a = c.args in
    let l = c.loop-minute in
    let shares = shares_from a.file.now a.at (suc a.maximum) in
    let all : l.minute ≡ suc a.maximum = omega arith in
    let whole : take l.minute shares ≡ shares = take_all l.minute shares (omega (arith, shares_length a.file.now a.at (suc a.maximum))) in
    (l.invariant.late_sum ∙ ap (λ xs. weigh xs 0 (λ v. v)) whole, rw all at l.invariant.summed)
