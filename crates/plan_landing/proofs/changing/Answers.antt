-- `plan_landing::changing` meets its contract: the sum so far, and what the delays left add, make the whole. Assumes nothing.
use Prim.Native.Nat.{◌+◌, ◌-◌, ◌*◌, ◌/◌}
use mathlib.Core.Path.{sym, ap, ◌∙◌}
use borrow.Author.Tests.{leb-true, leb-false}
use lib.ListN.{get_or}
use Rattle.timetable.specs.Classes.{share_total}
use Rattle.timetable.specs.Ticks.{quotient_up}
use Rattle.plan_stacks.specs.Stacks.{key_step}
use Rattle.plan_landing.proofs.Turns.{begins, turns, ends, going}
use Rattle.plan_landing.proofs.changing.Goals as goal

pub loop-departure-init : goal.loop-departure-init
loop-departure-init c =
    going c.requires
    (λ start first held caught stands boarding.
    begins boarding c.args.at c.departure_of-departure.result stands
    (c.departure_of-departure.ensures ∙ ap (λ e. get_or c.args.work.now e 0 / key_step) stands))

pub loop-departure-preserved : goal.loop-departure-preserved
loop-departure-preserved c =
    let early = leb-false _ _ (sym c.can_board.ensures ∙ c.loop-departure-test.true) in
    going c.requires
    (λ start first held caught stands boarding.
    rw c.long.ensures.0
    (turns boarding (c.loop-departure.invariant.turn start first held caught stands boarding) _ _ early c.long-share.ensures.0
    c.departure_of-departure-in-loop-departure.ensures))

pub returns : goal.returns
returns c =
    λ start first held caught stands boarding.
    let l = c.loop-departure in
    let late = leb-true _ _ (sym c.can_board.ensures ∙ c.loop-departure-test.false) in
    c.short.ensures
    ∙ ap (λ w. quotient_up share_total (l.sum + (4096 - l.done) * w)) c.long-2.ensures.0
    ∙ ap (quotient_up share_total) (sym (ends boarding (l.invariant.turn start first held caught stands boarding) late))
