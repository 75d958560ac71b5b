-- `plan_landing::getting_off` meets its contract: each way out is what the definition says. Assumes nothing.
use mathlib.Core.Path.{sym, ap, ◌∙◌}
use native.Mathlib.Omega.{arith}
use borrow.Author.Tests.{leb-true, leb-false}
use Rattle.timetable.specs.Classes.{share_total}
use Rattle.timetable.specs.Ticks.{quotient_up}
use Rattle.plans.specs.Worth.{caught, weigh}
use Rattle.plan_stacks.specs.Stacks.{stack_start}
use Rattle.plan_landing.proofs.Landings.{falling, none_there, all_gone, boarding, lands_by, bottom_is, expected_fits, off_late, off_there, off_unsafe, off_changing}
use Rattle.plan_landing.proofs.getting_off.Goals as goal

pub returns-then-not-bounded : goal.returns-then-not-bounded
returns-then-not-bounded c =
    λ shares chosen given.
    off_late given c.args.goal _ (lands_by given c.number.ensures.0) c.if-row-goal.true (sym c.bounded.ensures ∙ c.if-not-bounded.true)

pub overflow_add-result-then-row-goal : goal.overflow_add-result-then-row-goal
overflow_add-result-then-row-goal c = omega (arith, c.cell.ensures, expected_fits c.requires.0.given)

pub returns-then-row-goal : goal.returns-then-row-goal
returns-then-row-goal c =
    λ shares chosen given.
    rw c.cell.ensures
    (off_there given c.args.goal _ (lands_by given c.number.ensures.0) c.if-row-goal.true (sym c.bounded.ensures ∙ c.if-not-bounded.false))

pub returns-then-stack-eq0 : goal.returns-then-stack-eq0
returns-then-stack-eq0 c =
    λ shares chosen given.
    off_unsafe given c.args.goal _ (lands_by given c.number.ensures.0) c.if-row-goal.false
    (none_there given _ (sym c.stack_of-stack.ensures.1 ∙ c.if-stack-eq0.true))

pub returns-then-not-can_board : goal.returns-then-not-can_board
returns-then-not-can_board c =
    λ shares chosen given.
    let gone = leb-false _ _ (sym c.can_board.ensures ∙ c.if-not-can_board.true) in
    off_unsafe given c.args.goal _ (lands_by given c.number.ensures.0) c.if-row-goal.false
    (all_gone given _ (omega arith) (omega (arith, bottom_is given c.stack_of-stack.ensures.0 c.departure_of.ensures)))

pub first_open-at-requires : goal.first_open-at-requires
first_open-at-requires c =
    let given = c.requires.0.given in
    let late = leb-true _ _ (sym c.can_board.ensures ∙ c.if-not-can_board.false) in
    rw (c.stack_of-stack.ensures.0, c.stack_of-stack.ensures.1)
    (falling given _ (omega arith) (omega (arith, bottom_is given c.stack_of-stack.ensures.0 c.departure_of.ensures)))

pub changing-requires : goal.changing-requires
changing-requires c =
    let some = c.requires.0 in
    let late = leb-true _ _ (sym c.can_board.ensures ∙ c.if-not-can_board.false) in
    let found = rw (c.stack_of-stack.ensures.0, c.stack_of-stack.ensures.1) at c.first_open-at.ensures in
    record {
      start = stack_start c.args.work.now c.args.row.land;
      first = found.place;
      shares = some.shares;
      caught = λ minute. caught some.chosen c.args.row.land minute;
      stands = found.stands;
      boarding =
          boarding some.given _ _ found _ (omega (arith, lands_by some.given c.number.ensures.0))
          (omega (arith, bottom_is some.given c.stack_of-stack.ensures.0 c.departure_of.ensures));
    }

pub returns : goal.returns
returns c =
    λ shares chosen given.
    let late = leb-true _ _ (sym c.can_board.ensures ∙ c.if-not-can_board.false) in
    let found = rw (c.stack_of-stack.ensures.0, c.stack_of-stack.ensures.1) at c.first_open-at.ensures in
    let lands = lands_by given c.number.ensures.0 in
    let bottom = bottom_is given c.stack_of-stack.ensures.0 c.departure_of.ensures in
    c.changing.ensures _ _ shares _ found.stands (boarding given _ _ found _ (omega arith) (omega arith))
    ∙ ap (λ from. quotient_up share_total (weigh shares from (λ minute. caught chosen c.args.row.land minute))) c.ready-soon.ensures
    ∙ off_changing given c.args.goal _ lands c.if-row-goal.false (omega arith) (omega arith)
