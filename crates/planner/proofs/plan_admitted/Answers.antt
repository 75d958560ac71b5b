-- `planner::plan_admitted` meets its contract: the plan or 8, then work cleared as far as it is lent by need. Assumes nothing.
use native.Mathlib.Omega.{arith}
use Rattle.planner.proofs.Admitting.{asks, rooms_kept, few_kept}
use Rattle.planner.proofs.Answered.{answered_as, clears}
use Rattle.planner.proofs.plan_admitted.Goals as goal

pub plan_in_room-answer-requires : goal.plan_in_room-answer-requires
plan_in_room-answer-requires c =
    let rooms = rooms_kept c.requires in
    (asks c.requires, omega (arith, rooms.0), omega (arith, rooms.1))

pub clear-requires : goal.clear-requires
clear-requires c =
    let few = few_kept c.requires in
    (few.0, few.1, omega (arith, (rooms_kept c.requires).0, c.plan_in_room-answer.auto.work))

pub returns : goal.returns
returns c =
    let a = c.args in
    answered_as a.f a.file.now a.q a.work.now a.plan.now c.requires.fine_call c.plan_in_room-answer.ensures.0
    (clears c.requires (omega arith) c.plan_in_room-answer.ensures.1 c.clear.ensures)
