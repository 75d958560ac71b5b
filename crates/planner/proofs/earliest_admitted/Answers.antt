-- `planner::earliest_admitted` meets its contract: E or 8, then work cleared. Assumes nothing.
use mathlib.Core.Path.{ap, ◌∙◌}
use native.Mathlib.Omega.{arith}
use Rattle.std.specs.Option.{ok_or}
use Rattle.planner.proofs.Admitting.{asks, rooms_kept, few_kept}
use Rattle.planner.proofs.Answered.{answered_as_earliest, clears}
use Rattle.planner.proofs.earliest_admitted.Goals as goal

pub earliest_in_room-end-requires : goal.earliest_in_room-end-requires
earliest_in_room-end-requires c = (asks c.requires, omega (arith, (rooms_kept c.requires).0))

pub clear-requires : goal.clear-requires
clear-requires c =
    let few = few_kept c.requires in
    (few.0, few.1, omega (arith, (rooms_kept c.requires).0, c.earliest_in_room-end.auto.work))

pub returns : goal.returns
returns c =
    let a = c.args in
    answered_as_earliest a.f a.file.now a.q a.work.now c.requires.fine_call
    (c.ok_or.ensures.value ∙ ap (λ end. ok_or end (record { number = 8; place = 0 })) c.earliest_in_room-end.ensures.0)
    (clears c.requires (omega arith) c.earliest_in_room-end.ensures.1 c.clear.ensures)
