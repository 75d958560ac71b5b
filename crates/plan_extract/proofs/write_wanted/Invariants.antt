use Rattle.plan_extract.proofs.Turn.{UpTo}
use Rattle.plan_extract.proofs.write_wanted.Given as goal

abbrev pub invariant-loop-board : goal.invariant-loop-board
invariant-loop-board l = UpTo l.reach l.boarding l.initial.work l.initial.plan l.work l.plan l.rides l.latest l.board
