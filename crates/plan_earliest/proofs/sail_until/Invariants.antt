use Prim.Native.Nat.{ℕ}
use Rattle.plan_cells.specs.Cells.{trip_cells, pair_cells}
use Rattle.plan_cells.specs.Outside.{SameOutside}
use Rattle.plan_rows.specs.Sailings.{timetable_of}
use Rattle.plan_earliest.specs.Swept.{Swept}
use Rattle.plan_earliest.proofs.sail_until.Given as goal

abbrev pub invariant-loop-i : goal.invariant-loop-i
invariant-loop-i l =
    SameOutside trip_cells pair_cells l.initial.work l.work
    × ((source minute : ℕ) → Swept (timetable_of l.sailings) l.gate source minute l.first l.initial.work → Swept (timetable_of l.sailings) l.gate source minute l.i l.work)
