use Prim.Native.Nat.{◌≤◌}
use Rattle.plan_cells.specs.Cells.{trip_cells, used}
use Rattle.plan_cells.specs.Outside.{SameOutside}
use Rattle.plan_scan.specs.Reach.{HeldFrom}
use Rattle.plan_scan.proofs.reach.Reach.weigh_rows.Given as goal

abbrev pub invariant-loop-i : goal.invariant-loop-i
invariant-loop-i l =
    (l.self.first ≤ l.i) × HeldFrom l.self l.i l.work l.limits × SameOutside trip_cells (used l.self.sailings.places.rows) l.initial.work l.work
