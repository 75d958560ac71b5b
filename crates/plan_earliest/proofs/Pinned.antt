-- One who is at the stop in the minute of a departure boards. Assumes nothing.
use Prim.Native.Nat.{◌+◌}
use mathlib.Core.Bool.{true}
use mathlib.Core.List.{[]}
use native.Mathlib.Omega.{arith}
use lib.ListN.{set}
use Rattle.plan_cells.specs.Cells.{trip_cells}
use Rattle.plan_earliest.specs.Cells.{Boarded, boards}

pub equal_minute_boarded :
    Boarded 0 (record { board = 3; land = 4; departure = 0; arrival = 30; trip = 5; class = 0 }) [] (set [] (trip_cells + 5) 1) true
equal_minute_boarded = boards (omega arith)
