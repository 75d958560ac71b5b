-- What getting off asks of the lent cells.
use Rattle.std.specs.Prelude.{ℕ, ◌+◌, ◌*◌, ◌≤◌, ◌<◌, List, ◌≡◌, length}
use Rattle.timetable.specs.declared.Row.{Row}
use Rattle.timetable.specs.Limits.{most_stops, most_classes}
use Rattle.plan_cells.specs.Cells.{pair_cells}
use Rattle.plans.specs.Rides.{Ride}
use Rattle.plans.specs.Worth.{Valued}
use Rattle.plan_stacks.specs.Stacks.{stack_start, stack_size}
use Rattle.plan_stacks.specs.Chosen.{StackHolds, Climbing}
use Rattle.plan_rows.specs.Reading.{table_cells, BlockHeld, SharesFit}

-- what getting off a row needs: the class's block, and the stack of the landing stop within the lent cells
pub record Landable (row : Row) (tables work : List ℕ) (shares : List ℕ) (chosen : List Valued) : Type 0 where
  pub land : row.land < most_stops
  pub class : row.class < most_classes
  pub tables_room : length tables ≡ table_cells
  pub block : BlockHeld tables row.class shares
  pub shares_fit : SharesFit shares
  pub lands : row.arrival + length shares ≤ 65536
  pub cells : pair_cells ≤ length work
  pub stack_inside : stack_start work row.land + 2 * stack_size work row.land ≤ length work
  pub stack_holds : StackHolds work row.land chosen
  pub climbing : Climbing row.land chosen

-- some shares and some chosen rides make a row so
pub record SomeLandable (row : Row) (tables work : List ℕ) : Type 0 where
  pub shares : List ℕ
  pub chosen : List Valued
  pub given : Landable row tables work shares chosen

-- the ride of one row, as getting off looks at it
abbrev pub ride_off : Row → List ℕ → Ride
ride_off r shares =
    record {
      board = 0;
      leave = 0;
      from = r.board;
      departs = r.departure;
      to = r.land;
      arrives = r.arrival;
      shares = shares;
    }
