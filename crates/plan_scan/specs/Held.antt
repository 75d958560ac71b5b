-- What the lent cells hold within the scan, when the rows from i to before `end` have been weighed.
use Rattle.std.specs.Prelude.{ℕ, suc, ◌+◌, ◌-◌, ◌≤◌, ◌<◌, List, ◌≡◌, length, get_or}
use Rattle.std.proofs.Math.Option.{Option, none, some}
use Rattle.std.proofs.Math.Seq.{slice}
use Rattle.timetable.specs.declared.Row.{Row}
use Rattle.timetable.specs.Limits.{most_stops, most_trips}
use Rattle.plans.specs.Worth.{Valued}
use Rattle.plans.specs.Chosen.{Scan, next_of, first_at}
use Rattle.plan_cells.specs.Cells.{trip_cells, missing}
use Rattle.plan_rows.specs.declared.SectionPlaces.{SectionPlaces}
use Rattle.plan_rows.specs.Reading.{rows_in}
use Rattle.plans.specs.declared.Goal.{Goal}
use Rattle.plan_stacks.specs.Chosen.{StackHolds}
use Rattle.plan_stacks.specs.Stacks.{start_pair, stack_size}
use Rattle.plan_scan.specs.Stores.{row_worth}
use Rattle.plan_scan.specs.Scanned.{scan_in, best_in, PairHolds}
use Rattle.plan_stacks.specs.Regions.{below}
use Rattle.plan_scan.specs.Regions.{count_at}

-- a trip's cell names its next row, n for none, whose pair holds its best ride
pub record NextHolds (w : List ℕ) (n i trip : ℕ) (best : Option Valued) : Type 0 where
  pub later : i ≤ get_or w (trip_cells + trip) 0
  pub inside : get_or w (trip_cells + trip) 0 ≤ n
  pub holds : PairHolds w (get_or w (trip_cells + trip) 0) best

-- worths, leaving rows and next rows
pub record PairsHeld (w : List ℕ) (n i end : ℕ) (sc : Scan) : Type 0 where
  pub weighed : (j : ℕ) → i ≤ j → j < end → PairHolds w j (best_in sc i j)
  pub last : row_worth w n ≡ missing
  pub next : (trip : ℕ) → trip < most_trips → NextHolds w n i trip (next_of sc.weighed trip)

-- a stop's stack: its region begins behind those of the stops below, and has room for the rows to come; `all` are the scan's rows, `rest`
-- those that have been weighed
pub record StackHeld (w : List ℕ) (from : ℕ) (all rest : List Row) (chosen : List Valued) (stop : ℕ) : Type 0 where
  pub start : start_pair w stop ≡ from + below (λ s. count_at s all) stop
  pub room : stack_size w stop ≤ count_at stop rest
  pub holds : StackHolds w stop chosen

-- what a row's worth must lie below to be chosen: at a stop without a chosen ride any worth does, then those that gain the margin on the first
abbrev pub limit_of : ℕ → Option Valued → ℕ
limit_of margin none = missing
limit_of margin (some first) = first.worth + 1 - margin

-- each stop's limit, by the rides that have been chosen
pub record LimitsHeld (limits : List ℕ) (margin : ℕ) (chosen : List Valued) : Type 0 where
  pub count : length limits ≡ most_stops
  pub limit : (stop : ℕ) → stop < most_stops → get_or limits stop 0 ≡ limit_of margin (first_at chosen stop)

pub record Held (file : List ℕ) (s : SectionPlaces) (goal : Goal) (first end i : ℕ) (w limits : List ℕ) : Type 0 where
  pub pairs_held : PairsHeld w s.rows i end (scan_in file s goal i end)
  pub stacks_held :
      (stop : ℕ) → stop < most_stops
      → StackHeld w (suc s.rows) (slice first end (rows_in file s)) (slice i end (rows_in file s)) (scan_in file s goal i end).chosen stop
  pub limits_held : LimitsHeld limits goal.margin (scan_in file s goal i end).chosen
