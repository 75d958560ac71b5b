-- The scan's worths, leaving rows and chosen rows, as the lent cells hold them.
use Rattle.std.specs.Prelude.{ℕ, suc, ◌+◌, ◌-◌, ◌*◌, ◌≤◌, ◌<◌, List, ◌≡◌, get_or}
use Rattle.std.proofs.Math.Option.{Option, none, some}
use Rattle.std.proofs.Math.Seq.{slice}
use Rattle.timetable.specs.Limits.{most_stops}
use Rattle.plans.specs.Worth.{Valued}
use Rattle.plans.specs.Chosen.{in_ticks, Scan, scan}
use Rattle.plan_cells.specs.Cells.{pair_cells, used, missing}
use Rattle.plan_stacks.specs.Stacks.{stack_start, stack_size}
use Rattle.plan_rows.specs.declared.SectionPlaces.{SectionPlaces}
use Rattle.plan_rows.specs.Reading.{rows_in, tables_in}
use Rattle.plans.specs.declared.Goal.{Goal}
use Rattle.plan_stacks.specs.Chosen.{StackHolds, Climbing}

-- the scan of the rows from `first` to before `end`
abbrev pub scan_in : List ℕ → SectionPlaces → Goal → (first end : ℕ) → Scan
scan_in file s goal first end =
    scan (in_ticks goal) (tables_in file s) first (slice first end (rows_in file s))

-- the best ride of row i, of a scan that begins at row `first`
abbrev pub best_in : Scan → (first i : ℕ) → Option Valued
best_in sc first i = (get_or sc.weighed (i - first) (record { trip = 0; best = none })).best

-- a row's pair of cells: its worth and its leaving row
abbrev pub PairHolds : List ℕ → ℕ → Option Valued → Type 0
PairHolds work i none = get_or work (pair_cells + 2 * i) 0 ≡ missing
PairHolds work i (some v) =
    (get_or work (pair_cells + 2 * i) 0 ≡ v.worth) × (get_or work (pair_cells + 2 * i + 1) 0 ≡ v.ride.leave) × (v.worth < missing)

-- the cells after the scan of the rows from `first` to before `end`, of n rows in all
pub record ScanHeld (work : List ℕ) (n first end : ℕ) (sc : Scan) : Type 0 where
  pub pair_holds : (i : ℕ) → first ≤ i → i < end → PairHolds work i (best_in sc first i)
  pub stack_holds : (stop : ℕ) → stop < most_stops → StackHolds work stop sc.chosen
  pub climbing : (stop : ℕ) → stop < most_stops → Climbing stop sc.chosen
  -- each stack stands behind the rows' pairs, within the cells that planning uses
  pub stack_behind : (stop : ℕ) → stop < most_stops → pair_cells + 2 * suc n ≤ stack_start work stop
  pub stack_inside : (stop : ℕ) → stop < most_stops → stack_start work stop + 2 * stack_size work stop ≤ used n
