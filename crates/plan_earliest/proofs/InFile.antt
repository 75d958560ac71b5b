-- The sweep over a file's rows: a turn, a stop and the end of the loop. Uses what a sound file gives a planner.
use Prim.Native.Nat.{ℕ, ◌+◌, ◌≤◌, ◌<◌}
use native.Mathlib.Numerals.{add-one}
use native.Mathlib.Omega.{arith}
use mathlib.Core.Bool.{true}
use mathlib.Core.List.{List}
use mathlib.Core.Path.{◌≡◌, sym, ap, subst, ◌∙◌}
use lib.Dec.{leb}
use lib.ListN.{length}
use borrow.Author.Tests.{leb-true}
use Rattle.timetable.specs.Limits.{most_stops}
use Rattle.timetable.specs.Timetable.{Timetable, row_of}
use Rattle.timetable.specs.declared.Row.{Row}
use Rattle.plans.specs.Sound.{Timely}
use Rattle.plan_cells.specs.Cells.{trip_cells, pair_cells}
use Rattle.plan_cells.specs.Outside.{SameOutside}
use Rattle.plan_cells.proofs.Outside.{outside_then}
use Rattle.plan_rows.specs.declared.SectionPlaces.{SectionPlaces}
use Rattle.plan_rows.specs.Reading.{rows_in, tables_in, timetable_in, RowFits, FileReadable, TablesHeld}
use Rattle.plan_earliest.specs.Cells.{reached_at, landing_of, RowInCells, RowSailed}
use Rattle.plan_earliest.specs.Swept.{Swept, EarliestReached}
use Rattle.plan_earliest.proofs.Steps.{sails_step, sails_behind}
use Rattle.plan_earliest.proofs.Sweep.{Seaworthy, landing, sweeps}
use Rattle.plan_earliest.proofs.Final.{swept_all, swept_enough}

module _ (file : List ℕ) (s : SectionPlaces) (stand : FileReadable file s) where
  abbrev t : Timetable
  t = timetable_in file s

  row_fits : (i : ℕ) → i < length (rows_in file s) → RowFits s.classes (tables_in file s) (row_of (rows_in file s) i)
  row_fits i h = stand.row_fits i (omega (arith, stand.rows_count))

  timely : Timely t
  timely =
      record {
        rising = λ i j h l. stand.departures i j h (omega (arith, stand.rows_count));
        forward = λ i h. (row_fits i h).onward;
        shared = λ i h. (stand.shares_fit (row_of (rows_in file s) i).class (row_fits i h).class).shares_whole;
      }

  pub seaworthy : Seaworthy (timetable_in file s)
  seaworthy = record { timely = timely; classes = s.classes; fits = row_fits }

  module _ (tables : List ℕ) (held : TablesHeld tables (tables_in file s)) (i : ℕ) (inside : i < s.rows) where
    abbrev row : Row
    row = row_of (rows_in file s) i

    landing_held : landing_of tables row ≡ landing t i
    landing_held =
        ap (λ m. row.arrival + m)
        (held.held row.class (omega (arith, stand.tables_count, (stand.row_fits i inside).class))).longest_held

    pub row_placed : RowInCells tables (row_of (rows_in file s) i)
    row_placed =
        let fits = stand.row_fits i inside in
        record {
          board = fits.board;
          land = fits.land;
          trip = fits.trip;
          class = omega (arith, fits.class, stand.few_classes);
          lands = omega (arith, landing_held, fits.lands);
        }

    module _ {gate : ℕ} {read : Row} (as_filed : read ≡ row) {before after : List ℕ} (sailed : RowSailed gate read (landing_of tables read) before after) where
      sailed_row : RowSailed gate row (landing t i) before after
      sailed_row =
          subst (λ m. RowSailed gate row m before after) landing_held (subst (λ r. RowSailed gate r (landing_of tables r) before after) as_filed sailed)

      pub row_behind_lem : {start : List ℕ} → SameOutside trip_cells pair_cells start before → SameOutside trip_cells pair_cells start after
      row_behind_lem same = outside_then same (sails_behind gate row (landing t i) row_placed.trip row_placed.land sailed_row)

      pub row_swept :
          pair_cells ≤ length before → (source minute : ℕ) → Swept (timetable_in file s) gate source minute i before
          → Swept (timetable_in file s) gate source minute (i + 1) after
      row_swept room source minute sw =
          subst (λ k. Swept t gate source minute k after) (sym (add-one i))
          (sweeps t seaworthy gate source minute i (omega (arith, stand.rows_count)) sw
          (sails_step gate row (landing t i) row_placed.trip row_placed.land room sailed_row))

  -- the next row departs when the stop is reached already
  pub stops_there :
      (i : ℕ) → i < s.rows → {read : Row} → read ≡ row_of (rows_in file s) i → (stop : ℕ) → stop < most_stops → (work : List ℕ) {cell : ℕ}
      → cell ≡ reached_at work stop → leb cell read.departure ≡ true → (gate source minute : ℕ)
      → Swept (timetable_in file s) gate source minute i work → EarliestReached (timetable_in file s) gate source minute stop (reached_at work stop)
  stops_there i inside {read} as_filed stop small work {cell} e test gate source minute sw =
      swept_enough t seaworthy gate source minute stop i small (omega (arith, stand.rows_count))
      (subst (λ r. reached_at work stop ≤ r.departure) as_filed (omega (arith, leb-true cell read.departure test))) sw

  -- no row is left
  pub ends_there :
      (i : ℕ) → i ≡ s.rows → (stop : ℕ) → stop < most_stops → (work : List ℕ) → (gate source minute : ℕ)
      → Swept (timetable_in file s) gate source minute i work → EarliestReached (timetable_in file s) gate source minute stop (reached_at work stop)
  ends_there i all stop small work gate source minute sw =
      swept_all t seaworthy gate source minute stop small (subst (λ k. Swept t gate source minute k work) (all ∙ sym stand.rows_count) sw)
