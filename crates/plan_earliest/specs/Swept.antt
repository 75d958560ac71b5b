-- What the cells hold once the rows below a number are swept, and what is found when the target's cell is final.
use Rattle.std.specs.Prelude.{ℕ, ◌≤◌, ◌<◌, List, ◌⊎◌, ◌≡◌}
use Rattle.timetable.specs.Timetable.{Timetable, row_of}
use Rattle.timetable.specs.Limits.{most_stops, most_trips}
use Rattle.plans.specs.Rides.{Ride, IsRide, lands_by, ready}
use Rattle.plan_cells.specs.Cells.{missing}
use Rattle.plan_earliest.specs.Reached.{Reached}
use Rattle.plan_earliest.specs.Cells.{aboard, reached_at}

-- row i can be boarded by one who set out
pub record Boardable (t : Timetable) (gate source minute i : ℕ) : Type 0 where
  pub since : ℕ
  pub there : Reached t gate source minute (row_of t.rows i).board since
  pub in_time : ready gate since ≤ (row_of t.rows i).departure

-- a row below i of this trip can be boarded
pub record Underway (t : Timetable) (gate source minute i trip : ℕ) : Type 0 where
  pub row : ℕ
  pub swept : row < i
  pub same_trip : (row_of t.rows row).trip ≡ trip
  pub boardable : Boardable t gate source minute row

-- a stop's cell tells from which minute on one can be there, or nothing
abbrev pub Told : (t : Timetable) (gate source minute stop cell : ℕ) → Type 0
Told t gate source minute stop cell = (cell ≡ missing) ⊎ Reached t gate source minute stop cell

-- the rows below i are swept
pub record Swept (t : Timetable) (gate source minute i : ℕ) (work : List ℕ) : Type 0 where
  pub starts : reached_at work source ≤ minute
  pub told : (stop : ℕ) → stop < most_stops → Told t gate source minute stop (reached_at work stop)
  -- no ride that leaves at a row below i lands earlier than told
  pub no_earlier :
      (r : Ride) → IsRide t r → r.leave < i → (m : ℕ) → Reached t gate source minute r.from m → ready gate m ≤ r.departs
      → reached_at work r.to ≤ lands_by r
  pub underway : (trip : ℕ) → trip < most_trips → (aboard work trip ≡ 0 → ⊥) → Underway t gate source minute i trip
  pub not_underway : (trip : ℕ) → trip < most_trips → aboard work trip ≡ 0 → Underway t gate source minute i trip → ⊥

-- a stop's cell is the least minute from which on one can be there
pub record EarliestReached (t : Timetable) (gate source minute stop cell : ℕ) : Type 0 where
  pub told : Told t gate source minute stop cell
  pub least : (m : ℕ) → Reached t gate source minute stop m → cell ≤ m
