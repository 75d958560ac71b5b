-- What the steps of planning ask of each other: a sound file, what is laid out of it in the lent cells, and the plan within a bound.
use Rattle.std.specs.Prelude.{ℕ, ◌≤◌, ◌<◌, List, ◌≢◌, ◌≡◌, length}
use Rattle.std.proofs.Math.Option.{Option}
use Rattle.timetable.specs.declared.Row.{Row}
use Rattle.timetable.specs.Limits.{most_stops}
use Rattle.file_layout.specs.declared.Format.{Format}
use Rattle.file_layout.specs.declared.Trailer.{Trailer}
use Rattle.file_layout.specs.Decode.{trailer_of}
use Rattle.file_layout.specs.Sound.{SoundFile}
use Rattle.query.specs.declared.Query.{Query}
use Rattle.query.specs.Query.{QueryFits, most_gate}
use Rattle.plans.specs.Journeys.{goal_of, ready_at}
use Rattle.plans.specs.Sound.{Timely}
use Rattle.plans.specs.Worth.{first_open}
use Rattle.plans.specs.Chosen.{in_ticks}
use Rattle.plans.specs.Plan.{Plan, chosen_for, plan_within}
use Rattle.plan_cells.specs.Outside.{SameOutside}
use Rattle.plan_cells.specs.Cells.{trip_cells}
use Rattle.plan_rows.specs.declared.SectionPlaces.{SectionPlaces}
use Rattle.plan_rows.specs.Reading.{rows_in, tables_in, timetable_in, FileReadable, Cut, TablesHeld}
use Rattle.plan_rows.specs.Sections.{Plannable}
use Rattle.plan_rows.specs.Idle.{Idle}
use Rattle.plans.specs.declared.Goal.{Goal}

-- a sound file with its trailer, and a query that keeps its rule there
pub record CallFits (f : Format) (file : List ℕ) (trailer : Trailer) (q : Query) : Type 0 where
  pub plannable : Plannable f
  pub sound : SoundFile f file
  pub read : trailer ≡ trailer_of f file
  pub fits : QueryFits trailer.stops f.lastminute q

-- a sound file's rows, its tables as lent cells, and the first row at or after T + g
pub record PlanningInput (file : List ℕ) (s : SectionPlaces) (tables : List ℕ) (q : Query) (first : ℕ) : Type 0 where
  pub stand : FileReadable file s
  pub held : TablesHeld tables (tables_in file s)
  pub timely : Timely (timetable_in file s)
  pub source : q.source < most_stops
  pub target : q.target < most_stops
  pub apart : q.source ≢ q.target
  pub minute : q.minute < 65536
  pub gate : q.gate ≤ most_gate
  pub cut : Cut (rows_in file s) (ready_at q) first

-- no bound, or one that does not lie before the minute
abbrev pub Reaches : (minute bound : ℕ) → Type 0
Reaches minute bound = bound ≢ 0 → minute ≤ bound

-- all rows where there is no bound, else those that depart before it
pub record RowsWithin (rows : List Row) (bound end : ℕ) : Type 0 where
  pub all : bound ≡ 0 → end ≡ length rows
  pub before : bound ≢ 0 → Cut rows bound end

-- the rows from `first` to before `end` are all that a plan for this goal can board
pub record RowsInReach (file : List ℕ) (s : SectionPlaces) (q : Query) (goal : Goal) (first end : ℕ) : Type 0 where
  pub aims : goal ≡ goal_of q goal.bound
  pub bound : goal.bound < 4294967296
  pub ordered : first ≤ end
  pub inside : end ≤ s.rows
  pub idle : Idle (in_ticks goal) (timetable_in file s) end

-- the plan within a bound, none if no chosen row can be boarded at the source from T + g on
abbrev pub plan_in : List ℕ → SectionPlaces → Query → ℕ → Option Plan
plan_in file s q bound =
    plan_within (timetable_in file s) q bound (first_open (chosen_for (timetable_in file s) (goal_of q bound)) q.source (ready_at q))

-- cells from `from` on are as they were
abbrev pub KeptBehind : (from : ℕ) (work work' : List ℕ) → Type 0
KeptBehind from work work' = SameOutside trip_cells from work work'
