-- Which outcome a call gives; what a host reads from its answer and bytes, and what a pier reads from a sheet: the rides that demands 2 and 3 ask, on days 1 to 8.
use Rattle.std.specs.Prelude.{ℕ, ◌*◌, ◌≤◌, List, ◌++◌, ◌≡◌, length, drop, Result}
use Rattle.clock.specs.Clock.{day_of}
use Rattle.timetable.specs.Timetable.{Timetable}
use Rattle.timetable.specs.declared.Refusal.{Refusal}
use Rattle.file_layout.specs.Format.{version_one}
use Rattle.query.specs.declared.Query.{Query}
use Rattle.plans.specs.Worth.{Valued}
use Rattle.demands.specs.Demanded.{Demanded}
use Rattle.plan_slice.specs.Slice.{rides_in}
use Rattle.planner.specs.Outcome.{earliest_outcome}
use Rattle.sayurimpak.specs.Desk.{desk_outcome}
use Rattle.sayurimpak.specs.Host.{numbers_in}
use Rattle.sheet_text.specs.Sheet.{first_text, rides_text}

-- a call of the desk gives the desk's outcome for this query
abbrev pub AsDesk : (file : List ℕ) → Query → (out : List ℕ) → (answer : ℕ) (bytes : List ℕ) → Type 0
AsDesk file q out answer bytes = (answer ≡ (desk_outcome version_one file q out).answer) × (bytes ≡ (desk_outcome version_one file q out).bytes)

-- a call for the earliest safe arrival gives its outcome for this query
abbrev pub AsArrival : (file : List ℕ) → Query → (work : List ℕ) → (answer : Result ℕ (Refusal ℕ)) (after : List ℕ) → Type 0
AsArrival file q work answer after = (answer ≡ (earliest_outcome version_one file q work).answer) × (after ≡ (earliest_outcome version_one file q work).work)

-- the answer counts the rides that stand in the bytes, 12 bytes a ride; other bytes stay as they were in `out`
pub record Booked (t : Timetable) (q : Query) (out : List ℕ) (answer : ℕ) (bytes : List ℕ) : Type 0 where
  pub expected : ℕ
  pub latest : ℕ
  pub bound : ℕ
  pub demanded_plan : Demanded t q (rides_in t (numbers_in (3 * answer) bytes)) expected latest bound
  pub count : length (rides_in t (numbers_in (3 * answer) bytes)) ≡ answer
  pub beyond : drop (12 * answer) bytes ≡ drop (12 * answer) out

-- the text's lines are a plan's: the first line, then a line a ride
pub record SheetShows (t : Timetable) (q : Query) (text : List ℕ) : Type 0 where
  pub rides : List Valued
  pub expected : ℕ
  pub latest : ℕ
  pub bound : ℕ
  pub demanded_plan : Demanded t q rides expected latest bound
  pub lines : text ≡ first_text (length rides) expected latest ++ rides_text rides

-- a minute that prints as one of the days 1 to 8
abbrev pub InEightDays : ℕ → Type 0
InEightDays minute = (1 ≤ day_of minute) × (day_of minute ≤ 8)
