-- Which rows are wanted, as the lent cells mark them: a row's mark is 1 once a ride of the plan may be changed to its ride.
use Rattle.std.specs.Prelude.{ℕ, ◌≤◌, ◌<◌, List, ◌⊎◌, ◌≡◌, length, get_or}
use Rattle.timetable.specs.Limits.{most_stops, most_rows}
use Rattle.plan_cells.specs.Cells.{pair_cells}
use Rattle.plan_stacks.specs.Stacks.{stack_start, stack_size, entry_departure, entry_row, Falling}

-- an entry from `soon` on, up to and including the first at or after `last`: all that depart before it do so before `last`
pub record Caught (work : List ℕ) (start size soon last place : ℕ) : Type 0 where
  pub inside : place < size
  pub opens : soon ≤ entry_departure work start place
  pub needed : (k : ℕ) → place < k → k < size → entry_departure work start k < last

-- the stack of a landing stop, whose last entry departs at or after `last`
pub record Catching (work : List ℕ) (land soon last : ℕ) : Type 0 where
  pub stop : land < most_stops
  pub cells : pair_cells ≤ length work
  pub falling : Falling work (stack_start work land) (stack_size work land) soon
  pub rows : (k : ℕ) → k < stack_size work land → entry_row work (stack_start work land) k < most_rows
  pub late : soon ≤ last
  pub safe : last ≤ entry_departure work (stack_start work land) 0

-- the entries caught from place `place` up are marked, and nothing else is changed
pub record Passed (old new : List ℕ) (start size soon last place : ℕ) : Type 0 where
  pub same_length : length new ≡ length old
  pub marked : (k : ℕ) → place ≤ k → Caught old start size soon last k → get_or new (entry_row old start k) 0 ≡ 1
  pub only :
      (i : ℕ) → (get_or new i 0 ≡ get_or old i 0) ⊎ ((k : ℕ) × Caught old start size soon last k × (i ≡ entry_row old start k))

-- all entries caught at a stop are
abbrev pub AllPassed : (old new : List ℕ) (land soon last : ℕ) → Type 0
AllPassed old new land soon last = Passed old new (stack_start old land) (stack_size old land) soon last 0

-- row `boarding` alone of n rows is marked
pub record MarkedAlone (work : List ℕ) (n boarding : ℕ) : Type 0 where
  pub marked : get_or work boarding 0 ≡ 1
  pub only : (i : ℕ) → i < n → get_or work i 0 ≡ 1 → i ≡ boarding
