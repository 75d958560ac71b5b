-- What the steps of the scan store in the lent cells.
use Rattle.std.specs.Prelude.{ℕ, suc, ◌+◌, ◌-◌, ◌*◌, ◌≤◌, ◌<◌, List, ◌≡◌, length, get_or, set}
use Rattle.timetable.specs.declared.Row.{Row}
use Rattle.timetable.specs.Limits.{most_stops, most_trips}
use Rattle.plan_cells.specs.Cells.{trip_cells, pair_cell, paired}
use Rattle.plan_stacks.specs.Stacks.{key_of, stack_start, stack_size, entry_departure, with_top}

-- the pair of the trip's next row
abbrev pub next_pair : List ℕ → ℕ → ℕ
next_pair w trip = pair_cell (get_or w (trip_cells + trip) 0)

-- row i becomes its trip's next row
abbrev pub entered : List ℕ → (trip i : ℕ) → List ℕ
entered w trip i = set w (trip_cells + trip) i

-- a row's worth is the least over getting off and staying on
pub data Weighs (row : Row) (i off : ℕ) (w w' : List ℕ) : Type 0 where
  gets_off : off < get_or w (next_pair w row.trip) 0 → w' ≡ paired (entered w row.trip i) i off i → Weighs row i off w w'
  stays_on :
      get_or w (next_pair w row.trip) 0 ≤ off
      → w'
      ≡ paired (entered w row.trip i) i (get_or w (next_pair w row.trip) 0)
      (get_or (set (entered w row.trip i) (pair_cell i) (get_or w (next_pair w row.trip) 0)) (next_pair w row.trip + 1) 0)
      → Weighs row i off w w'

-- a row's worth
abbrev pub row_worth : List ℕ → ℕ → ℕ
row_worth w i = get_or w (pair_cell i) 0

-- the row's entry, as the top of k + 1 entries of its stop's stack
abbrev pub stored : Row → (i k : ℕ) → List ℕ → List ℕ
stored row i k w = with_top w row.board k row.departure i (row_worth w i)

-- a chosen row goes on the stack; in the same minute as the top it replaces that row
pub data Stacked (row : Row) (i : ℕ) (w w' : List ℕ) : Type 0 where
  alone : stack_size w row.board ≡ 0 → w' ≡ stored row i 0 w → Stacked row i w w'
  replaces :
      (k : ℕ) → stack_size w row.board ≡ suc k → entry_departure w (stack_start w row.board) k ≡ row.departure → w' ≡ stored row i k w
      → Stacked row i w w'
  ahead :
      (k : ℕ) → stack_size w row.board ≡ suc k → (entry_departure w (stack_start w row.board) k ≡ row.departure → ⊥)
      → w' ≡ stored row i (suc k) w → Stacked row i w w'

-- a row is chosen if its worth lies below its stop's limit, and then sets the limit for the rows ahead of it
pub data Chose (row : Row) (i margin : ℕ) (w limits w' limits' : List ℕ) : Type 0 where
  passed : get_or limits row.board 0 ≤ row_worth w i → w' ≡ w → limits' ≡ limits → Chose row i margin w limits w' limits'
  taken :
      row_worth w i < get_or limits row.board 0 → Stacked row i w w' → limits' ≡ set limits row.board (row_worth w i + 1 - margin)
      → Chose row i margin w limits w' limits'

-- the cells that weighing and choosing a row touch are lent
pub record Weighable (row : Row) (i : ℕ) (w : List ℕ) : Type 0 where
  pub trip : row.trip < most_trips
  pub number : i < 4294967296
  pub own : pair_cell i + 1 < length w
  pub next : next_pair w row.trip + 1 < length w

pub record Pushable (row : Row) (i : ℕ) (w : List ℕ) : Type 0 where
  pub board : row.board < most_stops
  pub own : pair_cell i < length w
  pub key : key_of row.departure i < 4294967296
  pub few : stack_size w row.board < 4294967295
  pub room : stack_start w row.board + 2 * stack_size w row.board + 1 < length w
