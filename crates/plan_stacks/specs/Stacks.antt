-- A stop's stack of chosen rows in the work slice: its entries, and the first that can be boarded at a minute.
use Rattle.std.specs.Prelude.{ℕ, zero, suc, ◌+◌, ◌*◌, ◌/◌, ◌%◌, ◌≤◌, ◌<◌, List, [], ◌∷◌, ◌≡◌, length, get_or, set}
use Rattle.plan_cells.specs.Cells.{stop_cells, size_cells, pair_cell, two_at}

-- an entry of a stack: 2,048 × departure + row, then the row's worth
pub record Entry : Type 0 where
  pub key : ℕ
  pub worth : ℕ

abbrev pub key_step : ℕ
key_step = 2048

abbrev pub key_of : (departure row : ℕ) → ℕ
key_of departure row = key_step * departure + row

abbrev pub entry_at : List ℕ → ℕ → Entry
entry_at work at = record { key = get_or work at 0; worth = get_or work (at + 1) 0 }

-- `size` entries from cell `at` on, the last one first: the latest departure stands at the bottom
unfoldable pub stack_at : List ℕ → ℕ → ℕ → List Entry
stack_at work at zero = []
stack_at work at (suc size) = entry_at work (at + 2 * size) ∷ stack_at work at size

-- where a stop's stack starts, as a pair and as a cell, and its entries
abbrev pub start_pair : List ℕ → ℕ → ℕ
start_pair work stop = get_or work (stop_cells + stop) 0

abbrev pub stack_start : List ℕ → ℕ → ℕ
stack_start work stop = pair_cell (start_pair work stop)

abbrev pub stack_size : List ℕ → ℕ → ℕ
stack_size work stop = get_or work (size_cells + stop) 0

abbrev pub stack_of : List ℕ → ℕ → List Entry
stack_of work stop = stack_at work (stack_start work stop) (stack_size work stop)

-- the departure, the row and the worth of a stack's entry, by its place from the bottom
abbrev pub entry_departure : List ℕ → (start place : ℕ) → ℕ
entry_departure work start place = get_or work (start + 2 * place) 0 / key_step

abbrev pub entry_row : List ℕ → (start place : ℕ) → ℕ
entry_row work start place = get_or work (start + 2 * place) 0 % key_step

abbrev pub entry_worth : List ℕ → (start place : ℕ) → ℕ
entry_worth work start place = get_or work (start + 2 * place + 1) 0

-- a row's entry, by its place from the bottom
abbrev pub with_entry : List ℕ → (start place departure row worth : ℕ) → List ℕ
with_entry work start place departure row worth = two_at work (start + 2 * place) (key_of departure row) worth

-- a stop's stack has `size` entries
abbrev pub with_size : List ℕ → (stop size : ℕ) → List ℕ
with_size work stop size = set work (size_cells + stop) size

-- a row's entry, as the top of k + 1 entries of a stop's stack
abbrev pub with_top : List ℕ → (stop k departure row worth : ℕ) → List ℕ
with_top work stop k departure row worth = with_size (with_entry work (stack_start work stop) k departure row worth) stop (suc k)

-- a stack that is not empty: departures fall from the bottom up, and the bottom one can be boarded at `minute`
pub record Falling (work : List ℕ) (start size minute : ℕ) : Type 0 where
  pub some_entry : 0 < size
  pub inside : start + 2 * size ≤ length work
  pub falls : (k l : ℕ) → k < l → l < size → entry_departure work start l < entry_departure work start k
  pub bottom : minute ≤ entry_departure work start 0

-- the cell of the highest entry that can be boarded at `minute`: the first to depart of those that can
pub record FirstOpenAt (work : List ℕ) (start size minute at : ℕ) : Type 0 where
  pub place : ℕ
  pub inside : place < size
  pub stands : at ≡ start + 2 * place
  pub opens : minute ≤ entry_departure work start place
  pub missed : (k : ℕ) → place < k → k < size → entry_departure work start k < minute
