-- The work slice's regions, its pairs of cells, and cells that are filled.
use Rattle.std.specs.Prelude.{ℕ, ◌+◌, ◌*◌, List, ◌++◌, take, drop, set, replicate}
use Rattle.std.proofs.Math.Option.{Option, none, some}

-- the first cell of each region: a trip's cell or a row's mark; where a stop's stack starts; its size; pairs of cells
abbrev pub trip_cells : ℕ
trip_cells = 0

abbrev pub stop_cells : ℕ
stop_cells = 2000

abbrev pub size_cells : ℕ
size_cells = 2200

abbrev pub pair_cells : ℕ
pair_cells = 2400

-- the cells that planning uses, of the 4n + 2,500 that it is lent
abbrev pub used : ℕ → ℕ
used rows = 4 * rows + 2402

-- no worth, or no minute: above all that there are
abbrev pub missing : ℕ
missing = 4294967295

-- a number that may be missing, as a cell
abbrev pub cell_of : Option ℕ → ℕ
cell_of none = missing
cell_of (some x) = x

-- the first cell of pair i
abbrev pub pair_cell : ℕ → ℕ
pair_cell i = pair_cells + 2 * i

-- two cells from `at` on: a row's worth and leaving row, or an entry's key and worth
abbrev pub two_at : List ℕ → (at front behind : ℕ) → List ℕ
two_at w at front behind = set (set w at front) (at + 1) behind

-- the pair of a row
abbrev pub paired : List ℕ → (pair front behind : ℕ) → List ℕ
paired w pair front behind = two_at w (pair_cell pair) front behind

-- `count` cells from `at` on become `value`
abbrev pub filled : List ℕ → (at count value : ℕ) → List ℕ
filled work at count value = take at work ++ (replicate count value ++ drop (at + count) work)
