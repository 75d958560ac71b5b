-- The stops' regions of pairs, one behind the other.
use Rattle.std.specs.Prelude.{ℕ, zero, suc, ◌+◌, ◌<◌, List, ◌≡◌}
use Rattle.timetable.specs.Limits.{most_stops}
use Rattle.plan_cells.specs.Cells.{stop_cells, pair_cells}
use Rattle.plan_cells.specs.Outside.{SameOutside}
use Rattle.plan_stacks.specs.Stacks.{start_pair, stack_size}

-- the sum over the stops below one
unfoldable pub below : (ℕ → ℕ) → ℕ → ℕ
below f zero = 0
below f (suc stop) = below f stop + f stop

-- a region of pairs of cells for each stop, as large as its size was; the stacks are empty
pub record Parted (from : ℕ) (w w' : List ℕ) : Type 0 where
  pub outside : SameOutside stop_cells pair_cells w w'
  pub starts : (stop : ℕ) → stop < most_stops → start_pair w' stop ≡ from + below (stack_size w) stop
  pub empty : (stop : ℕ) → stop < most_stops → stack_size w' stop ≡ 0
