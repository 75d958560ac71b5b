-- How many rows board at each stop: as many entries its stack can need.
use Rattle.std.specs.Prelude.{ℕ, suc, ◌<◌, cond, List, [], ◌∷◌, ◌≡◌, eqb}
use Rattle.timetable.specs.declared.Row.{Row}
use Rattle.timetable.specs.Limits.{most_stops}
use Rattle.plan_cells.specs.Cells.{stop_cells, pair_cells}
use Rattle.plan_cells.specs.Outside.{SameOutside}
use Rattle.plan_stacks.specs.Stacks.{stack_size}

-- how many rows board at a stop
unfoldable pub count_at : ℕ → List Row → ℕ
count_at stop [] = 0
count_at stop (r ∷ rows) = let further = count_at stop rows in cond (eqb r.board stop) (suc further) further

-- the sizes count the rows
pub record Counted (rows : List Row) (w w' : List ℕ) : Type 0 where
  pub outside : SameOutside stop_cells pair_cells w w'
  pub counts : (stop : ℕ) → stop < most_stops → stack_size w' stop ≡ count_at stop rows
