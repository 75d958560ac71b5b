-- Running sums of a class's shares in lent cells.
use Rattle.std.specs.Prelude.{ℕ, suc, ◌+◌, ◌*◌, ◌≤◌, ◌<◌, List, ◌≡◌, length, get_or, take}
use Rattle.timetable.specs.Classes.{share_total, sum}
use Rattle.file_layout.specs.Decode.{shares_from, table_at, block_end}
use Rattle.plan_cells.specs.Outside.{SameOutside}
use Rattle.plan_rows.specs.Reading.{SharesFit}

-- shares of delays 0 to `maximum` stand in the file from byte `at` on, and sum to no more than the whole
pub record SharesStand (file : List ℕ) (at maximum : ℕ) : Type 0 where
  pub inside : at + 2 * suc maximum ≤ length file
  pub few : maximum < 254
  pub not_more : sum (shares_from file at (suc maximum)) ≤ share_total

-- a class block stands in the file
pub record BlockStands (file : List ℕ) (at : ℕ) : Type 0 where
  pub inside : block_end file at ≤ length file
  pub shares_fit : SharesFit (table_at file at)

-- the first `count` running sums of the shares stand in the cells from `into` on, and all others are as they were
pub record Summed (cells cells' : List ℕ) (into : ℕ) (shares : List ℕ) (count : ℕ) : Type 0 where
  pub sums : (v : ℕ) → v < count → get_or cells' (into + v) 0 ≡ sum (take (suc v) shares)
  pub outside : SameOutside into (into + count) cells cells'
