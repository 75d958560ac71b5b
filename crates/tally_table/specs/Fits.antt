-- What making a table needs of a version's limits and of the numbers lent, so that no number wraps and none is out of reach.
use Rattle.std.specs.Prelude.{ℕ, suc, ◌/◌, ◌<◌, ◌≤◌, List, ◌≡◌, length}
use Rattle.file_layout.specs.declared.Format.{Format}
use Rattle.tally.specs.Tally.{counts}
use Rattle.tally.specs.Fits.{Tallyable}
use Rattle.tally_table.specs.Table.{landings_by}

-- a share for each delay, from 0 to the longest
pub record TableFits (f : Format) (tally shares : List ℕ) : Type 0 where
  pub limits : Tallyable f
  pub sized : length tally ≡ counts f.delay
  pub room : length shares ≡ suc f.delay

-- landings up to a delay that are among those tallied, and a number lent for each share
pub record SharesFit (tally : List ℕ) (landings delay : ℕ) (shares : List ℕ) : Type 0 where
  pub delays : delay < length tally
  pub room : delay < length shares
  pub some : 0 < landings
  pub among : landings_by tally delay ≤ landings
  pub small : landings < 4294967296

-- some of the landings, and the reciprocal of all of them in 2^44ths, rounded down
pub record ShareFits (late landings reciprocal : ℕ) : Type 0 where
  pub some : 0 < landings
  pub among : late ≤ landings
  pub small : landings < 4294967296
  pub reciprocal_of : reciprocal ≡ 17592186044416 / landings
