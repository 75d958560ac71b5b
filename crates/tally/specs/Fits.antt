-- What counting and adding up need of a version's limits and of the numbers lent, so that no number wraps and none is out of reach.
use Rattle.std.specs.Prelude.{ℕ, suc, ◌*◌, ◌<◌, List, ◌≡◌, length}
use Rattle.file_layout.specs.declared.Format.{Format}
use Rattle.tally.specs.Tally.{counts, most_count}

-- a difference of two minutes is one of 32 bits, and so are the most landings
pub record Tallyable (f : Format) : Type 0 where
  pub minutes : f.lastminute < 2147483648
  pub delays : f.delay < 2147483648
  pub landings : suc f.delay * most_count < 4294967296

pub record TallyFits (f : Format) (tally : List ℕ) : Type 0 where
  pub limits : Tallyable f
  pub sized : length tally ≡ counts f.delay
