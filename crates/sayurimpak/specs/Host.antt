-- What a C host reads from its bytes: little-endian u32, one behind the other.
use Rattle.std.specs.Prelude.{ℕ, zero, suc, ◌<◌, List, [], ◌∷◌, drop}
use Rattle.numbers.specs.Numbers.{u32_at}
use Rattle.plans.specs.Worth.{Valued}

-- the first `count` numbers
unfoldable pub numbers_in : (count : ℕ) → List ℕ → List ℕ
numbers_in zero bytes = []
numbers_in (suc count) bytes = u32_at bytes 0 ∷ numbers_in count (drop 4 bytes)

-- a ride's numbers are u32
pub record NumbersFit (v : Valued) : Type 0 where
  pub board : v.ride.board < 4294967296
  pub leave : v.ride.leave < 4294967296
  pub worth : v.worth < 4294967296
