-- The eight pairs keep version 1's limit, and the rule's steps fit for every pair that does. Assumes nothing.
use Prim.Native.Nat.{ℕ, ◌+◌, ◌*◌, ◌<◌, ◌≤◌}
use mathlib.Core.Path.{refl}
use mathlib.Core.Bool.{Bool}
use native.Mathlib.Omega.{arith}
use lib.Dec.{leb}
use lib.ListN.{length}
use borrow.Author.Tests.{leb-true}
use Rattle.laws.proofs.Below.{below_at}
use Rattle.timetable.specs.Classes.{share_total}
use Rattle.file_layout.specs.Format.{version_one}
use Rattle.house.specs.House.{maximum, pair_of, house_pairs}

-- M is at most version 1's longest delay
unfoldable short_enough : ℕ → Bool
short_enough k = leb (maximum (pair_of k)) version_one.delay

pub house_short : (k : ℕ) → k < length house_pairs → maximum (pair_of k) ≤ version_one.delay
unfolding short_enough
house_short k h = leb-true _ _ (below_at short_enough (length house_pairs) refl k h)

-- the greatest step of the rule fits 32 bits for any pair within the limits
pub steps_fit : (m d : ℕ) → m + d ≤ version_one.delay → share_total * (33 * (m + d)) < 4294967296
steps_fit m d h = omega arith
