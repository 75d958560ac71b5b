-- What a step leaves alone in lent cells.
use Rattle.std.specs.Prelude.{ℕ, ◌≤◌, ◌<◌, List, ◌≡◌, length, get_or}

-- the cells ahead of `from` and those from `to` on are as they were, and there are as many
pub record SameOutside (from to : ℕ) (old new : List ℕ) : Type 0 where
  pub same_length : length new ≡ length old
  pub ahead : (i : ℕ) → i < from → get_or new i 0 ≡ get_or old i 0
  pub behind : (i : ℕ) → to ≤ i → get_or new i 0 ≡ get_or old i 0
