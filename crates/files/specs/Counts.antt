-- How much of a room is filled.
use Rattle.std.specs.Prelude.{◌≡◌, ℕ, ◌≤◌, List, length, take}

-- so many bytes stand at the start of the room, and a slice that ends behind them has no more
abbrev pub IsPrefixLen : ℕ → List ℕ → Type 0
IsPrefixLen count room = (count ≤ length room) × (count ≡ length (take count room))
