-- Document 01, "Numbers returned on refusal": the plan goes to a host's bytes as little-endian u32.
use Rattle.std.specs.Prelude.{ℕ, ◌<◌, List, [], ◌∷◌, ◌++◌, length, get_or}
use Rattle.numbers.specs.Numbers.{u32_bytes}

unfoldable pub bytes_of : List ℕ → List ℕ
bytes_of [] = []
bytes_of (x ∷ numbers) = u32_bytes x ++ bytes_of numbers

-- a byte is below 256
pub record Bytes (s : List ℕ) : Type 0 where
  pub byte : (i : ℕ) → i < length s → get_or s i 0 < 256
