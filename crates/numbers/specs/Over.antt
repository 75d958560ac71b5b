-- Document 01, "Numbers returned on refusal": a slice that changes in its first numbers alone.
use Rattle.std.specs.Prelude.{ℕ, List, ◌++◌, length, drop}

-- the numbers ahead, and the others as they were
abbrev pub over : List ℕ → List ℕ → List ℕ
over front slice = front ++ drop (length front) slice
