-- Document 01, "Numbers returned on refusal": each fault's place is its class for 3, its row for 4 and 5, otherwise 0.
use Rattle.std.specs.Prelude.{ℕ, ◌<◌}
use Rattle.timetable.specs.Verdict.{Verdict, fine, fault}

-- a refusal's number and place, in a file of so many classes and rows
pub data Placed (classes rows : ℕ) : ℕ → ℕ → Type 0 where
  outside : Placed classes rows 1 0
  unjoined : Placed classes rows 2 0
  class : {k : ℕ} → k < classes → Placed classes rows 3 k
  own : {i : ℕ} → i < rows → Placed classes rows 4 i
  order : {i : ℕ} → i < rows → Placed classes rows 5 i

-- a verdict that is fine or a fault at its place
abbrev pub WellPlaced : ℕ → ℕ → Verdict → Type 0
WellPlaced classes rows fine = Unit {0}
WellPlaced classes rows (fault number place) = Placed classes rows number place
