-- Document 02, E2: the numbers that a text's fault can have, and the column that it can be in.
use Rattle.std.specs.Prelude.{ℕ, ◌≤◌}
use Rattle.gtfs_calls.specs.Reading.{Reading, said, wrong}

-- columns are 1 to 5, and 0 for the line as a whole
abbrev pub last_column : ℕ
last_column = 5

pub data TextFault : (number column : ℕ) → Type 0 where
  too_many : {column : ℕ} → column ≤ last_column → TextFault 9 column
  unreadable : {column : ℕ} → column ≤ last_column → TextFault 11 column
  bad_time : {column : ℕ} → column ≤ last_column → TextFault 12 column
  bad_sequence : {column : ℕ} → column ≤ last_column → TextFault 13 column

-- a fault has such a number, and its line is counted from 1
abbrev pub FaultKnown : Reading → Type 0
FaultKnown (said calls) = Unit {0}
FaultKnown (wrong number line column) = TextFault number column × (1 ≤ line)
