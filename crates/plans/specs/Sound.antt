-- What the theorems use of a sound file's timetable: its departures, its rows' own minutes and its shares.
use Rattle.std.specs.Prelude.{ℕ, ◌≤◌, ◌<◌, ◌≡◌, length}
use Rattle.timetable.specs.Timetable.{Timetable, shares_of, row_of}
use Rattle.timetable.specs.Classes.{share_total, sum}

pub record Timely (t : Timetable) : Type 0 where
  -- Departures never fall from row to row
  pub rising : (i j : ℕ) → i ≤ j → j < length t.rows → (row_of t.rows i).departure ≤ (row_of t.rows j).departure
  -- departure is less than arrival
  pub forward : (i : ℕ) → i < length t.rows → (row_of t.rows i).departure < (row_of t.rows i).arrival
  -- Shares sum to 4,096
  pub shared : (i : ℕ) → i < length t.rows → sum (shares_of t.tables (row_of t.rows i).class) ≡ share_total
