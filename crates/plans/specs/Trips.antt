-- Document 01, "Expected arrival in ticks": the trip's next row.
use Rattle.std.specs.Prelude.{ℕ, ◌<◌, ◌≢◌, ◌≡◌, length}
use Rattle.timetable.specs.Timetable.{Timetable, row_of}

pub record NextOfTrip (t : Timetable) (i next : ℕ) : Type 0 where
  pub later : i < next
  pub inside : next < length t.rows
  pub one_trip : (row_of t.rows next).trip ≡ (row_of t.rows i).trip
  pub first : (k : ℕ) → i < k → k < next → (row_of t.rows k).trip ≢ (row_of t.rows i).trip
