-- Document 01, "Rides, safe journeys, plans", and document 02, E3: a ride, and when one who stands at a stop can board.
use Rattle.std.specs.Prelude.{ℕ, ◌+◌, ◌≤◌, ◌<◌, Bool, ◌&&◌, List, ◌≡◌, leb, eqb, length}
use Rattle.timetable.specs.Timetable.{Timetable, shares_of, maximum_delay, row_of}

-- the rows where it boards and leaves; from which stop, when, to which stop, when; the shares of its delays
pub record Ride : Type 0 where
  pub board : ℕ
  pub leave : ℕ
  pub from : ℕ
  pub departs : ℕ
  pub to : ℕ
  pub arrives : ℕ
  pub shares : List ℕ

-- Its class and arrival are those of the row where it leaves
abbrev pub ride_of : Timetable → ℕ → ℕ → Ride
ride_of t board leave =
    record {
      board = board;
      leave = leave;
      from = (row_of t.rows board).board;
      departs = (row_of t.rows board).departure;
      to = (row_of t.rows leave).land;
      arrives = (row_of t.rows leave).arrival;
      shares = shares_of t.tables (row_of t.rows leave).class;
    }

-- A ride boards at one row and leaves at the same or a later row of the same trip
pub record IsRide (t : Timetable) (r : Ride) : Type 0 where
  pub onward : r.board ≤ r.leave
  pub inside : r.leave < length t.rows
  pub one_trip : (row_of t.rows r.board).trip ≡ (row_of t.rows r.leave).trip
  pub as_timed : r ≡ ride_of t r.board r.leave

-- a + M, the last minute at which the ride lands
abbrev pub lands_by : Ride → ℕ
lands_by r = r.arrives + maximum_delay r.shares

-- E3: gates close so many minutes before departure. One who is at a stop from a minute on is ready to board there so many minutes later;
-- nothing else adds them
abbrev pub ready : (gate minute : ℕ) → ℕ
ready gate minute = minute + gate

-- one who is ready at `stop` at `minute` can board what leaves `from` at `departs`: an equal minute is caught
abbrev pub opens : (from departs stop minute : ℕ) → Bool
opens from departs stop minute = eqb from stop && leb minute departs

abbrev pub boards : Ride → ℕ → ℕ → Bool
boards r stop minute = opens r.from r.departs stop minute
