-- What changing boats asks of the lent cells: the entries that can be boarded from a landing on, and a class's cumulative shares.
use Rattle.std.specs.Prelude.{ℕ, suc, ◌+◌, ◌*◌, ◌≤◌, ◌<◌, List, ◌≡◌, length, get_or, take}
use Rattle.timetable.specs.Timetable.{maximum_delay}
use Rattle.timetable.specs.Classes.{sum}
use Rattle.plan_rows.specs.Reading.{SharesFit}
use Rattle.plan_stacks.specs.Stacks.{entry_departure, entry_worth}

-- entries from place `first` down to the bottom, met by one who is ready at minute `soon` and later by these shares of delays; `caught` is the worth of
-- the ride caught at a minute
pub record Boarding (work tables : List ℕ) (start first soon last cell : ℕ) (shares : List ℕ) (caught : ℕ → ℕ) : Type 0 where
  pub inside : start + 2 * suc first ≤ length work
  pub room : cell + length shares ≤ length tables
  pub held : (v : ℕ) → v < length shares → get_or tables (cell + v) 0 ≡ sum (take (suc v) shares)
  pub shares_fit : SharesFit shares
  pub lands : last ≡ soon + maximum_delay shares
  pub falls : (k l : ℕ) → k < l → l ≤ first → entry_departure work start l < entry_departure work start k
  pub opens : soon ≤ entry_departure work start first
  pub safe : last ≤ entry_departure work start 0
  pub worth_fits : (k : ℕ) → k ≤ first → entry_worth work start k ≤ 16777216
  pub catches :
      (k minute : ℕ) → k ≤ first → soon ≤ minute → minute ≤ entry_departure work start k
      → ((l : ℕ) → k < l → l ≤ first → entry_departure work start l < minute) → caught minute ≡ entry_worth work start k

-- some stack, shares and worths stand there
pub record SomeBoarding (work tables : List ℕ) (at soon last cell : ℕ) : Type 0 where
  pub start : ℕ
  pub first : ℕ
  pub shares : List ℕ
  pub caught : ℕ → ℕ
  pub stands : at ≡ start + 2 * first
  pub boarding : Boarding work tables start first soon last cell shares caught
