-- Document 02, E2: the pairs of neighbouring calls, and the row of each, with the numbers that ids have in the whole text.
use Rattle.std.specs.Prelude.{ℕ, ◌<◌, ◌≡◌}
use mathlib.Core.List.{List, [], ◌∷◌, ◌++◌, Memᴰ}
use Rattle.std.proofs.Math.Option.{Option, none, some}
use Rattle.timetable.specs.declared.Row.{Row}
use Rattle.gtfs_stop_time.specs.StopTime.{StopTime}
use Rattle.gtfs_calls.specs.Calls.{last_call, row_between}

-- two calls of one trip, the second read next after the first
pub record Pair : Type 0 where
  pub first : StopTime
  pub second : StopTime

unfoldable pub pair_behind : Option StopTime → StopTime → List Pair
pair_behind none call = []
pair_behind (some previous) call = record { first = previous; second = call } ∷ []

-- all of them, as read; calls are given the last one first
unfoldable pub neighbours : List StopTime → List Pair
neighbours [] = []
neighbours (call ∷ back) = neighbours back ++ pair_behind (last_call call.trip back) call

-- one row for each pair
unfoldable pub rows_between : (stops trips : List (List ℕ)) → List Pair → List Row
rows_between stops trips [] = []
rows_between stops trips (pair ∷ pairs) = row_between stops trips pair.first pair.second ∷ rows_between stops trips pairs

-- `first` and `second` are calls of one trip, and no call of it was read between them
pub record AreNeighbours (calls : List StopTime) (first second : StopTime) : Type 0 where
  pub later : List StopTime
  pub between : List StopTime
  pub earlier : List StopTime
  pub read : calls ≡ later ++ (second ∷ (between ++ (first ∷ earlier)))
  pub one_trip : first.trip ≡ second.trip
  pub none_between : (call : StopTime) → Memᴰ call between → call.trip ≡ second.trip → ⊥

-- no pair stands at two places
pub data NoneTwice : List Pair → Type 0 where
  no_pair : NoneTwice []
  one_pair_more : {pair : Pair} {pairs : List Pair} → (Memᴰ pair pairs → ⊥) → NoneTwice pairs → NoneTwice (pair ∷ pairs)

-- a call's stop_sequence is above that of each call of its trip that was read before it
pub record Rising (calls : List StopTime) : Type 0 where
  pub rises : (later : List StopTime) (call : StopTime) (earlier : List StopTime) → calls ≡ later ++ (call ∷ earlier)
      → (first : StopTime) → Memᴰ first earlier → first.trip ≡ call.trip → first.sequence < call.sequence
