-- The rows as read are one for each pair of neighbouring calls, by the numbers that ids have in the whole text. Assumes nothing.
use Prim.Native.Nat.{ℕ, suc, ◌<◌}
use mathlib.Core.List.Memᴰ
use mathlib.Core.List.{List, [], ◌∷◌, ◌++◌, Memᴰ}
use mathlib.Core.Option.{Option, none, some}
use mathlib.Core.Path.{◌≡◌, refl, sym, ap, subst⁻¹, ◌∙◌}
use lib.ListN.{length}
use Rattle.timetable.specs.declared.Row.{Row}
use Rattle.gtfs_ids.specs.Ids.{number_of, with_id}
use Rattle.gtfs_ids.proofs.Numbering.{number_kept}
use Rattle.gtfs_stop_time.specs.StopTime.{StopTime}
use Rattle.gtfs_calls.specs.Calls.{trips_of, stops_of, last_call, row_between, row_behind, rows_of}
use Rattle.gtfs_calls.specs.Neighbours.{Pair, pair_behind, neighbours, rows_between}
use Rattle.gtfs_calls.proofs.Appearance.{known_id, trips_collected, stops_collected}
use Rattle.gtfs_calls.proofs.Pairs.{neighbours_are}

-- both calls of a pair are calls
pub pair_members : (calls : List StopTime) (pair : Pair) → Memᴰ pair (neighbours calls)
    → Memᴰ pair.first calls × Memᴰ pair.second calls
pair_members calls pair m =
    let are = neighbours_are calls pair m in (
      subst⁻¹ (λ (l : List StopTime). Memᴰ pair.first l) are.read
          (Memᴰ.append_right are.later (Memᴰ.tail (Memᴰ.append_right are.between (Memᴰ.head refl)))),
      subst⁻¹ (λ (l : List StopTime). Memᴰ pair.second l) are.read (Memᴰ.append_right are.later (Memᴰ.head refl)),
    )

-- the ids that a pair's row numbers are known
record KnownIds (stops trips : List (List ℕ)) (pair : Pair) : Type 0 where
  board : number_of stops pair.first.stop < length stops
  land : number_of stops pair.second.stop < length stops
  trip : number_of trips pair.second.trip < length trips

known_ids : (calls : List StopTime) (pair : Pair) → Memᴰ pair (neighbours calls) → KnownIds (stops_of calls) (trips_of calls) pair
known_ids calls pair m =
    let ends = pair_members calls pair m in
    record {
      board = known_id (λ c. c.stop) stops_of stops_collected calls pair.first ends.0;
      land = known_id (λ c. c.stop) stops_of stops_collected calls pair.second ends.1;
      trip = known_id (λ c. c.trip) trips_of trips_collected calls pair.second ends.1;
    }

-- rows by the numbers of ids so far are rows by the numbers of all
rows_kept : (stops trips : List (List ℕ)) (stop trip : List ℕ) (pairs : List Pair)
    → ((pair : Pair) → Memᴰ pair pairs → KnownIds stops trips pair)
    → rows_between stops trips pairs ≡ rows_between (with_id stops stop) (with_id trips trip) pairs
unfolding rows_between row_between
rows_kept stops trips stop trip [] known = refl
rows_kept stops trips stop trip (pair ∷ pairs) known =
    let own = known pair (Memᴰ.head refl) in
    let board = number_kept stops stop pair.first.stop own.board in
    let land = number_kept stops stop pair.second.stop own.land in
    let number = number_kept trips trip pair.second.trip own.trip in
    let others = rows_kept stops trips stop trip pairs (λ other m. known other (Memᴰ.tail m)) in
    cc

rows_append : (stops trips : List (List ℕ)) (front more : List Pair)
    → rows_between stops trips (front ++ more) ≡ rows_between stops trips front ++ rows_between stops trips more
unfolding rows_between
rows_append stops trips [] more = refl
rows_append stops trips (pair ∷ front) more =
    ap (λ (l : List Row). row_between stops trips pair.first pair.second ∷ l) (rows_append stops trips front more)

-- one for each
pub rows_many : (stops trips : List (List ℕ)) (pairs : List Pair) → length (rows_between stops trips pairs) ≡ length pairs
unfolding rows_between
rows_many stops trips [] = refl
rows_many stops trips (pair ∷ pairs) = ap suc (rows_many stops trips pairs)

row_behind_lem : (stops trips : List (List ℕ)) (o : Option StopTime) (call : StopTime)
    → row_behind stops trips o call ≡ rows_between stops trips (pair_behind o call)
unfolding row_behind rows_between pair_behind
row_behind_lem stops trips none call = refl
row_behind_lem stops trips (some previous) call = refl

-- one row for each pair of neighbouring calls: the first's departure, the second's arrival
pub rows_of_neighbours : (calls : List StopTime) → rows_of calls ≡ rows_between (stops_of calls) (trips_of calls) (neighbours calls)
unfolding rows_of neighbours rows_between stops_of trips_of
rows_of_neighbours [] = refl
rows_of_neighbours (call ∷ back) =
    let stops = with_id (stops_of back) call.stop in
    let trips = with_id (trips_of back) call.trip in
    ap (λ (l : List Row). l ++ row_behind stops trips (last_call call.trip back) call)
    (rows_of_neighbours back
    ∙ rows_kept (stops_of back) (trips_of back) call.stop call.trip (neighbours back) (known_ids back))
    ∙ ap (λ (l : List Row). rows_between stops trips (neighbours back) ++ l) (row_behind_lem stops trips (last_call call.trip back) call)
    ∙ sym (rows_append stops trips (neighbours back) (pair_behind (last_call call.trip back) call))
