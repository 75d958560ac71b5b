-- What a call comes behind: the verdict on it, and the row that it ends, by the cells of its trip. Assumes nothing.
use Prim.Native.Nat.{ℕ, suc, ◌+◌, ◌*◌, ◌≤◌, ◌<◌}
use mathlib.Core.Bool.{Bool, true, false}
use mathlib.Core.List.{List, [], ◌∷◌, ◌++◌, append-nil}
use mathlib.Core.Option.{none, some}
use mathlib.Core.Path.{◌≡◌, refl, sym, ap, subst, ◌∙◌}
use native.Mathlib.Omega.{arith}
use borrow.Author.Tests.{le-leb}
use lib.Dec.{leb, ltb}
use lib.ListN.{length, get_or, length-append}
use Rattle.timetable.specs.declared.Row.{Row}
use Rattle.timetable.specs.Limits.{most_stops, most_rows, most_trips}
use Rattle.timetable.specs.Verdict.{fine, or_else, unless}
use Rattle.gtfs_ids.specs.Ids.{number_of, with_id}
use Rattle.gtfs_ids.proofs.Numbering.{number_points, number_with, number_kept, with_known, length_new}
use Rattle.gtfs_stop_time.specs.StopTime.{StopTime}
use Rattle.gtfs_calls.specs.Calls.{trips_of, stops_of, last_call, rises_behind, row_between, row_behind, rows_of}
use Rattle.gtfs_calls.specs.Faults.{next_verdict}
use Rattle.gtfs_stop_times.specs.Held.{CallHeld}
use Rattle.gtfs_calls.proofs.LastCalls.{last_none}

-- the verdict by what its four rules come to
verdict_by : (back : List StopTime) (says : StopTime) (rises trips stops rows : Bool)
    → rises_behind (last_call says.trip back) says ≡ rises → leb (length (trips_of (says ∷ back))) most_trips ≡ trips
    → leb (length (stops_of (says ∷ back))) most_stops ≡ stops → leb (length (rows_of (says ∷ back))) most_rows ≡ rows
    → next_verdict back says ≡ or_else (unless rises 13 0) (or_else (unless trips 9 1) (or_else (unless stops 9 4) (unless rows 9 0)))
unfolding next_verdict
verdict_by back says rises trips stops rows a b c d = cc

-- the row from a trip's cells to a call
abbrev pub row_to : (last : List ℕ) (trip stop arrival : ℕ) → Row
row_to last trip stop arrival =
    record {
      board = get_or last (3 * trip) 0;
      land = stop;
      departure = get_or last (3 * trip + 1) 0;
      arrival = arrival;
      trip = trip;
      class = 0;
    }

module _ (back : List StopTime) (says : StopTime) (trip stop : ℕ)
    (own_trip : trip ≡ number_of (trips_of back) says.trip) (own_stop : stop ≡ number_of (stops_of back) says.stop) where
  -- a trip that has a call
  module _ (last : List ℕ) (known : trip < length (trips_of back))
      (held : (call : StopTime) × (last_call (get_or (trips_of back) trip []) back ≡ some call) × CallHeld last (stops_of back) trip call) where
    previous : StopTime
    previous = held.0

    pub same_trips : trips_of (says ∷ back) ≡ trips_of back
    unfolding trips_of
    same_trips = with_known (trips_of back) says.trip (subst (λ k. k < length (trips_of back)) own_trip known)

    previous_call : last_call says.trip back ≡ some previous
    unfolding previous
    previous_call =
        ap (λ id. last_call id back)
        (sym (number_points (trips_of back) says.trip (subst (λ k. k < length (trips_of back)) own_trip known))
        ∙ ap (λ k. get_or (trips_of back) k []) (sym own_trip))
        ∙ held.1

    pub rises_by_cells : rises_behind (last_call says.trip back) says ≡ ltb (get_or last (3 * trip + 2) 0) says.sequence
    unfolding rises_behind previous
    rises_by_cells = ap (λ o. rises_behind o says) previous_call ∙ ap (λ k. ltb k says.sequence) (sym held.2.sequence)

    row_by_cells : row_between (stops_of (says ∷ back)) (trips_of (says ∷ back)) previous says ≡ row_to last trip stop says.arrival
    unfolding row_between previous stops_of
    row_by_cells =
        let stops = stops_of back in
        let board : number_of (with_id stops says.stop) held.0.stop ≡ get_or last (3 * trip) 0 =
        number_kept stops says.stop held.0.stop held.2.stop_known ∙ sym held.2.stop
        in
        let land : number_of (with_id stops says.stop) says.stop ≡ stop = number_with stops says.stop ∙ sym own_stop in
        let departs : held.0.departure ≡ get_or last (3 * trip + 1) 0 = sym held.2.departure in
        let number : number_of (trips_of (says ∷ back)) says.trip ≡ trip = ap (λ ids. number_of ids says.trip) same_trips ∙ sym own_trip in
        cc

    pub row_more : rows_of (says ∷ back) ≡ rows_of back ++ (row_to last trip stop says.arrival ∷ [])
    unfolding rows_of row_behind previous
    row_more =
        ap (λ o. rows_of back ++ row_behind (stops_of (says ∷ back)) (trips_of (says ∷ back)) o says) previous_call
        ∙ ap (λ (r : Row). rows_of back ++ (r ∷ [])) row_by_cells

    pub verdict_known : (rises stops rows : Bool) → length (trips_of back) ≤ most_trips
        → ltb (get_or last (3 * trip + 2) 0) says.sequence ≡ rises → leb (length (stops_of (says ∷ back))) most_stops ≡ stops
        → leb (suc (length (rows_of back))) most_rows ≡ rows
        → next_verdict back says ≡ or_else (unless rises 13 0) (or_else (unless stops 9 4) (unless rows 9 0))
    verdict_known rises stops rows few a b c =
        let one_more : length (rows_of back ++ (row_to last trip stop says.arrival ∷ [])) ≡ suc (length (rows_of back)) =
        length-append (rows_of back) (row_to last trip stop says.arrival ∷ []) ∙ omega arith
        in
        verdict_by back says rises true stops rows (rises_by_cells ∙ a)
        (ap (λ ids. leb (length ids) most_trips) same_trips ∙ le-leb (length (trips_of back)) most_trips few) b
        (ap (λ (l : List Row). leb (length l) most_rows) row_more
        ∙ ap (λ k. leb k most_rows) one_more ∙ c)

  -- a trip that is new
  module _ (new : trip ≡ length (trips_of back)) where
    no_call : last_call says.trip back ≡ none
    no_call = last_none says.trip back (sym own_trip ∙ new)

    pub rows_same : rows_of (says ∷ back) ≡ rows_of back
    unfolding rows_of row_behind
    rows_same =
        ap (λ o. rows_of back ++ row_behind (stops_of (says ∷ back)) (trips_of (says ∷ back)) o says) no_call ∙ append-nil (rows_of back)

    pub verdict_new : (trips stops : Bool) → length (rows_of back) ≤ most_rows → leb (suc (length (trips_of back))) most_trips ≡ trips
        → leb (length (stops_of (says ∷ back))) most_stops ≡ stops
        → next_verdict back says ≡ or_else (unless trips 9 1) (unless stops 9 4)
    unfolding rises_behind trips_of
    verdict_new trips stops few a b =
        verdict_by back says true trips stops true (ap (λ o. rises_behind o says) no_call)
        (ap (λ k. leb k most_trips) (length_new (trips_of back) says.trip (sym own_trip ∙ new)) ∙ a) b
        (ap (λ (l : List Row). leb (length l) most_rows) rows_same ∙ le-leb (length (rows_of back)) most_rows few)
        ∙ ends trips stops
      where
        ends : (trips stops : Bool) → or_else (unless trips 9 1) (or_else (unless stops 9 4) fine) ≡ or_else (unless trips 9 1) (unless stops 9 4)
        ends true true = refl
        ends true false = refl
        ends false stops = refl
