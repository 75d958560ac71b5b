-- What becomes of a call: its fault behind the calls read so far, or the notes with it. Assumes nothing.
use Prim.Native.Nat.{ℕ, suc, ◌+◌, ◌*◌, ◌≤◌, ◌<◌}
use mathlib.Core.Bool.{Bool, true, false}
use mathlib.Core.List.{List, ◌∷◌}
use mathlib.Core.Path.{◌≡◌, refl, sym, ap, ◌∙◌}
use native.Mathlib.Omega.{arith}
use borrow.Author.Tests.{lt-ltb, le-ltb, le-leb, lt-leb, leb-true}
use lib.Dec.{leb, ltb}
use lib.ListN.{length, get_or}
use Rattle.timetable.specs.Limits.{most_stops, most_rows, most_trips}
use Rattle.timetable.specs.Verdict.{fine, fault, or_else, unless}
use Rattle.gtfs_stop_time.specs.declared.Call.{Call}
use Rattle.gtfs_stop_time.specs.StopTime.{StopTime}
use Rattle.gtfs_stop_time.specs.Said.{Says}
use Rattle.gtfs_stop_times.specs.declared.Notes.{Notes}
use Rattle.gtfs_calls.specs.Calls.{trips_of, stops_of, rows_of}
use Rattle.gtfs_calls.specs.Faults.{next_verdict}
use Rattle.gtfs_stop_times.specs.Held.{Held, count_with, with_call}
use Rattle.gtfs_stop_times.proofs.Ready.{Numbered}
use Rattle.gtfs_stop_times.proofs.Entered.{count_entered}
use Rattle.gtfs_stop_times.proofs.Behind.{row_to, verdict_known, verdict_new}
use Rattle.gtfs_stop_times.proofs.WithCall.{with_row, with_trip, held_known, held_new}

-- the row of a trip's cells, by the numbers that were read from them
pub row_as : (last : List ℕ) (trip stop arrival board departure : ℕ) → board ≡ get_or last (3 * trip) 0 → departure ≡ get_or last (3 * trip + 1) 0
    → record { board = board; land = stop; departure = departure; arrival = arrival; trip = trip; class = 0 } ≡ row_to last trip stop arrival
row_as last trip stop arrival board departure p q = cc

module _ {text : List ℕ} (back : List StopTime) (says : StopTime) (call : Call) (notes : Notes)
    (held : Held text back notes) (said : Says text call says) (trip stop : ℕ) (numbered : Numbered back says trip stop)
  where
    -- whether the stops are too many, by how many there are then
    stops_then : (few : Bool) → leb (count_with notes.counts.stops stop) most_stops ≡ few → leb (length (stops_of (says ∷ back))) most_stops ≡ few
    unfolding stops_of
    stops_then few e =
        ap (λ k. leb k most_stops)
        (sym (count_entered notes.stops (stops_of back) says.stop call.stop call.stopplace notes.counts.stops stop held.stop_count numbered.stop_number))
        ∙ e

    -- a trip that has a call
    module _ (known : trip < notes.counts.trips) where
      verdict : (rises few rows_few : Bool) → ltb (get_or notes.last (3 * trip + 2) 0) says.sequence ≡ rises
          → leb (count_with notes.counts.stops stop) most_stops ≡ few → leb (suc (length (rows_of back))) most_rows ≡ rows_few
          → next_verdict back says ≡ or_else (unless rises 13 0) (or_else (unless few 9 4) (unless rows_few 9 0))
      verdict rises few rows_few a b c =
          verdict_known back says trip stop numbered.trip_number numbered.stop_number notes.last (omega (arith, held.trip_count)) (held.calls trip known)
          rises few rows_few (omega (arith, held.trip_count, held.few_trips)) a (stops_then few b) c

      pub falls : call.sequence ≤ get_or notes.last (3 * trip + 2) 0 → next_verdict back says ≡ fault 13 0
      falls low =
          verdict false (leb (count_with notes.counts.stops stop) most_stops) (leb (suc (length (rows_of back))) most_rows)
          (le-ltb (get_or notes.last (3 * trip + 2) 0) says.sequence (omega (arith, said.sequence))) refl refl

      module _ (rises : get_or notes.last (3 * trip + 2) 0 < call.sequence) where
        rising : ltb (get_or notes.last (3 * trip + 2) 0) says.sequence ≡ true
        rising = lt-ltb (get_or notes.last (3 * trip + 2) 0) says.sequence (omega (arith, said.sequence))

        pub next_stop_too_many : leb (count_with notes.counts.stops stop) most_stops ≡ false → next_verdict back says ≡ fault 9 4
        next_stop_too_many many = verdict true false (leb (suc (length (rows_of back))) most_rows) rising many refl

        module _ (few : leb (count_with notes.counts.stops stop) most_stops ≡ true) where
          stop_room : count_with notes.counts.stops stop ≤ most_stops
          stop_room = leb-true (count_with notes.counts.stops stop) most_stops few

          pub row_too_many : notes.counts.rows ≡ most_rows → next_verdict back says ≡ fault 9 0
          row_too_many full = verdict true true false rising few (lt-leb (suc (length (rows_of back))) most_rows (omega (arith, held.row_count)))

          pub next_kept : (room : notes.counts.rows < most_rows)
              → (next_verdict back says ≡ fine) × Held text (says ∷ back) (with_call (with_row notes call trip stop) call trip stop)
          next_kept room = (
            verdict true true true rising few (le-leb (suc (length (rows_of back))) most_rows (omega (arith, held.row_count))),
            held_known back says call notes held said trip stop numbered.trip_number numbered.stop_number stop_room known room,
          )

    -- a trip that is new
    module _ (new : trip ≡ notes.counts.trips) where
      first_verdict : (trips_few few : Bool) → leb (suc (length (trips_of back))) most_trips ≡ trips_few
          → leb (count_with notes.counts.stops stop) most_stops ≡ few → next_verdict back says ≡ or_else (unless trips_few 9 1) (unless few 9 4)
      first_verdict trips_few few a b =
          verdict_new back says trip stop numbered.trip_number numbered.stop_number (omega (arith, held.trip_count)) trips_few few
          (omega (arith, held.row_count, held.few_rows)) a (stops_then few b)

      pub trip_too_many : notes.counts.trips ≡ most_trips → next_verdict back says ≡ fault 9 1
      trip_too_many full =
          first_verdict false (leb (count_with notes.counts.stops stop) most_stops)
          (lt-leb (suc (length (trips_of back))) most_trips (omega (arith, held.trip_count))) refl

      module _ (room : notes.counts.trips < most_trips) where
        trips_few_lem : leb (suc (length (trips_of back))) most_trips ≡ true
        trips_few_lem = le-leb (suc (length (trips_of back))) most_trips (omega (arith, held.trip_count))

        pub first_stop_too_many : leb (count_with notes.counts.stops stop) most_stops ≡ false → next_verdict back says ≡ fault 9 4
        first_stop_too_many many = first_verdict true false trips_few_lem many

        module _ (few : leb (count_with notes.counts.stops stop) most_stops ≡ true) where
          room_left : count_with notes.counts.stops stop ≤ most_stops
          room_left = leb-true (count_with notes.counts.stops stop) most_stops few

          pub first_kept : (next_verdict back says ≡ fine) × Held text (says ∷ back) (with_call (with_trip notes call) call trip stop)
          first_kept = (
            first_verdict true true trips_few_lem few,
            held_new back says call notes held said trip stop numbered.trip_number numbered.stop_number room_left new room,
          )
