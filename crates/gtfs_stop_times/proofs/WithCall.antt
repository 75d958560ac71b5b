-- The notes with one call more: a trip that has a call, and a trip that is new. Assumes nothing.
use Prim.Native.Nat.{ℕ, ◌+◌, ◌*◌, ◌≤◌, ◌<◌}
use mathlib.Core.List.{List, [], ◌∷◌, ◌++◌}
use mathlib.Core.Option.{some}
use mathlib.Core.Path.{◌≡◌, sym, ap, subst, ◌∙◌}
use native.Mathlib.Omega.{arith}
use lib.ListN.{length, get_or, length-append}
use lib.Seq.{sets, length-sets}
use Rattle.timetable.specs.declared.Row.{Row}
use Rattle.timetable.specs.Timetable.{row_of}
use Rattle.timetable.specs.Limits.{most_stops, most_rows, most_trips}
use Rattle.file_layout.specs.Small.{SmallRow}
use Rattle.file_encoding.specs.Encode.{row_bytes, rows_bytes}
use Rattle.gtfs_ids.specs.Ids.{number_of, with_id}
use Rattle.gtfs_ids.specs.Book.{HoldsIds, book_with, cell_of}
use Rattle.gtfs_ids.proofs.Numbering.{number_within, length_new}
use Rattle.gtfs_ids.proofs.Stores.{length_book}
use Rattle.gtfs_stop_time.specs.declared.Call.{Call}
use Rattle.gtfs_stop_time.specs.StopTime.{StopTime}
use Rattle.gtfs_stop_time.specs.Said.{Says}
use Rattle.gtfs_stop_times.specs.declared.Notes.{Notes}
use Rattle.gtfs_calls.specs.Calls.{trips_of, stops_of, last_call, rows_of}
use Rattle.gtfs_stop_times.specs.Held.{Held, CallHeld, entered, count_with, with_call}
use Rattle.gtfs_stop_times.proofs.Entered.{count_entered, holds_entered, holds_entry, entered_length, short_id}
use Rattle.gtfs_stop_times.proofs.KeptCalls.{call_written, written_length, calls_held}
use Rattle.gtfs_stop_times.proofs.RowsRead.{read_more, small_more}
use Rattle.gtfs_stop_times.proofs.Behind.{row_to, same_trips, row_more, rows_same}

-- the notes with the row that ends at a call
abbrev pub with_row : Notes → Call → (trip stop : ℕ) → Notes
with_row notes call trip stop =
    record notes {
      rows = sets notes.rows (12 * notes.counts.rows) (row_bytes (row_to notes.last trip stop call.arrival));
      counts = record notes.counts { rows = notes.counts.rows + 1 };
    }

-- the notes with a call's trip
abbrev pub with_trip : Notes → Call → Notes
with_trip notes call =
    record notes {
      trips = book_with notes.trips notes.counts.trips call.trip call.tripplace;
      counts = record notes.counts { trips = notes.counts.trips + 1 };
    }

module _ {text : List ℕ} (back : List StopTime) (says : StopTime) (call : Call) (notes : Notes)
    (held : Held text back notes) (said : Says text call says) (trip stop : ℕ)
    (own_trip : trip ≡ number_of (trips_of back) says.trip) (own_stop : stop ≡ number_of (stops_of back) says.stop)
    (stop_room : count_with notes.counts.stops stop ≤ most_stops)
  where
    -- the stop
    abbrev stops_after : List ℕ
    stops_after = entered notes.stops notes.counts.stops stop call.stop call.stopplace

    stop_counted : count_with notes.counts.stops stop ≡ length (stops_of (says ∷ back))
    unfolding stops_of
    stop_counted =
        count_entered notes.stops (stops_of back) says.stop call.stop call.stopplace notes.counts.stops stop held.stop_count own_stop

    stops_held : HoldsIds text stops_after (stops_of (says ∷ back))
    unfolding stops_of
    stops_held =
        holds_entered notes.stops (stops_of back) says.stop call.stop call.stopplace notes.counts.stops stop held.stop_count own_stop
        held.stop_ids said.stop said.stop_bytes (short_id says.stop said.stop_id) said.stop_lies
        (let z : cell_of (count_with notes.counts.stops stop) ≤ length notes.stops = omega (arith, held.room.stop_cells) in z)

    -- the trip's cells
    abbrev last_after : List ℕ
    last_after = call_written notes.last trip stop call.departure call.sequence

    last_as_said : call_written notes.last trip stop says.departure says.sequence ≡ last_after
    last_as_said = cc (said.departure, said.sequence)

    calls_after : trip < most_trips → (t : ℕ) → t < length (trips_of (says ∷ back))
        → (c : StopTime) × (last_call (get_or (trips_of (says ∷ back)) t []) (says ∷ back) ≡ some c) × CallHeld last_after (stops_of (says ∷ back)) t c
    calls_after room t inside =
        subst (λ l. (c : StopTime) × (last_call (get_or (trips_of (says ∷ back)) t []) (says ∷ back) ≡ some c) × CallHeld l (stops_of (says ∷ back)) t c)
        last_as_said
        (calls_held back says notes.last trip stop own_trip own_stop (omega (arith, held.room.call_cells)) said.departs
        (λ k known. held.calls k (omega (arith, held.trip_count))) t inside)

    -- a trip that has a call
    module _ (known : trip < notes.counts.trips) (row_room : notes.counts.rows < most_rows) where
      trip_known : trip < length (trips_of back)
      trip_known = omega (arith, held.trip_count)

      abbrev row : Row
      row = row_to notes.last trip stop call.arrival

      row_small : SmallRow row
      row_small =
          let own = held.calls trip known in
          record {
            board = omega (arith, own.2.stop, own.2.stop_known, held.stop_count, held.few_stops);
            land = omega (arith, own_stop, number_within (stops_of back) says.stop, held.stop_count, held.few_stops);
            departure = omega (arith, own.2.departure, own.2.minute);
            arrival = omega (arith, said.arrives, said.arrival);
            trip = omega (arith, held.few_trips);
            class = omega arith;
          }

      rows_after : rows_of (says ∷ back) ≡ rows_of back ++ (row ∷ [])
      rows_after =
          row_more back says trip stop own_trip own_stop notes.last trip_known (held.calls trip known)
          ∙ ap (λ k. rows_of back ++ (row_to notes.last trip stop k ∷ [])) (sym said.arrival)

      trips_after : trips_of (says ∷ back) ≡ trips_of back
      trips_after = same_trips back says trip stop own_trip own_stop notes.last trip_known (held.calls trip known)

      pub held_known : Held text (says ∷ back) (with_call (with_row notes call trip stop) call trip stop)
      held_known =
          record {
            room =
                record {
                  trip_cells = held.room.trip_cells;
                  stop_cells =
                      entered_length notes.stops (stops_of back) says.stop call.stop call.stopplace notes.counts.stops stop held.stop_count own_stop
                      ∙ held.room.stop_cells;
                  call_cells = written_length notes.last trip stop call.departure call.sequence ∙ held.room.call_cells;
                  rows_length = length-sets notes.rows (12 * notes.counts.rows) (row_bytes row) ∙ held.room.rows_length;
                };
            trip_ids = subst (HoldsIds text notes.trips) (sym trips_after) held.trip_ids;
            stop_ids = stops_held;
            trip_count = held.trip_count ∙ ap (λ (l : List (List ℕ)). length l) (sym trips_after);
            stop_count = stop_counted;
            row_count = omega (arith, held.row_count, ap (λ (l : List Row). length l) rows_after, length-append (rows_of back) (row ∷ []));
            few_trips = held.few_trips;
            few_stops = stop_room;
            few_rows = omega arith;
            calls = λ t inside. calls_after (omega (arith, held.few_trips)) t
                (let z : t < length (trips_of (says ∷ back)) = omega (arith, held.trip_count, ap (λ (l : List (List ℕ)). length l) trips_after) in z);
            read =
                read_more notes.rows (rows_of back) row notes.counts.rows held.row_count (omega (arith, held.room.rows_length)) held.read
                ∙ ap rows_bytes (sym rows_after);
            small = λ i inside.
                subst (λ (l : List Row). SmallRow (row_of l i)) (sym rows_after)
                (small_more (rows_of back) row (λ k less. held.small k (omega (arith, held.row_count))) row_small i
                (let z : i < length (rows_of back ++ (row ∷ [])) = omega (arith, held.row_count, length-append (rows_of back) (row ∷ [])) in z));
          }

    -- a trip that is new
    module _ (new : trip ≡ notes.counts.trips) (trip_room : notes.counts.trips < most_trips) where
      trip_new : number_of (trips_of back) says.trip ≡ length (trips_of back)
      trip_new = omega (arith, held.trip_count)

      rows_kept : rows_of (says ∷ back) ≡ rows_of back
      rows_kept = rows_same back says trip stop own_trip own_stop (omega (arith, held.trip_count))

      trips_more : length (trips_of (says ∷ back)) ≡ notes.counts.trips + 1
      unfolding trips_of
      trips_more = length_new (trips_of back) says.trip trip_new ∙ omega (arith, held.trip_count)

      trips_held : HoldsIds text (book_with notes.trips notes.counts.trips call.trip call.tripplace) (trips_of (says ∷ back))
      unfolding trips_of
      trips_held =
          subst (λ k. HoldsIds text (book_with notes.trips k call.trip call.tripplace) (with_id (trips_of back) says.trip)) (sym held.trip_count)
          (holds_entry notes.trips (trips_of back) says.trip call.trip call.tripplace held.trip_ids said.trip said.trip_bytes
          (short_id says.trip said.trip_id) said.trip_lies trip_new (omega (arith, held.room.trip_cells, held.trip_count)))

      pub held_new : Held text (says ∷ back) (with_call (with_trip notes call) call trip stop)
      held_new =
          record {
            room =
                record {
                  trip_cells = length_book notes.trips notes.counts.trips call.trip call.tripplace ∙ held.room.trip_cells;
                  stop_cells =
                      entered_length notes.stops (stops_of back) says.stop call.stop call.stopplace notes.counts.stops stop held.stop_count own_stop
                      ∙ held.room.stop_cells;
                  call_cells = written_length notes.last trip stop call.departure call.sequence ∙ held.room.call_cells;
                  rows_length = held.room.rows_length;
                };
            trip_ids = trips_held;
            stop_ids = stops_held;
            trip_count = sym trips_more;
            stop_count = stop_counted;
            row_count = held.row_count ∙ ap (λ (l : List Row). length l) (sym rows_kept);
            few_trips = omega arith;
            few_stops = stop_room;
            few_rows = held.few_rows;
            calls = λ t inside. calls_after (omega arith) t (let z : t < length (trips_of (says ∷ back)) = omega (arith, trips_more) in z);
            read = held.read ∙ ap rows_bytes (sym rows_kept);
            small = λ i inside. subst (λ (l : List Row). SmallRow (row_of l i)) (sym rows_kept) (held.small i inside);
          }
