-- Notes that hold the calls so far, and a call to be taken: what finding its numbers needs and gives. Assumes nothing.
use Prim.Native.Nat.{ℕ, ◌≤◌, ◌<◌}
use mathlib.Core.List.{List}
use mathlib.Core.Path.{◌≡◌, subst⁻¹, ◌∙◌}
use native.Mathlib.Omega.{arith}
use Rattle.gtfs_ids.specs.Ids.{number_of}
use Rattle.gtfs_ids.specs.Book.{Chained}
use Rattle.gtfs_ids.proofs.Numbering.{number_within}
use Rattle.gtfs_stop_time.specs.declared.Call.{Call}
use Rattle.gtfs_stop_time.specs.StopTime.{StopTime, last_minute, sequence_limit}
use Rattle.gtfs_stop_time.specs.Said.{Says}
use Rattle.gtfs_stop_times.specs.declared.Notes.{Notes}
use Rattle.gtfs_calls.specs.Calls.{trips_of, stops_of}
use Rattle.gtfs_stop_times.specs.Held.{Held, Found}
use Rattle.gtfs_stop_times.proofs.Entered.{number_held}

-- the numbers of a call's trip and stop behind the calls read so far
pub record Numbered (back : List StopTime) (says : StopTime) (trip stop : ℕ) : Type 0 where
  pub trip_number : trip ≡ number_of (trips_of back) says.trip
  pub stop_number : stop ≡ number_of (stops_of back) says.stop

module _ {text : List ℕ} {back : List StopTime} {says : StopTime} {call : Call} {notes : Notes} (held : Held text back notes) (said : Says text call says) where
  -- the numbers that are found are those of the call's trip and stop
  pub numbered : {trip stop : ℕ} → Found call notes trip stop → Numbered back says trip stop
  numbered found =
      record {
        trip_number =
            found.trip_found
            ∙ number_held notes.trips (trips_of back) says.trip call.trip notes.counts.trips held.trip_ids said.trip said.trip_bytes held.trip_count;
        stop_number =
            found.stop_found
            ∙ number_held notes.stops (stops_of back) says.stop call.stop notes.counts.stops held.stop_ids said.stop said.stop_bytes held.stop_count;
      }

  -- they are among those counted, or the next ones
  pub found_within : {trip stop : ℕ} → Found call notes trip stop → (trip ≤ notes.counts.trips) × (stop ≤ notes.counts.stops)
  found_within {trip} {stop} found =
      let own = numbered found in (
        (let z : trip ≤ notes.counts.trips = omega (arith, own.trip_number, number_within (trips_of back) says.trip, held.trip_count) in z),
        (let z : stop ≤ notes.counts.stops = omega (arith, own.stop_number, number_within (stops_of back) says.stop, held.stop_count) in z),
      )

  pub trips_chained : Chained notes.trips notes.counts.trips × (notes.counts.trips < 65536)
  trips_chained =
      (subst⁻¹ (Chained notes.trips) held.trip_count held.trip_ids.chained, (let z : notes.counts.trips < 65536 = omega (arith, held.few_trips) in z))

  pub stops_chained : Chained notes.stops notes.counts.stops × (notes.counts.stops < 65536)
  stops_chained =
      (subst⁻¹ (Chained notes.stops) held.stop_count held.stop_ids.chained, (let z : notes.counts.stops < 65536 = omega (arith, held.few_stops) in z))

  -- its numbers fit cells
  pub call_small : (call.departure ≤ last_minute) × (call.sequence < sequence_limit)
  call_small =
      ((let z : call.departure ≤ 10079 = omega (arith, said.departure, said.departs) in z), (let z : call.sequence < 65536 = omega (arith, said.sequence, said.counts) in z))

  -- a trip that is not among those counted is the next one
  pub first_found : {trip stop : ℕ} → Found call notes trip stop → notes.counts.trips ≤ trip → Found call notes notes.counts.trips stop
  first_found {trip} found past =
      let next : notes.counts.trips ≡ trip = omega (arith, (found_within found).0, past) in
      record { trip_found = next ∙ found.trip_found; stop_found = found.stop_found }
