-- What a line says by its verdict, and the call that is made of the numbers that were told. Assumes nothing.
use Prim.Native.Nat.{ℕ, ◌+◌}
use mathlib.Core.List.{List}
use mathlib.Core.Path.{◌≡◌, sym, ap}
use Rattle.timetable.specs.Verdict.{fine, fault, by_verdict}
use Rattle.text.specs.Decimal.{value_of}
use Rattle.gtfs_fields.specs.Time.{time_minutes}
use Rattle.gtfs_lines.specs.declared.Fields.{Fields}
use Rattle.gtfs_ids.specs.declared.Key.{Key}
use Rattle.gtfs_ids.specs.Keys.{key_of}
use Rattle.gtfs_stop_time.specs.declared.Call.{Call}
use Rattle.std.specs.Prelude.{Ok}
use Rattle.gtfs_stop_time.specs.StopTime.{stop_time_of}
use Rattle.gtfs_stop_time.specs.Faults.{own_verdict}
use Rattle.gtfs_stop_time.specs.Said.{wrong, text_at, texts_at, call_of, said_of}

module _ (start : ℕ) (text : List ℕ) (fields : Fields) where
  pub refused_said : {number column : ℕ} → own_verdict start (texts_at text fields) ≡ fault number column
      → wrong number column ≡ said_of start text fields
  unfolding said_of
  refused_said e = sym (ap (by_verdict wrong (Ok (call_of start (texts_at text fields) fields))) e)

  pub fine_said : own_verdict start (texts_at text fields) ≡ fine
      → Ok (call_of start (texts_at text fields) fields) ≡ said_of start text fields
  unfolding said_of
  fine_said e = sym (ap (by_verdict wrong (Ok (call_of start (texts_at text fields) fields))) e)

  pub call_made : {trip stop : Key} {arrival departure sequence : ℕ}
      → trip ≡ key_of (text_at text fields.trip) → stop ≡ key_of (text_at text fields.stop)
      → arrival ≡ time_minutes (text_at text fields.arrival) → departure ≡ time_minutes (text_at text fields.departure)
      → sequence ≡ value_of (text_at text fields.sequence)
      → ◌≡◌ {A = Call}
      record {
        trip = trip;
        tripplace = fields.trip.from;
        stop = stop;
        stopplace = fields.stop.from;
        arrival = start + arrival;
        departure = start + departure;
        sequence = sequence;
      }
      (call_of start (texts_at text fields) fields)
  unfolding stop_time_of
  call_made trip_is stop_is arrival_is departure_is sequence_is = cc
