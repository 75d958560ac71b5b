-- What a call, or a fault, tells of the line that says it. Assumes nothing.
use Prim.Native.Nat.{ℕ}
use mathlib.Core.List.{List}
use mathlib.Core.Path.{◌≡◌, refl, ap}
use native.Mathlib.Omega.{arith}
use lib.ListN.{length}
use Rattle.numbers.specs.Bytes.{Bytes}
use Rattle.timetable.specs.Verdict.{Verdict, fine, fault, by_verdict}
use Rattle.gtfs_lines.specs.declared.Fields.{Fields}
use Rattle.gtfs_stop_time.specs.declared.Call.{Call}
use Rattle.std.specs.Prelude.{Result, Ok, Err}
use Rattle.gtfs_stop_time.specs.declared.FieldFault.{FieldFault}
use Rattle.gtfs_stop_time.specs.StopTime.{stop_time_of}
use Rattle.gtfs_stop_time.specs.Faults.{own_verdict}
use Rattle.gtfs_stop_time.specs.Said.{wrong, AllInside, Says, texts_at, call_of, said_of}
use Rattle.gtfs_stop_time.proofs.Spans.{bytes_there, lies_there}
use Rattle.gtfs_stop_time.proofs.Numbers.{time_in_week, sequence_small}
use Rattle.gtfs_stop_time.proofs.Times.{times_hold}
use Rattle.gtfs_stop_time.proofs.FaultOrder.{filled_ids, own_fine}

-- an answer's verdict
call_fine : (v : Verdict) (answer call : Call) → by_verdict wrong (Ok answer) v ≡ Ok call → (v ≡ fine) × (answer ≡ call)
call_fine fine answer call e = (refl, (cc))
call_fine (fault number column) answer call e = absurd (let z : ◌≡◌ {A = ℕ} 0 1 = cc in omega arith)

same_fault : {one other : FieldFault} → ◌≡◌ {A = Result Call FieldFault} (Err one) (Err other) → one ≡ other
same_fault e = cc

wrong_fault : (v : Verdict) (answer : Call) {number column : ℕ} → by_verdict wrong (Ok answer) v ≡ wrong number column
    → v ≡ fault number column
wrong_fault fine answer e = absurd (let z : ◌≡◌ {A = ℕ} 0 1 = cc in omega arith)
wrong_fault (fault number column) answer e =
    let same = same_fault e in ap (λ f. fault f.number f.column) same

module _ (start : ℕ) (text : List ℕ) (fields : Fields) where
  pub said_wrong : {number column : ℕ} → said_of start text fields ≡ wrong number column
      → own_verdict start (texts_at text fields) ≡ fault number column
  unfolding said_of
  said_wrong e = wrong_fault _ (call_of start (texts_at text fields) fields) e

  -- what the fields of a line without a fault say
  fields_say : Bytes text → AllInside (length text) fields → own_verdict start (texts_at text fields) ≡ fine
      → Says text (call_of start (texts_at text fields) fields) (stop_time_of start (texts_at text fields))
  unfolding stop_time_of
  fields_say bytes inside e =
      let texts = texts_at text fields in
      let own = own_fine start texts e in
      let ids = filled_ids texts own.0 in
      let times = times_hold start texts own.1 in
      record {
        trip = refl;
        stop = refl;
        arrival = refl;
        departure = refl;
        sequence = refl;
        trip_id = ids.0;
        stop_id = ids.1;
        trip_lies = lies_there text fields.trip inside.trip;
        stop_lies = lies_there text fields.stop inside.stop;
        trip_bytes = bytes_there text fields.trip inside.trip bytes;
        stop_bytes = bytes_there text fields.stop inside.stop bytes;
        arrives = time_in_week start texts.arrival times.0;
        departs = time_in_week start texts.departure times.1;
        counts = sequence_small texts.sequence own.2;
      }

  pub said_call : {call : Call} → said_of start text fields ≡ Ok call → Bytes text → AllInside (length text) fields
      → (own_verdict start (texts_at text fields) ≡ fine) × Says text call (stop_time_of start (texts_at text fields))
  unfolding said_of
  said_call {call} e bytes inside =
      let told = call_fine (own_verdict start (texts_at text fields)) (call_of start (texts_at text fields) fields) call e in
      (told.0, rw told.1 at (fields_say bytes inside told.0))
