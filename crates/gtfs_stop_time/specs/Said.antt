-- What a line's fields say, by where they lie in the text, and the call that they make.
use Rattle.std.specs.Prelude.{ℕ, ◌-◌, ◌≤◌, ◌<◌, Bool, true, cond, ◌&&◌, List, Option, Some, None, Result, Ok, Err, ◌≡◌, leb, ltb}
use Rattle.std.proofs.Math.Seq.{slice}
use Rattle.numbers.specs.Bytes.{Bytes}
use Rattle.timetable.specs.Verdict.{Verdict, fine, fault, by_verdict}
use Rattle.gtfs_lines.specs.declared.Span.{Span}
use Rattle.gtfs_lines.specs.declared.Fields.{Fields}
use Rattle.gtfs_ids.specs.Ids.{id_rule, longest_id}
use Rattle.gtfs_ids.specs.Keys.{key_of}
use Rattle.gtfs_ids.specs.Book.{LiesAt}
use Rattle.gtfs_stop_time.specs.declared.Call.{Call}
use Rattle.gtfs_stop_time.specs.declared.FieldFault.{FieldFault}
use Rattle.gtfs_stop_time.specs.StopTime.{FieldTexts, StopTime, stop_time_of, last_minute, sequence_limit}
use Rattle.gtfs_stop_time.specs.Faults.{own_verdict}

-- a field's bytes
abbrev pub text_at : List ℕ → Span → List ℕ
text_at text span = slice span.from span.to text

abbrev pub texts_at : List ℕ → Fields → FieldTexts
texts_at text fields =
    record {
      trip = text_at text fields.trip;
      arrival = text_at text fields.arrival;
      departure = text_at text fields.departure;
      stop = text_at text fields.stop;
      sequence = text_at text fields.sequence;
    }

-- a field lies within a text of so many bytes
pub record Inside (bytes : ℕ) (span : Span) : Type 0 where
  pub rises : span.from ≤ span.to
  pub ends : span.to ≤ bytes

pub record AllInside (bytes : ℕ) (fields : Fields) : Type 0 where
  pub trip : Inside bytes fields.trip
  pub arrival : Inside bytes fields.arrival
  pub departure : Inside bytes fields.departure
  pub stop : Inside bytes fields.stop
  pub sequence : Inside bytes fields.sequence

-- an id lies there, or anything
abbrev pub span_id : Span → Bool
span_id span = leb 1 (span.to - span.from) && leb (span.to - span.from) longest_id

abbrev pub span_filled : Span → Bool
span_filled span = ltb 0 (span.to - span.from)

-- the first column whose field is missing, empty, or an id too long
unfoldable pub unfilled_column : Fields → Option ℕ
unfilled_column fields =
    cond (span_id fields.trip) (cond (span_filled fields.arrival) (cond (span_filled fields.departure)
    (cond (span_id fields.stop) (cond (span_filled fields.sequence) None (Some 5)) (Some 4)) (Some 3)) (Some 2)) (Some 1)

-- the fault that is in a column, if one is
abbrev pub in_column : (number : ℕ) → (column : Option ℕ) → Verdict
in_column number None = fine
in_column number (Some column) = fault number column

-- a line that is refused for a fault in its fields
abbrev pub wrong : (number column : ℕ) → Result Call FieldFault
wrong number column = Err (record { number = number; column = column })

-- the call of fields without a fault
abbrev pub call_of : (start : ℕ) → FieldTexts → Fields → Call
call_of start texts fields =
    let says = stop_time_of start texts in
    record {
      trip = key_of texts.trip;
      tripplace = fields.trip.from;
      stop = key_of texts.stop;
      stopplace = fields.stop.from;
      arrival = says.arrival;
      departure = says.departure;
      sequence = says.sequence;
    }

unfoldable pub said_of : (start : ℕ) → List ℕ → Fields → Result Call FieldFault
said_of start text fields =
    by_verdict wrong (Ok (call_of start (texts_at text fields) fields)) (own_verdict start (texts_at text fields))

-- a call of the text without a fault of its own, and what it says
pub record Says (text : List ℕ) (call : Call) (says : StopTime) : Type 0 where
  pub trip : call.trip ≡ key_of says.trip
  pub stop : call.stop ≡ key_of says.stop
  pub arrival : call.arrival ≡ says.arrival
  pub departure : call.departure ≡ says.departure
  pub sequence : call.sequence ≡ says.sequence
  pub trip_id : id_rule says.trip ≡ true
  pub stop_id : id_rule says.stop ≡ true
  pub trip_lies : LiesAt text call.tripplace says.trip
  pub stop_lies : LiesAt text call.stopplace says.stop
  pub trip_bytes : Bytes says.trip
  pub stop_bytes : Bytes says.stop
  pub arrives : says.arrival ≤ last_minute
  pub departs : says.departure ≤ last_minute
  pub counts : says.sequence < sequence_limit
