-- Document 02, E2: what a line says: a call of a trip at a stop, with its minutes and its place in the trip.
use Rattle.std.specs.Prelude.{ℕ, ◌+◌, ◌*◌, ◌-◌, Bool, ◌&&◌, List, leb, ltb, length}
use Rattle.text.specs.Decimal.{value_of}
use Rattle.gtfs_lines.specs.declared.Columns.{Columns}
use Rattle.gtfs_lines.specs.Lines.{field_of}
use Rattle.gtfs_fields.specs.Whole.{is_whole}
use Rattle.gtfs_fields.specs.Time.{is_time, time_minutes}

-- the five fields of a line, as bytes; one that is missing is empty
pub record FieldTexts : Type 0 where
  pub trip : List ℕ
  pub arrival : List ℕ
  pub departure : List ℕ
  pub stop : List ℕ
  pub sequence : List ℕ

unfoldable pub texts_on : Columns → (line : List ℕ) → FieldTexts
texts_on columns line =
    record {
      trip = field_of line columns.trip;
      arrival = field_of line columns.arrival;
      departure = field_of line columns.departure;
      stop = field_of line columns.stop;
      sequence = field_of line columns.sequence;
    }

-- a call: ids as bytes, minutes from local midnight opening day 1
pub record StopTime : Type 0 where
  pub trip : List ℕ
  pub stop : List ℕ
  pub arrival : ℕ
  pub departure : ℕ
  pub sequence : ℕ

-- Every day has 1,440 minutes; 25:10:00 on day 1 is minute 1,510
abbrev pub minutes_a_day : ℕ
minutes_a_day = 1440

abbrev pub day_start : (day : ℕ) → ℕ
day_start day = minutes_a_day * (day - 1)

-- minutes go to 10,079
abbrev pub last_minute : ℕ
last_minute = 10079

-- a stop_sequence is below 65,536
abbrev pub sequence_limit : ℕ
sequence_limit = 65536

-- the call of fields without a fault, on a service day that starts at minute `start`
unfoldable pub stop_time_of : (start : ℕ) → FieldTexts → StopTime
stop_time_of start texts =
    record {
      trip = texts.trip;
      stop = texts.stop;
      arrival = start + time_minutes texts.arrival;
      departure = start + time_minutes texts.departure;
      sequence = value_of texts.sequence;
    }

-- there, and not empty
unfoldable pub is_filled : List ℕ → Bool
is_filled field = ltb 0 (length field)

-- well formed, seconds 00, of a minute not above 10,079
unfoldable pub time_rule : (start : ℕ) → List ℕ → Bool
time_rule start field = is_time field && leb (start + time_minutes field) last_minute

-- a whole number below 65,536
unfoldable pub sequence_rule : List ℕ → Bool
sequence_rule field = is_whole field && ltb (value_of field) sequence_limit
