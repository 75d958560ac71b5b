-- The columns of a header, found one field at a time: the form that the code computes.
use Rattle.std.specs.Prelude.{ℕ, cond, List, Option, Some, None}
use Rattle.std.specs.Option.{is_none}
use Rattle.text.specs.Same.{same_bytes}
use Rattle.gtfs_lines.specs.declared.Columns.{Columns}
use Rattle.gtfs_lines.specs.Columns.{trip_name, arrival_name, departure_name, stop_name, sequence_name}

-- this column, if the field is the name and none before it was
unfoldable pub found : (field name : List ℕ) → (column : ℕ) → (before : Option ℕ) → Option ℕ
found field name column before = cond (is_none before) (cond (same_bytes field name) (Some column) None) before

unfoldable pub with_name : (field : List ℕ) → (column : ℕ) → Columns → Columns
with_name field column columns =
    record {
      trip = found field trip_name column columns.trip;
      arrival = found field arrival_name column columns.arrival;
      departure = found field departure_name column columns.departure;
      stop = found field stop_name column columns.stop;
      sequence = found field sequence_name column columns.sequence;
    }
