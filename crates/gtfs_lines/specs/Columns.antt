-- Document 02, E2: the five columns, "in any order", found by their names in the header.
use Rattle.std.specs.Prelude.{ℕ, suc, cond, List, [], ◌∷◌, Option, Some, None}
use Rattle.text.specs.Same.{same_bytes}
use Rattle.gtfs_lines.specs.declared.Columns.{Columns}
use Rattle.gtfs_lines.specs.Lines.{fields_of}

-- the first field that is the name, counted from `column` on
unfoldable pub column_from : (column : ℕ) → (name : List ℕ) → List (List ℕ) → Option ℕ
column_from column name [] = None
column_from column name (field ∷ fields) =
    let further = column_from (suc column) name fields in cond (same_bytes field name) (Some column) further

-- Of a column that stands twice the first counts; the first column is 1
unfoldable pub column_of : List ℕ → List ℕ → Option ℕ
column_of name header = column_from 1 name (fields_of header)

-- trip_id
abbrev pub trip_name : List ℕ
trip_name = 116 ∷ 114 ∷ 105 ∷ 112 ∷ 95 ∷ 105 ∷ 100 ∷ []

-- arrival_time
abbrev pub arrival_name : List ℕ
arrival_name = 97 ∷ 114 ∷ 114 ∷ 105 ∷ 118 ∷ 97 ∷ 108 ∷ 95 ∷ 116 ∷ 105 ∷ 109 ∷ 101 ∷ []

-- departure_time
abbrev pub departure_name : List ℕ
departure_name = 100 ∷ 101 ∷ 112 ∷ 97 ∷ 114 ∷ 116 ∷ 117 ∷ 114 ∷ 101 ∷ 95 ∷ 116 ∷ 105 ∷ 109 ∷ 101 ∷ []

-- stop_id
abbrev pub stop_name : List ℕ
stop_name = 115 ∷ 116 ∷ 111 ∷ 112 ∷ 95 ∷ 105 ∷ 100 ∷ []

-- stop_sequence
abbrev pub sequence_name : List ℕ
sequence_name = 115 ∷ 116 ∷ 111 ∷ 112 ∷ 95 ∷ 115 ∷ 101 ∷ 113 ∷ 117 ∷ 101 ∷ 110 ∷ 99 ∷ 101 ∷ []

unfoldable pub columns_of : List ℕ → Columns
columns_of header =
    record {
      trip = column_of trip_name header;
      arrival = column_of arrival_name header;
      departure = column_of departure_name header;
      stop = column_of stop_name header;
      sequence = column_of sequence_name header;
    }
