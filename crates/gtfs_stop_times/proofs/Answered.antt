-- What reading answers, by what all lines came to, and the notes before the first line. Assumes nothing.
use Prim.Native.Nat.{ℕ, ◌*◌}
use mathlib.Core.List.{List, [], ◌++◌}
use mathlib.Core.Path.{◌≡◌, refl, sym, ap, ◌∙◌}
use native.Mathlib.Omega.{arith}
use lib.ListN.{drop, replicate, length-replicate, take-append-drop}
use Rattle.std.specs.Prelude.{Ok, Err}
use Rattle.timetable.specs.Limits.{most_stops, most_rows, most_trips}
use Rattle.file_layout.specs.Decode.{rows_from}
use Rattle.file_encoding.specs.Encode.{rows_bytes}
use Rattle.file_encoding.proofs.Written.{rows_written}
use Rattle.gtfs_ids.specs.Book.{book_cells}
use Rattle.gtfs_ids.proofs.Held.{holds_none}
use Rattle.gtfs_stop_time.specs.StopTime.{StopTime}
use Rattle.gtfs_stop_times.specs.declared.Counts.{Counts}
use Rattle.gtfs_stop_times.specs.declared.Notes.{Notes}
use Rattle.gtfs_stop_times.specs.declared.Wanted.{Wanted}
use Rattle.gtfs_calls.specs.Calls.{trips_of, stops_of, rows_of}
use Rattle.gtfs_calls.specs.Reading.{Reading, said, wrong}
use Rattle.gtfs_stop_times.specs.Held.{Held}
use Rattle.gtfs_stop_times.specs.Answers.{counts_of, read_answer, out_after}
use Rattle.gtfs_stop_times.specs.Putting.{WantedPut}

-- the notes before the first line
abbrev pub no_notes : Notes
no_notes =
    record {
      trips = replicate (book_cells most_trips) 0;
      stops = replicate (book_cells most_stops) 0;
      last = replicate (3 * most_trips) 0;
      rows = replicate (12 * most_rows) 0;
      counts = record { trips = 0; stops = 0; rows = 0 };
    }

-- they hold no call
pub held_none : (text : List ℕ) → Held text [] no_notes
unfolding trips_of stops_of rows_of rows_bytes
held_none text =
    record {
      room =
          record {
            trip_cells = length-replicate {A = ℕ} (book_cells most_trips) 0;
            stop_cells = length-replicate {A = ℕ} (book_cells most_stops) 0;
            call_cells = length-replicate {A = ℕ} (3 * most_trips) 0;
            rows_length = length-replicate {A = ℕ} (12 * most_rows) 0;
          };
      trip_ids = holds_none text (book_cells most_trips) (omega arith);
      stop_ids = holds_none text (book_cells most_stops) (omega arith);
      trip_count = refl;
      stop_count = refl;
      row_count = refl;
      few_trips = omega arith;
      few_stops = omega arith;
      few_rows = omega arith;
      calls = λ t none. absurd (let z : ⊥ = omega arith in z);
      read = refl;
      small = λ i none. absurd (let z : ⊥ = omega arith in z);
    }

same_counts : {a b c d e f : ℕ} → a ≡ d → b ≡ e → c ≡ f
    → ◌≡◌ {A = Counts} (record { trips = a; stops = b; rows = c }) (record { trips = d; stops = e; rows = f })
same_counts p q r = cc

-- the counts are those of the calls
counted : {text : List ℕ} (back : List StopTime) (notes : Notes) → Held text back notes → notes.counts ≡ counts_of back
counted back notes held = same_counts held.trip_count held.stop_count held.row_count

-- the rows that the notes hold
pub rows_held : {text : List ℕ} (back : List StopTime) (notes : Notes) → Held text back notes → rows_from 12 notes.rows 0 notes.counts.rows ≡ rows_of back
rows_held back notes held =
    ap (rows_from 12 notes.rows 0) held.row_count
    ∙ rows_written (rows_of back) notes.rows 0 (drop (12 * notes.counts.rows) notes.rows) (λ i inside. held.small i (omega (arith, held.row_count)))
    (sym (take-append-drop (12 * notes.counts.rows) notes.rows) ∙ ap (λ l. l ++ drop (12 * notes.counts.rows) notes.rows) held.read)

-- all lines are read, and what is wanted is written
pub wanted_answered : {text : List ℕ} {reading : Reading} {notes : Notes} (wanted : Wanted) (out after : List ℕ) (bytes : ℕ)
    → (back : List StopTime) × (reading ≡ said back) × Held text back notes → WantedPut wanted text notes out after bytes
    → (Ok (record { counts = notes.counts; bytes = bytes }) ≡ read_answer wanted reading) × (after ≡ out_after wanted reading out)
unfolding read_answer out_after
wanted_answered {notes = notes} wanted out after bytes read put =
    let says = put read.0 read.2 in
    let counts = counted read.0 notes read.2 in (
      ap (λ (k : Counts). Ok (record { counts = k; bytes = bytes })) counts ∙ ap (λ n. Ok (record { counts = counts_of read.0; bytes = n })) says.1
          ∙ ap (read_answer wanted) (sym read.1),
      says.0 ∙ ap (λ r. out_after wanted r out) (sym read.1),
    )

-- the first fault
pub fault_answered : {reading : Reading} (wanted : Wanted) (out : List ℕ) (number line column : ℕ) → reading ≡ wrong number line column
    → (Err (record { number = number; line = line; column = column }) ≡ read_answer wanted reading) × (out ≡ out_after wanted reading out)
unfolding read_answer out_after
fault_answered wanted out number line column e = (ap (read_answer wanted) (sym e), ap (λ r. out_after wanted r out) (sym e))
