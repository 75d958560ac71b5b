-- Document 02, E2: what a line's fields break by themselves: 11, 12, 13, in this order. Beside the number stands the column that the
-- fault is in: 1 trip_id, 2 arrival_time, 3 departure_time, 4 stop_id, 5 stop_sequence, or 0 for the line as a whole.
use Rattle.std.specs.Prelude.{ℕ, ◌≡◌, leb}
use Rattle.timetable.specs.Verdict.{Verdict, fine, fault, or_else, unless}
use Rattle.gtfs_ids.specs.Ids.{id_rule}
use Rattle.gtfs_stop_time.specs.StopTime.{FieldTexts, stop_time_of, is_filled, time_rule, sequence_rule}

-- 11: missing or empty field, or an id too long
unfoldable pub filled_verdict : FieldTexts → Verdict
filled_verdict texts =
    or_else (unless (id_rule texts.trip) 11 1)
    (or_else (unless (is_filled texts.arrival) 11 2)
    (or_else (unless (is_filled texts.departure) 11 3)
    (or_else (unless (id_rule texts.stop) 11 4) (unless (is_filled texts.sequence) 11 5))))

-- 12: time not well formed, seconds not 00, minute above 10,079, or a call's departure before its arrival
unfoldable pub times_verdict : (start : ℕ) → FieldTexts → Verdict
times_verdict start texts =
    or_else (unless (time_rule start texts.arrival) 12 2)
    (or_else (unless (time_rule start texts.departure) 12 3)
    (unless (leb (stop_time_of start texts).arrival (stop_time_of start texts).departure) 12 0))

-- what a line's fields break by themselves; 13 for a stop_sequence that is not a whole number below 65,536
unfoldable pub own_verdict : (start : ℕ) → FieldTexts → Verdict
own_verdict start texts =
    or_else (filled_verdict texts) (or_else (times_verdict start texts) (unless (sequence_rule texts.sequence) 13 5))

-- the fault of a line's fields, by its number
pub data OwnFault (start : ℕ) (texts : FieldTexts) (number column : ℕ) : Type 0 where
  unfilled : number ≡ 11 → filled_verdict texts ≡ fault number column → OwnFault start texts number column
  untimed : number ≡ 12 → filled_verdict texts ≡ fine → times_verdict start texts ≡ fault number column → OwnFault start texts number column
  unplaced : number ≡ 13 → filled_verdict texts ≡ fine → times_verdict start texts ≡ fine → OwnFault start texts number column
