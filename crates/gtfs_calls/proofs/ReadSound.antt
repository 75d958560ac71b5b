-- The calls of a text without a fault keep the limits, and their rows' numbers fit two bytes. Assumes nothing.
use Prim.Native.Nat.{ℕ, zero, suc, ◌+◌, ◌-◌, ◌≤◌, ◌<◌}
use mathlib.Core.Bool.{true, cond, not}
use mathlib.Core.List.{List, [], ◌∷◌, ◌++◌}
use mathlib.Core.Option.{Option, none, some}
use mathlib.Core.Path.{◌≡◌, refl, sym, ap, subst, ◌∙◌}
use native.Mathlib.Omega.{arith}
use lib.Dec.{leb, ltb}
use lib.ListN.{length, get_or, drop, length-append, get_or-append}
use lib.Seq.{get_or-append-add}
use borrow.Author.Tests.{leb-true, ltb-true, ltb-false}
use Rattle.laws.proofs.Tests.{ifb, both_right}
use Rattle.text.specs.Same.{same_bytes}
use Rattle.timetable.specs.declared.Row.{Row}
use Rattle.timetable.specs.Limits.{most_stops, most_rows, most_trips}
use Rattle.timetable.specs.Timetable.{no_row, row_of}
use Rattle.timetable.specs.Verdict.{Verdict, fine, fault, or_else, unless, by_verdict}
use Rattle.timetable.proofs.Verdicts.{first_fine, second_fine, rule_holds}
use Rattle.file_layout.specs.Small.{SmallRow}
use Rattle.gtfs_lines.specs.declared.Columns.{Columns}
use Rattle.gtfs_lines.specs.Columns.{columns_of}
use Rattle.gtfs_lines.specs.Lines.{lines_of, has_quote}
use Rattle.gtfs_fields.specs.Time.{is_time, time_minutes}
use Rattle.gtfs_ids.proofs.Numbering.{number_within}
use Rattle.gtfs_stop_time.specs.StopTime.{FieldTexts, StopTime, texts_on, stop_time_of, time_rule, sequence_rule, last_minute}
use Rattle.gtfs_stop_time.specs.Faults.{filled_verdict, times_verdict, own_verdict}
use Rattle.gtfs_calls.specs.Calls.{trips_of, stops_of, last_call, rises_behind, row_between, row_behind, rows_of}
use Rattle.gtfs_calls.specs.Faults.{next_verdict, line_verdict, header_verdict}
use Rattle.gtfs_calls.specs.Reading.{Reading, said, wrong, read_from, stop_times}
use Rattle.gtfs_calls.specs.Sound.{ReadSound}

-- a time that keeps its rule is at most the last minute
minute_kept : (start : ℕ) (field : List ℕ) → time_rule start field ≡ true → start + time_minutes field ≤ last_minute
unfolding time_rule
minute_kept start field e = leb-true (start + time_minutes field) last_minute (both_right (is_time field) (leb (start + time_minutes field) last_minute) e)

-- the minutes of fields without a fault
module _ (start : ℕ) (texts : FieldTexts) (own : own_verdict start texts ≡ fine) where
  times_fine : times_verdict start texts ≡ fine
  unfolding own_verdict
  times_fine =
      let sequence : Verdict = unless (sequence_rule texts.sequence) 13 5 in
      first_fine (times_verdict start texts) sequence (second_fine (filled_verdict texts) (or_else (times_verdict start texts) sequence) own)

  abbrev behind : Verdict
  behind = or_else (unless (time_rule start texts.departure) 12 3)
      (unless (leb (stop_time_of start texts).arrival (stop_time_of start texts).departure) 12 0)

  arrives : (stop_time_of start texts).arrival ≤ last_minute
  unfolding times_verdict stop_time_of
  arrives =
      minute_kept start texts.arrival (rule_holds _ 12 2 (first_fine (unless (time_rule start texts.arrival) 12 2) behind times_fine))

  departs : (stop_time_of start texts).departure ≤ last_minute
  unfolding times_verdict stop_time_of
  departs =
      let order : Verdict = unless (leb (stop_time_of start texts).arrival (stop_time_of start texts).departure) 12 0 in
      minute_kept start texts.departure
      (rule_holds _ 12 3 (first_fine (unless (time_rule start texts.departure) 12 3) order
      (second_fine (unless (time_rule start texts.arrival) 12 2) behind times_fine)))

-- the limits that a call without a fault keeps
module _ (back : List StopTime) (call : StopTime) (next : next_verdict back call ≡ fine) where
  abbrev of_trips : Verdict
  of_trips = unless (leb (length (trips_of (call ∷ back))) most_trips) 9 1

  abbrev of_stops : Verdict
  of_stops = unless (leb (length (stops_of (call ∷ back))) most_stops) 9 4

  abbrev of_rows : Verdict
  of_rows = unless (leb (length (rows_of (call ∷ back))) most_rows) 9 0

  limits_fine : or_else of_trips (or_else of_stops of_rows) ≡ fine
  unfolding next_verdict
  limits_fine = second_fine (unless (rises_behind (last_call call.trip back) call) 13 0) (or_else of_trips (or_else of_stops of_rows)) next

  trips_few_lem : length (trips_of (call ∷ back)) ≤ most_trips
  trips_few_lem = leb-true _ _ (rule_holds _ 9 1 (first_fine of_trips (or_else of_stops of_rows) limits_fine))

  stops_few : length (stops_of (call ∷ back)) ≤ most_stops
  stops_few =
      leb-true _ _ (rule_holds _ 9 4 (first_fine of_stops of_rows (second_fine of_trips (or_else of_stops of_rows) limits_fine)))

  rows_few : length (rows_of (call ∷ back)) ≤ most_rows
  rows_few =
      leb-true _ _ (rule_holds _ 9 0 (second_fine of_stops of_rows (second_fine of_trips (or_else of_stops of_rows) limits_fine)))

-- what holds of each row of two lists holds of each of both together
each_of_both : (P : Row → Type 0) (rows more : List Row) → ((i : ℕ) → i < length rows → P (row_of rows i))
    → ((i : ℕ) → i < length more → P (row_of more i)) → (i : ℕ) → i < length (rows ++ more) → P (row_of (rows ++ more) i)
each_of_both P rows more each later i inside =
    ifb (λ b. P (row_of (rows ++ more) i)) (ltb i (length rows))
    (λ t. let ahead = ltb-true i (length rows) t in subst P (sym (get_or-append rows more no_row i ahead)) (each i ahead))
    (λ t.
    let behind = ltb-false i (length rows) t in
    let at : length rows + (i - length rows) ≡ i = omega arith in
    subst P (sym (get_or-append-add rows more (i - length rows) no_row) ∙ ap (row_of (rows ++ more)) at)
    (later (i - length rows) (omega (arith, length-append rows more))))

-- departures of calls that were read
abbrev Departs : Option StopTime → Type 0
Departs none = Unit {0}
Departs (some call) = call.departure ≤ last_minute

-- the row that a call ends
small_behind : (stops trips : List (List ℕ)) (last : Option StopTime) (call : StopTime) → length stops ≤ most_stops → length trips ≤ most_trips
    → Departs last → call.arrival ≤ last_minute → (i : ℕ) → i < length (row_behind stops trips last call)
    → SmallRow (row_of (row_behind stops trips last call) i)
unfolding row_behind row_between
small_behind stops trips none call s t before arrival i inside = absurd (let z : ⊥ = omega arith in z)
small_behind stops trips (some previous) call s t before arrival zero inside =
    record {
      board = omega (arith, number_within stops previous.stop);
      land = omega (arith, number_within stops call.stop);
      departure = omega arith;
      arrival = omega arith;
      trip = omega (arith, number_within trips call.trip);
      class = omega arith;
    }
small_behind stops trips (some previous) call s t before arrival (suc i) inside = absurd (let z : ⊥ = omega arith in z)

-- and no call that was read departs later than the last minute
record Kept (back : List StopTime) : Type 0 where
  sound : ReadSound back
  departed : (trip : List ℕ) → Departs (last_call trip back)

none_kept : Kept []
unfolding trips_of stops_of rows_of last_call
none_kept =
    record {
      sound =
          record {
            few_trips = omega arith;
            few_stops = omega arith;
            few_rows = omega arith;
            small = λ i inside. absurd (let z : ⊥ = omega arith in z);
          };
      departed = λ trip. tt;
    }

module _ {back : List StopTime} (call : StopTime) (kept : Kept back) (next : next_verdict back call ≡ fine) where
  small_with : call.arrival ≤ last_minute → (i : ℕ) → i < length (rows_of (call ∷ back)) → SmallRow (row_of (rows_of (call ∷ back)) i)
  unfolding rows_of
  small_with arrival =
      let stops = stops_of (call ∷ back) in
      let trips = trips_of (call ∷ back) in
      let last = last_call call.trip back in
      each_of_both SmallRow (rows_of back) (row_behind stops trips last call) kept.sound.small
      (small_behind stops trips last call (stops_few back call next) (trips_few_lem back call next) (kept.departed call.trip) arrival)

  departed_with : call.departure ≤ last_minute → (trip : List ℕ) → Departs (last_call trip (call ∷ back))
  unfolding last_call
  departed_with departure trip =
      ifb (λ b. Departs (cond b (some call) (last_call trip back))) (same_bytes call.trip trip) (λ same. departure) (λ other. kept.departed trip)

  kept_with : call.arrival ≤ last_minute → call.departure ≤ last_minute → Kept (call ∷ back)
  kept_with arrival departure =
      record {
        sound =
            record {
              few_trips = trips_few_lem back call next;
              few_stops = stops_few back call next;
              few_rows = rows_few back call next;
              small = small_with arrival;
            };
        departed = departed_with departure;
      }

-- one line more
line_kept : (columns : Columns) (start : ℕ) (back : List StopTime) (line : List ℕ) → line_verdict columns start back line ≡ fine → Kept back
    → Kept (stop_time_of start (texts_on columns line) ∷ back)
unfolding line_verdict
line_kept columns start back line e kept =
    let texts = texts_on columns line in
    let call = stop_time_of start texts in
    let own = own_verdict start texts in
    let next = next_verdict back call in
    let both = second_fine (unless (not (has_quote line)) 11 0) (or_else own next) e in
    let own_fine = first_fine own next both in
    kept_with call kept (second_fine own next both) (arrives start texts own_fine) (departs start texts own_fine)

-- a verdict behind which something was said is fine
said_fine : (line : ℕ) (on : Reading) (v : Verdict) (calls : List StopTime)
    → by_verdict (λ number column. wrong number line column) on v ≡ said calls → (v ≡ fine) × (on ≡ said calls)
said_fine line on fine calls e = (refl, e)
said_fine line on (fault number column) calls e = absurd (let z : ◌≡◌ {A = ℕ} 0 1 = cc in let y : ⊥ = omega arith in y)

lines_kept : (columns : Columns) (start : ℕ) (back : List StopTime) (number : ℕ) (lines : List (List ℕ)) (calls : List StopTime)
    → read_from columns start back number lines ≡ said calls → Kept back → Kept calls
unfolding read_from
lines_kept columns start back number [] calls e kept = let same : back ≡ calls = cc in subst Kept same kept
lines_kept columns start back number (line ∷ lines) calls e kept =
    let on = read_from columns start (stop_time_of start (texts_on columns line) ∷ back) (suc number) lines in
    let told = said_fine number on (line_verdict columns start back line) calls e in
    lines_kept columns start (stop_time_of start (texts_on columns line) ∷ back) (suc number) lines calls told.1
    (line_kept columns start back line told.0 kept)

pub read_sound : (start : ℕ) (text : List ℕ) (calls : List StopTime) → stop_times start text ≡ said calls → ReadSound calls
unfolding stop_times
read_sound start text calls e =
    let header : List ℕ = get_or (lines_of text) 0 [] in
    let on = read_from (columns_of header) start [] 2 (drop 1 (lines_of text)) in
    (lines_kept (columns_of header) start [] 2 (drop 1 (lines_of text)) calls
    (said_fine 1 on (header_verdict (has_quote header) (columns_of header)) calls e).1 none_kept).sound
