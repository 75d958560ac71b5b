-- A text's fault is 9, 11, 12 or 13, in a column of the five or none, on a line. Assumes nothing.
use Prim.Native.Nat.{ℕ, suc, ◌≤◌}
use mathlib.Core.Bool.{Bool, true, false, not}
use mathlib.Core.List.{List, [], ◌∷◌}
use native.Mathlib.Omega.{arith}
use lib.Dec.{leb}
use Rattle.std.specs.Prelude.{is_some}
use lib.ListN.{length, drop, get_or}
use Rattle.timetable.specs.Limits.{most_stops, most_rows, most_trips}
use Rattle.timetable.specs.Verdict.{Verdict, fine, fault, or_else, unless, by_verdict}
use Rattle.timetable.proofs.Places.{FaultSuch}
use Rattle.gtfs_lines.specs.declared.Columns.{Columns}
use Rattle.gtfs_lines.specs.Columns.{columns_of}
use Rattle.gtfs_lines.specs.Lines.{lines_of, has_quote}
use Rattle.gtfs_ids.specs.Ids.{id_rule}
use Rattle.gtfs_stop_time.specs.StopTime.{FieldTexts, StopTime, texts_on, stop_time_of, is_filled, time_rule, sequence_rule}
use Rattle.gtfs_stop_time.specs.Faults.{filled_verdict, times_verdict, own_verdict}
use Rattle.gtfs_calls.specs.Calls.{trips_of, stops_of, last_call, rises_behind, rows_of}
use Rattle.gtfs_calls.specs.FaultNumbers.{TextFault, too_many, unreadable, bad_time, bad_sequence, FaultKnown}
use Rattle.gtfs_calls.specs.Faults.{next_verdict, line_verdict, header_verdict}
use Rattle.gtfs_calls.specs.Reading.{Reading, wrong, read_from, stop_times}

abbrev Known : Verdict → Type 0
Known = FaultSuch TextFault

-- a rule whose fault has such a number, ahead of a verdict that is known
rule_then : (b : Bool) {number column : ℕ} (later : Verdict) → TextFault number column → Known later → Known (or_else (unless b number column) later)
rule_then true later t known = known
rule_then false later t known = t

last_rule : (b : Bool) {number column : ℕ} → TextFault number column → Known (unless b number column)
last_rule true t = tt
last_rule false t = t

both_known : (v w : Verdict) → Known v → Known w → Known (or_else v w)
both_known fine w p q = q
both_known (fault number column) w p q = p

filled_known : (texts : FieldTexts) → Known (filled_verdict texts)
unfolding filled_verdict
filled_known texts =
    rule_then (id_rule texts.trip) _ (unreadable (omega arith))
    (rule_then (is_filled texts.arrival) _ (unreadable (omega arith))
    (rule_then (is_filled texts.departure) _ (unreadable (omega arith))
    (rule_then (id_rule texts.stop) _ (unreadable (omega arith)) (last_rule (is_filled texts.sequence) (unreadable (omega arith))))))

times_known : (start : ℕ) (texts : FieldTexts) → Known (times_verdict start texts)
unfolding times_verdict
times_known start texts =
    rule_then (time_rule start texts.arrival) _ (bad_time (omega arith))
    (rule_then (time_rule start texts.departure) _ (bad_time (omega arith))
    (last_rule (leb (stop_time_of start texts).arrival (stop_time_of start texts).departure) (bad_time (omega arith))))

own_known : (start : ℕ) (texts : FieldTexts) → Known (own_verdict start texts)
unfolding own_verdict
own_known start texts =
    both_known (filled_verdict texts) _ (filled_known texts)
    (both_known (times_verdict start texts) _ (times_known start texts) (last_rule (sequence_rule texts.sequence) (bad_sequence (omega arith))))

next_known : (back : List StopTime) (call : StopTime) → Known (next_verdict back call)
unfolding next_verdict
next_known back call =
    rule_then (rises_behind (last_call call.trip back) call) _ (bad_sequence (omega arith))
    (rule_then (leb (length (trips_of (call ∷ back))) most_trips) _ (too_many (omega arith))
    (rule_then (leb (length (stops_of (call ∷ back))) most_stops) _ (too_many (omega arith))
    (last_rule (leb (length (rows_of (call ∷ back))) most_rows) (too_many (omega arith)))))

line_known : (columns : Columns) (start : ℕ) (back : List StopTime) (line : List ℕ) → Known (line_verdict columns start back line)
unfolding line_verdict
line_known columns start back line =
    let texts = texts_on columns line in
    rule_then (not (has_quote line)) _ (unreadable (omega arith))
    (both_known (own_verdict start texts) (next_verdict back (stop_time_of start texts)) (own_known start texts) (next_known back (stop_time_of start texts)))

header_known : (quoted : Bool) (columns : Columns) → Known (header_verdict quoted columns)
unfolding header_verdict
header_known quoted columns =
    rule_then (not quoted) _ (unreadable (omega arith))
    (rule_then (is_some columns.trip) _ (unreadable (omega arith))
    (rule_then (is_some columns.arrival) _ (unreadable (omega arith))
    (rule_then (is_some columns.departure) _ (unreadable (omega arith))
    (rule_then (is_some columns.stop) _ (unreadable (omega arith)) (last_rule (is_some columns.sequence) (unreadable (omega arith)))))))

-- by a line's verdict, or what the lines behind it say
verdict_known : (line : ℕ) (on : Reading) (v : Verdict) → 1 ≤ line → Known v → FaultKnown on
    → FaultKnown (by_verdict (λ number column. wrong number line column) on v)
verdict_known line on fine h p q = q
verdict_known line on (fault number column) h p q = (p, h)

from_known : (columns : Columns) (start : ℕ) (back : List StopTime) (number : ℕ) (lines : List (List ℕ)) → 1 ≤ number
    → FaultKnown (read_from columns start back number lines)
unfolding read_from
from_known columns start back number [] h = tt
from_known columns start back number (line ∷ lines) h =
    let call = stop_time_of start (texts_on columns line) in
    verdict_known number (read_from columns start (call ∷ back) (suc number) lines) (line_verdict columns start back line) h
    (line_known columns start back line) (from_known columns start (call ∷ back) (suc number) lines (omega arith))

pub fault_known : (start : ℕ) (text : List ℕ) → FaultKnown (stop_times start text)
unfolding stop_times
fault_known start text =
    let header : List ℕ = get_or (lines_of text) 0 [] in
    verdict_known 1 (read_from (columns_of header) start [] 2 (drop 1 (lines_of text))) (header_verdict (has_quote header) (columns_of header)) (omega arith)
    (header_known (has_quote header) (columns_of header)) (from_known (columns_of header) start [] 2 (drop 1 (lines_of text)) (omega arith))
