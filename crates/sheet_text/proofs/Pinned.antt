-- Facts that pin the sheet to document 01's own lines, and to document 02, E1 and E3. Assumes nothing.
use Prim.Native.Nat.{ℕ}
use mathlib.Core.List.{List, [], ◌∷◌}
use mathlib.Core.Path.{◌≡◌, refl}
use Rattle.timetable.specs.Rows.{own_rule, departure_rule, last_of_trip, follows, trip_rule, row_verdict, rows_verdict}
use Rattle.timetable.specs.Classes.{sum, shares_rule}
use Rattle.numbers.specs.Numbers.{u16_at, u32_at}
use Rattle.file_layout.specs.Decode.{decode, trailer_of, trailer_at, trailer_start, rows_from, row_at, tables_from, table_at, shares_from, block_end, tables_end}
use Rattle.file_layout.specs.Check.{file_verdict, sections_verdict, length_rule, trailer_rule, class_verdict, classes_verdict, joined, sections_join}
use Rattle.file_layout.specs.Format.{version_one}
use Rattle.query.specs.Query.{journey_rule, code_rule, margin_rule, gate_rule, query_rule, query_in}
use Rattle.plans.specs.Worth.{weigh, first_open, worth_or, caught, arrival_worth, change_worth}
use Rattle.plans.specs.Chosen.{when_safe, off_in_ticks, worth_of, off_in_minutes, next_of, get_off, stay_on, least_of, first_at, leads, others, choose, best_of, scan, scanned}
use Rattle.plans.specs.Plan.{earliest, chosen_for, in_window, wanted, up_to, windows_of, extract, rides_from, latest_of, plan_within, plan_before, planned}
use Rattle.plans.specs.Examples.{Case, Hold}
use Rattle.file_layout.specs.CaseW.{case_w}
use Rattle.planner.specs.Admission.{admission, call_verdict, enough}
use Rattle.clock.specs.Clock.{day_of, day_start, since_midnight, hour_of, minute_of_hour, rounded_up}
use Rattle.text.specs.Decimal.{digits_onto, decimal, number_text}
use Rattle.clock.specs.Text.{face_text, time_text}
use Rattle.sheet_text.specs.Sheet.{refused_text, call_text, line_text, ride_text, rides_text, first_text, plan_text, planned_text, asked_text, sheet_text}

-- case W's query, 0 2 590 0, and what stands behind it
abbrev query_with : List ℕ → List ℕ
query_with rest = 0 ∷ 0 ∷ 2 ∷ 0 ∷ 78 ∷ 2 ∷ 0 ∷ 0 ∷ rest

-- document 01's four lines, to the letter
abbrev lines_w : List ℕ
lines_w =
    112 ∷ 108 ∷ 97 ∷ 110 ∷ 32 ∷ 51 ∷ 32 ∷ 100 ∷ 49 ∷ 32 ∷ 49 ∷ 49 ∷ 58 ∷ 49 ∷ 53 ∷ 32 ∷ 100 ∷ 49 ∷ 32 ∷ 49 ∷ 49 ∷ 58 ∷ 51 ∷ 48
    ∷ 10 ∷ 48 ∷ 32 ∷ 100 ∷ 49 ∷ 32 ∷ 49 ∷ 48 ∷ 58 ∷ 48 ∷ 48 ∷ 32 ∷ 49 ∷ 32 ∷ 100 ∷ 49 ∷ 32 ∷ 49 ∷ 48 ∷ 58 ∷ 51 ∷ 48 ∷ 32 ∷ 100
    ∷ 49 ∷ 32 ∷ 49 ∷ 49 ∷ 58 ∷ 49 ∷ 53 ∷ 10 ∷ 49 ∷ 32 ∷ 100 ∷ 49 ∷ 32 ∷ 49 ∷ 48 ∷ 58 ∷ 51 ∷ 50 ∷ 32 ∷ 50 ∷ 32 ∷ 100 ∷ 49 ∷ 32
    ∷ 49 ∷ 49 ∷ 58 ∷ 48 ∷ 48 ∷ 32 ∷ 100 ∷ 49 ∷ 32 ∷ 49 ∷ 49 ∷ 58 ∷ 48 ∷ 48 ∷ 10 ∷ 49 ∷ 32 ∷ 100 ∷ 49 ∷ 32 ∷ 49 ∷ 48 ∷ 58 ∷ 53
    ∷ 48 ∷ 32 ∷ 50 ∷ 32 ∷ 100 ∷ 49 ∷ 32 ∷ 49 ∷ 49 ∷ 58 ∷ 51 ∷ 48 ∷ 32 ∷ 100 ∷ 49 ∷ 32 ∷ 49 ∷ 49 ∷ 58 ∷ 51 ∷ 48 ∷ 10 ∷ []

abbrev printed_cases : List Case
printed_cases =
    record { answered = sheet_text version_one case_w (query_with []); expected = lines_w }
    -- from a stop to itself: 6
    ∷ record { answered = sheet_text version_one case_w (0 ∷ 0 ∷ 0 ∷ 0 ∷ 78 ∷ 2 ∷ 0 ∷ 0 ∷ []); expected = refused_text 6 }
    -- a query of seven bytes: 6
    ∷ record { answered = sheet_text version_one case_w (0 ∷ 0 ∷ 2 ∷ 0 ∷ 78 ∷ 2 ∷ 0 ∷ []); expected = refused_text 6 }
    -- no files: 1
    ∷ record { answered = sheet_text version_one [] []; expected = refused_text 1 }
    -- T 601: 8
    ∷ record { answered = sheet_text version_one case_w (0 ∷ 0 ∷ 2 ∷ 0 ∷ 89 ∷ 2 ∷ 0 ∷ 0 ∷ []); expected = refused_text 8 }
    -- E1: margins 1 and 2,560 change nothing of W's sheet; 0 and 2,561 are 6, and so are nine bytes and eleven
    ∷ record { answered = sheet_text version_one case_w (query_with (1 ∷ 0 ∷ [])); expected = lines_w }
    ∷ record { answered = sheet_text version_one case_w (query_with (0 ∷ 10 ∷ [])); expected = lines_w }
    ∷ record { answered = sheet_text version_one case_w (query_with (0 ∷ 0 ∷ [])); expected = refused_text 6 }
    ∷ record { answered = sheet_text version_one case_w (query_with (1 ∷ 10 ∷ [])); expected = refused_text 6 }
    ∷ record { answered = sheet_text version_one case_w (query_with (1 ∷ [])); expected = refused_text 6 }
    ∷ record { answered = sheet_text version_one case_w (query_with (1 ∷ 0 ∷ 0 ∷ [])); expected = refused_text 6 }
    -- E3: gate time 0 changes nothing of W's sheet; 31 is 6, and so are a margin of 0 ahead of it and thirteen bytes
    ∷ record { answered = sheet_text version_one case_w (query_with (1 ∷ 0 ∷ 0 ∷ 0 ∷ [])); expected = lines_w }
    ∷ record { answered = sheet_text version_one case_w (query_with (1 ∷ 0 ∷ 31 ∷ 0 ∷ [])); expected = refused_text 6 }
    ∷ record { answered = sheet_text version_one case_w (query_with (0 ∷ 0 ∷ 0 ∷ 0 ∷ [])); expected = refused_text 6 }
    ∷ record { answered = sheet_text version_one case_w (query_with (1 ∷ 0 ∷ 0 ∷ 0 ∷ 0 ∷ [])); expected = refused_text 6 }
    ∷ []

pub cases_print : Hold printed_cases
unfolding sheet_text asked_text planned_text plan_text first_text rides_text ride_text line_text call_text refused_text number_text query_in query_rule journey_rule code_rule margin_rule gate_rule admission call_verdict enough time_text face_text decimal digits_onto day_of day_start since_midnight hour_of minute_of_hour rounded_up u16_at u32_at file_verdict sections_verdict length_rule trailer_rule class_verdict classes_verdict joined sections_join decode trailer_of trailer_at trailer_start rows_from row_at tables_from table_at shares_from block_end tables_end own_rule departure_rule last_of_trip follows trip_rule row_verdict rows_verdict sum shares_rule planned plan_before earliest weigh first_open worth_or caught arrival_worth change_worth when_safe off_in_ticks worth_of off_in_minutes next_of get_off stay_on least_of first_at leads others choose best_of scan scanned chosen_for in_window wanted up_to windows_of extract rides_from latest_of plan_within
cases_print = (refl, (refl, (refl, (refl, (refl, (refl, (refl, (refl, (refl, (refl, (refl, (refl, (refl, (refl, (refl, tt)))))))))))))))

-- `refused 4`
pub refusal_prints : refused_text 4 ≡
    114 ∷ 101 ∷ 102 ∷ 117 ∷ 115 ∷ 101 ∷ 100 ∷ 32 ∷ 52 ∷ 10 ∷ []
unfolding refused_text number_text decimal digits_onto
refusal_prints = refl
