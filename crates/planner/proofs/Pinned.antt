-- Document 01's refusals from 6 on, the rooms and the cleared work, at both sides of each line. Each statement holds by computing. Assumes nothing.
use Prim.Native.Nat.{ℕ}
use mathlib.Core.Bool.{true, false}
use mathlib.Core.List.{List, [], ◌∷◌, ◌++◌}
use mathlib.Core.Path.{◌≡◌, refl}
use lib.ListN.{take, replicate}
use Rattle.timetable.specs.Classes.{sum, shares_rule}
use Rattle.timetable.specs.Rows.{own_rule, departure_rule, last_of_trip, follows, trip_rule, row_verdict, rows_verdict}
use Rattle.numbers.specs.Numbers.{u16_at, u32_at}
use Rattle.file_layout.specs.declared.Trailer.{Trailer}
use Rattle.file_layout.specs.Format.{version_one}
use Rattle.file_layout.specs.Decode.{decode, trailer_of, trailer_at, trailer_start, rows_from, row_at, tables_from, table_at, shares_from, block_end, tables_end}
use Rattle.file_layout.specs.Check.{file_verdict, sections_verdict, length_rule, trailer_rule, class_verdict, classes_verdict, joined, sections_join}
use Rattle.query.specs.Query.{journey_rule, code_rule, margin_rule, gate_rule, query_rule, plain_query, with_code, with_margin, with_gate}
use Rattle.plans.specs.Chosen.{off_in_minutes, next_of, get_off, stay_on, least_of, first_at, leads, others, choose, best_of, scan, scanned, worth_of}
use Rattle.plans.specs.Plan.{earliest, planned, plan_before}
use Rattle.plans.specs.Worth.{first_open}
use Rattle.plan_whole.specs.Answers.{answer_for, slice_after}
use Rattle.planner.specs.Admission.{enough, work_room, plan_room, no_room, call_verdict, admission}
use Rattle.planner.specs.Outcome.{cleared, refused_plan, plan_answered, plan_outcome, refused_earliest, earliest_answered, earliest_outcome}

-- T above 10,079
pub last_minute_lem : (query_rule 2 version_one.lastminute (plain_query 0 1 10079) ≡ true)
    × (query_rule 2 version_one.lastminute (plain_query 0 1 10080) ≡ false)
unfolding query_rule journey_rule code_rule margin_rule gate_rule
last_minute_lem = (refl, refl)

-- a margin outside 1 to 2,560
pub margin_line : (query_rule 2 version_one.lastminute (with_margin 0 (plain_query 0 1 0)) ≡ false)
    × (query_rule 2 version_one.lastminute (plain_query 0 1 0) ≡ true)
    × (query_rule 2 version_one.lastminute (with_margin 2560 (plain_query 0 1 0)) ≡ true)
    × (query_rule 2 version_one.lastminute (with_margin 2561 (plain_query 0 1 0)) ≡ false)
unfolding query_rule journey_rule code_rule margin_rule gate_rule
margin_line = (refl, refl, refl, refl)

-- a gate time above 30
pub gate_line : (query_rule 2 version_one.lastminute (with_gate 30 (plain_query 0 1 0)) ≡ true)
    × (query_rule 2 version_one.lastminute (with_gate 31 (plain_query 0 1 0)) ≡ false)
unfolding query_rule journey_rule code_rule margin_rule gate_rule
gate_line = (refl, refl)

-- a file of four rows
abbrev four_rows : Trailer
four_rows = record { version = 1; stops = 3; rows = 4; classes = 2; rowstart = 0; tablestart = 48 }

-- work below 4n + 2,500 numbers, or plan slice below 3n; a call that needs one room alone has the other
pub rooms_line : (enough (work_room 2515) four_rows ≡ false) × (enough (work_room 2516) four_rows ≡ true)
    × (enough (plan_room 11) four_rows ≡ false) × (enough (plan_room 12) four_rows ≡ true) × (enough no_room four_rows ≡ true)
unfolding enough
rooms_line = (refl, refl, refl, refl, refl)

-- a room may be sized by the stops too
pub stops_line : (enough (record { lent = 20; perrow = 0; perstop = 7; fixed = 0 }) four_rows ≡ false)
    × (enough (record { lent = 21; perrow = 0; perstop = 7; fixed = 0 }) four_rows ≡ true)
unfolding enough
stops_line = (refl, refl)

-- the shortest sound file: two stops, no row, one class of M 0
abbrev shortest : List ℕ
shortest = 0 ∷ 0 ∷ 0 ∷ 16 ∷ 1 ∷ 0 ∷ 2 ∷ 0 ∷ 0 ∷ 0 ∷ 1 ∷ 0 ∷ 4 ∷ 0 ∷ 0 ∷ 0 ∷ 0 ∷ 0 ∷ 0 ∷ 0 ∷ []

-- one row more: stop 0 to stop 1 at minute 0
abbrev one_row : List ℕ
one_row =
    0 ∷ 0 ∷ 1 ∷ 0 ∷ 0 ∷ 0 ∷ 1 ∷ 0 ∷ 0 ∷ 0 ∷ 0 ∷ 0
    ∷ 0 ∷ 0 ∷ 0 ∷ 16 ∷ 1 ∷ 0 ∷ 2 ∷ 0 ∷ 1 ∷ 0 ∷ 1 ∷ 0 ∷ 0 ∷ 0 ∷ 0 ∷ 0 ∷ 12 ∷ 0 ∷ 0 ∷ 0 ∷ []

-- n = 1: the first 2,504 work numbers are 0 and the rest unchanged, though the planning had no use for them
pub four_a_row : (plan_outcome version_one one_row (plain_query 1 0 0) (replicate 2506 7) (5 ∷ 5 ∷ 5 ∷ [])
    ≡ refused_plan 8 0 (replicate 2504 0 ++ (7 ∷ 7 ∷ [])) (5 ∷ 5 ∷ 5 ∷ []))
    × (earliest_outcome version_one one_row (plain_query 1 0 0) (replicate 2506 7) ≡ refused_earliest 8 0 (replicate 2504 0 ++ (7 ∷ 7 ∷ [])))
unfolding plan_outcome earliest_outcome admission call_verdict enough query_rule journey_rule code_rule margin_rule gate_rule file_verdict sections_verdict length_rule trailer_rule
    class_verdict classes_verdict joined sections_join decode trailer_of trailer_at trailer_start rows_from row_at tables_from table_at shares_from block_end
    tables_end u16_at u32_at sum shares_rule rows_verdict row_verdict own_rule departure_rule trip_rule follows last_of_trip plan_answered answer_for slice_after
    planned plan_before earliest_answered earliest worth_of first_open scanned scan best_of choose next_of get_off stay_on least_of off_in_minutes first_at leads
    others cleared
four_a_row = (refl, refl)

-- n = 0: refusal 8; the first 2,500 work numbers are 0 and the rest unchanged, the plan slice not at all. 1 before 6 before 7, and no slice changes
pub in_order :
    (plan_outcome version_one shortest (plain_query 0 1 0) (replicate 2502 7) (5 ∷ []) ≡ refused_plan 8 0 (replicate 2500 0 ++ (7 ∷ 7 ∷ [])) (5 ∷ []))
    × (earliest_outcome version_one shortest (plain_query 0 1 0) (replicate 2502 7) ≡ refused_earliest 8 0 (replicate 2500 0 ++ (7 ∷ 7 ∷ [])))
    × (plan_outcome version_one (take 19 shortest) (with_code 17 (plain_query 0 1 0)) (7 ∷ []) (5 ∷ []) ≡ refused_plan 1 0 (7 ∷ []) (5 ∷ []))
    × (plan_outcome version_one shortest (with_code 17 (plain_query 0 1 0)) (7 ∷ []) (5 ∷ []) ≡ refused_plan 6 0 (7 ∷ []) (5 ∷ []))
    × (plan_outcome version_one shortest (plain_query 0 1 10080) (7 ∷ []) (5 ∷ []) ≡ refused_plan 6 0 (7 ∷ []) (5 ∷ []))
    × (plan_outcome version_one shortest (with_margin 2561 (plain_query 0 1 0)) (7 ∷ []) (5 ∷ []) ≡ refused_plan 6 0 (7 ∷ []) (5 ∷ []))
    × (plan_outcome version_one shortest (with_gate 31 (plain_query 0 1 0)) (7 ∷ []) (5 ∷ []) ≡ refused_plan 6 0 (7 ∷ []) (5 ∷ []))
    × (plan_outcome version_one shortest (with_gate 30 (with_margin 2560 (with_code 16 (plain_query 0 1 10079)))) (replicate 2499 7) (5 ∷ []) ≡ refused_plan 7 0 (replicate 2499 7) (5 ∷ []))
    × (earliest_outcome version_one shortest (plain_query 0 2 0) (7 ∷ []) ≡ refused_earliest 6 0 (7 ∷ []))
    × (earliest_outcome version_one shortest (with_gate 31 (plain_query 0 1 0)) (7 ∷ []) ≡ refused_earliest 6 0 (7 ∷ []))
    × (earliest_outcome version_one shortest (with_gate 30 (plain_query 0 1 0)) (7 ∷ []) ≡ refused_earliest 7 0 (7 ∷ []))
unfolding plan_outcome earliest_outcome admission call_verdict enough query_rule journey_rule code_rule margin_rule gate_rule file_verdict sections_verdict length_rule trailer_rule
    class_verdict classes_verdict joined sections_join decode trailer_of trailer_at trailer_start rows_from tables_from table_at shares_from block_end tables_end
    u16_at u32_at sum shares_rule rows_verdict plan_answered answer_for slice_after planned plan_before earliest_answered earliest worth_of first_open
    scanned scan cleared
in_order = (refl, refl, refl, refl, refl, refl, refl, refl, refl, refl, refl)
