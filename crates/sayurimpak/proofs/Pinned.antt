-- Document 01's numbers of the booking desk, at both sides of each line. Each statement holds by computing. Assumes nothing.
use Prim.Native.Nat.{ℕ}
use mathlib.Core.List.{List, [], ◌∷◌}
use mathlib.Core.Path.{◌≡◌, refl}
use lib.ListN.{take, replicate}
use Rattle.timetable.specs.Classes.{sum, shares_rule}
use Rattle.timetable.specs.Rows.{own_rule, departure_rule, last_of_trip, follows, trip_rule, row_verdict, rows_verdict}
use Rattle.file_layout.specs.Format.{version_one}
use Rattle.file_layout.specs.Decode.{decode, trailer_of, trailer_at, trailer_start, rows_from, row_at, tables_from, table_at, shares_from, block_end, tables_end}
use Rattle.file_layout.specs.Check.{file_verdict, sections_verdict, length_rule, trailer_rule, class_verdict, classes_verdict, joined, sections_join}
use Rattle.query.specs.Query.{journey_rule, code_rule, margin_rule, gate_rule, query_rule, plain_query, with_code, with_margin, with_gate}
use Rattle.numbers.specs.Numbers.{u16_bytes, u32_bytes, u16_at, u32_at}
use Rattle.plans.specs.Worth.{Valued, weigh, first_open, worth_or, caught, arrival_worth, change_worth}
use Rattle.plans.specs.Chosen.{when_safe, off_in_ticks, worth_of, off_in_minutes, next_of, get_off, stay_on, least_of, first_at, leads, others, choose, best_of, scan, scanned}
use Rattle.plans.specs.Plan.{earliest, chosen_for, in_window, wanted, up_to, windows_of, extract, rides_from, latest_of, plan_within, plan_before, planned}
use Rattle.planner.specs.Admission.{enough, call_verdict, admission}
use Rattle.sayurimpak.specs.Desk.{refused, ride_bytes, plan_bytes, desk_answered, desk_outcome}

-- 10,000 plus the refusal
pub refusal_numbers : ((refused 1 []).answer ≡ 10001) × ((refused 2 []).answer ≡ 10002) × ((refused 3 []).answer ≡ 10003)
    × ((refused 4 []).answer ≡ 10004) × ((refused 5 []).answer ≡ 10005) × ((refused 6 []).answer ≡ 10006)
    × ((refused 7 []).answer ≡ 10007) × ((refused 8 []).answer ≡ 10008)
refusal_numbers = (refl, refl, refl, refl, refl, refl, refl, refl)

-- boarding row, leaving row, worth as little-endian u32, 12 bytes a ride
abbrev aboard : (board leave worth : ℕ) → Valued
aboard board leave worth =
    record { ride = record { board = board; leave = leave; from = 0; departs = 0; to = 1; arrives = 1; shares = [] }; worth = worth }

pub ride_bytes_lem : plan_bytes (aboard 1 258 172800 ∷ aboard 3 3 176640 ∷ [])
    ≡ 1 ∷ 0 ∷ 0 ∷ 0 ∷ 2 ∷ 1 ∷ 0 ∷ 0 ∷ 0 ∷ 163 ∷ 2 ∷ 0 ∷ 3 ∷ 0 ∷ 0 ∷ 0 ∷ 3 ∷ 0 ∷ 0 ∷ 0 ∷ 0 ∷ 178 ∷ 2 ∷ 0 ∷ []
unfolding plan_bytes ride_bytes u32_bytes u16_bytes
ride_bytes_lem = refl

-- one row, from stop 0 at 600 to stop 1 at 630, of a class of M 0
abbrev one_row : List ℕ
one_row =
    0 ∷ 0 ∷ 1 ∷ 0 ∷ 88 ∷ 2 ∷ 118 ∷ 2 ∷ 0 ∷ 0 ∷ 0 ∷ 0 ∷ 0 ∷ 0 ∷ 0 ∷ 16 ∷ 1 ∷ 0 ∷ 2 ∷ 0 ∷ 1 ∷ 0 ∷ 1 ∷ 0 ∷ 0 ∷ 0 ∷ 0 ∷ 0 ∷ 12 ∷ 0 ∷ 0 ∷ 0 ∷ []

-- room for 12 bytes a row, and for one less; 1, 6 and 8; other bytes stay
pub desk_line :
    (desk_outcome version_one one_row (plain_query 0 1 0) (replicate 13 9)
    ≡ record { answer = 1; bytes = 0 ∷ 0 ∷ 0 ∷ 0 ∷ 0 ∷ 0 ∷ 0 ∷ 0 ∷ 0 ∷ 118 ∷ 2 ∷ 0 ∷ 9 ∷ [] })
    × (desk_outcome version_one one_row (plain_query 0 1 601) (replicate 12 9) ≡ record { answer = 10008; bytes = replicate 12 9 })
    × (desk_outcome version_one one_row (plain_query 0 1 0) (replicate 11 9) ≡ record { answer = 10007; bytes = replicate 11 9 })
    × (desk_outcome version_one one_row (with_code 17 (plain_query 0 1 0)) (replicate 11 9) ≡ record { answer = 10006; bytes = replicate 11 9 })
    × (desk_outcome version_one one_row (with_margin 2561 (plain_query 0 1 0)) (replicate 11 9) ≡ record { answer = 10006; bytes = replicate 11 9 })
    × (desk_outcome version_one one_row (with_gate 31 (plain_query 0 1 0)) (replicate 11 9) ≡ record { answer = 10006; bytes = replicate 11 9 })
    × (desk_outcome version_one (take 19 one_row) (with_code 17 (plain_query 0 1 0)) (replicate 11 9) ≡ record { answer = 10001; bytes = replicate 11 9 })
unfolding desk_outcome desk_answered plan_bytes ride_bytes u32_bytes u16_bytes admission call_verdict enough query_rule journey_rule code_rule margin_rule gate_rule file_verdict
    sections_verdict length_rule trailer_rule class_verdict classes_verdict joined sections_join decode trailer_of trailer_at trailer_start rows_from row_at tables_from
    table_at shares_from block_end tables_end u16_at u32_at own_rule departure_rule last_of_trip follows trip_rule row_verdict rows_verdict sum shares_rule planned
    plan_before earliest weigh first_open worth_or caught arrival_worth change_worth when_safe off_in_ticks worth_of off_in_minutes next_of get_off stay_on least_of first_at
    leads others choose best_of scan scanned chosen_for in_window wanted up_to windows_of extract rides_from latest_of plan_within
desk_line = (refl, refl, refl, refl, refl, refl, refl)
