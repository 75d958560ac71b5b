-- The cases marked P, and E1's and E3's, hold of the definitions. Assumes nothing.
use mathlib.Core.Path.{refl}
use Rattle.timetable.specs.Rows.{own_rule, departure_rule, last_of_trip, follows, trip_rule, row_verdict, rows_verdict}
use Rattle.timetable.specs.Classes.{sum, shares_rule}
use Rattle.numbers.specs.Numbers.{u16_bytes, u32_bytes, u16_at, u32_at}
use Rattle.file_encoding.specs.Encode.{encode, rows_bytes, row_bytes, tables_bytes, table_bytes, shares_bytes, trailer_bytes}
use Rattle.file_layout.specs.Decode.{decode, trailer_of, trailer_at, trailer_start, rows_from, row_at, tables_from, table_at, shares_from, block_end, tables_end}
use Rattle.file_layout.specs.Check.{checked, checked_as, file_verdict, sections_verdict, length_rule, trailer_rule, class_verdict, classes_verdict, joined, sections_join, ranges_of, answered, answer_of}
use Rattle.house.specs.House.{cumulative, between}
use Rattle.house.specs.HouseShare.{in_house, house_share, house_answer}
use Rattle.plans.specs.Worth.{weigh, first_open, worth_or, caught, arrival_worth, change_worth}
use Rattle.plans.specs.Chosen.{when_safe, off_in_ticks, worth_of, off_in_minutes, next_of, get_off, stay_on, least_of, first_at, leads, others, choose, best_of, scan, scanned}
use Rattle.plans.specs.Plan.{earliest, chosen_for, in_window, wanted, up_to, windows_of, extract, rides_from, latest_of, plan_within, plan_before, planned}
use Rattle.query.specs.Query.{query_rule, journey_rule, code_rule, margin_rule, gate_rule}
use Rattle.plans.specs.Examples.{Hold}
use Rattle.plan_slice.specs.Slice.{written}
use Rattle.plan_whole.specs.Answers.{answer_for, slice_after}
use Rattle.planner.specs.Admission.{enough, call_verdict, admission}
use Rattle.planner.specs.Outcome.{plan_outcome, plan_answer, plan_answered, earliest_outcome, earliest_answer, earliest_answered, cleared}
use Rattle.cases.specs.Cases.{cases, in_numbers, plan_of, slice_of, arrival_of, check_of, number_of, worths_to, joined_up, chosen_with}

pub cases_hold : Hold cases
unfolding cases cumulative between in_house house_share house_answer in_numbers check_of plan_of slice_of arrival_of plan_outcome plan_answer plan_answered answer_for slice_after earliest_outcome earliest_answer earliest_answered admission call_verdict enough query_rule journey_rule code_rule margin_rule gate_rule cleared written number_of worths_to joined_up chosen_with encode rows_bytes row_bytes tables_bytes table_bytes shares_bytes trailer_bytes u16_bytes u32_bytes checked checked_as file_verdict length_rule class_verdict classes_verdict joined sections_join answered answer_of decode trailer_at rows_from row_at tables_from table_at shares_from block_end tables_end u16_at u32_at own_rule departure_rule last_of_trip follows trip_rule row_verdict rows_verdict sum shares_rule planned plan_before earliest weigh first_open worth_or caught arrival_worth change_worth when_safe off_in_ticks worth_of off_in_minutes next_of get_off stay_on least_of first_at leads others choose best_of scan scanned chosen_for in_window wanted up_to windows_of extract rides_from latest_of plan_within sections_verdict trailer_rule trailer_of trailer_start
cases_hold = (refl, (refl, (refl, (refl, (refl, (refl, (refl, (refl, (refl, (refl, (refl, (refl, (refl, (refl, (refl, (refl, (refl, (refl, (refl, (refl, (refl, (refl, (refl, (refl, (refl, (refl, (refl, (refl, (refl, (refl, (refl, (refl, (refl, (refl, (refl, (refl, (refl, (refl, tt))))))))))))))))))))))))))))))))))))))
