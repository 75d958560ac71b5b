-- Document 01, "Both sides of each line": the cases marked P, and document 02, E1 and E3, as what the definitions answer beside what the documents say.
use Rattle.std.specs.Prelude.{ℕ, ◌+◌, ◌*◌, List, [], ◌∷◌, ◌++◌, map, length, replicate}
use Rattle.std.proofs.Math.Option.{Option, none, some}
use Rattle.timetable.specs.Timetable.{Timetable}
use Rattle.file_layout.specs.Check.{Answer, answer_of, checked}
use Rattle.file_layout.specs.Format.{version_one}
use Rattle.file_layout.specs.CaseW.{case_w}
use Rattle.file_encoding.specs.Encode.{encode}
use Rattle.house.specs.HouseShare.{house_share, house_answer}
use Rattle.query.specs.declared.Query.{Query}
use Rattle.query.specs.Query.{least_margin, most_margin, with_margin, with_gate, plain_query, with_code}
use Rattle.plans.specs.Chosen.{in_ticks, scanned, worth_of}
use Rattle.plans.specs.Plan.{chosen_for}
use Rattle.plans.specs.Examples.{Case, w_with, w, w_twice, one_trip, seldom_late}
use Rattle.plans.specs.Margins.{five_minutes}
use Rattle.planner.specs.Outcome.{PlanOutcome, plan_outcome, plan_answer, earliest_outcome, earliest_answer}

-- an answer by document 01's number, place and values
unfoldable pub in_numbers : Answer → List ℕ
in_numbers a = a.number ∷ a.place ∷ a.values

unfoldable pub check_of : List ℕ → List ℕ
check_of file = in_numbers (answer_of (checked file))

-- a timetable's file, and slices of noughts that are just long enough
abbrev pub file_of : Timetable → List ℕ
file_of t = encode version_one t

abbrev pub work_for : Timetable → List ℕ
work_for t = replicate (4 * length t.rows + 2500) 0

abbrev pub plan_for : Timetable → List ℕ
plan_for t = replicate (3 * length t.rows) 0

abbrev pub outcome_for : Timetable → Query → PlanOutcome
outcome_for t q = plan_outcome version_one (file_of t) q (work_for t) (plan_for t)

-- the planner's answer: a plan's ride count, expected ticks, latest minute and bound; and the plan slice afterwards
unfoldable pub plan_of : Timetable → Query → List ℕ
plan_of t q = in_numbers (plan_answer (outcome_for t q).answer)

unfoldable pub slice_of : Timetable → Query → List ℕ
slice_of t q = (outcome_for t q).plan

-- the earliest safe arrival's
unfoldable pub arrival_of : Timetable → Query → List ℕ
arrival_of t q = in_numbers (earliest_answer (earliest_outcome version_one (file_of t) q (work_for t)).answer)

unfoldable pub number_of : Option ℕ → List ℕ
number_of none = []
number_of (some x) = x ∷ []

-- the worth of each row without a bound, as a list of one number or none
unfoldable pub worths_to : ℕ → Timetable → List (List ℕ)
worths_to target t =
    map (λ w. number_of (worth_of w.best)) (scanned (in_ticks (record { target = target; bound = 0; margin = least_margin; gate = 0 })) t).weighed

unfoldable pub joined_up : List (List ℕ) → List ℕ
joined_up [] = []
joined_up (xs ∷ xss) = xs ++ joined_up xss

-- the chosen rows without a bound
unfoldable pub chosen_with : (margin target : ℕ) → Timetable → List ℕ
chosen_with margin target t = map (λ v. v.ride.board) (chosen_for t (record { target = target; bound = 0; margin = margin; gate = 0 }))

-- W's query
abbrev pub asked_of_w : Query
asked_of_w = plain_query 0 2 590

-- W's plan, in three rides of which the last is row 3, with its bound; and its slice, three numbers of which stay
abbrev pub w_answer : ℕ → List ℕ
w_answer bound = 0 ∷ 0 ∷ 3 ∷ 172800 ∷ 690 ∷ bound ∷ []

abbrev pub w_slice : List ℕ
w_slice = 0 ∷ 0 ∷ 172800 ∷ 1 ∷ 1 ∷ 168960 ∷ 3 ∷ 3 ∷ 176640 ∷ 0 ∷ 0 ∷ 0 ∷ []

-- W and what it answers come first: the planners that are shut out are held to them
unfoldable pub cases : List Case
cases =
    -- 1: W's first ride is worth 172,800 ticks; the others on the sheet 168,960 and 176,640
    record { answered = plan_of w asked_of_w; expected = w_answer 0 }
    ∷ record { answered = slice_of w asked_of_w; expected = w_slice }
    -- 10: one ride, worth 169,920
    ∷ record { answered = plan_of one_trip asked_of_w; expected = 0 ∷ 0 ∷ 1 ∷ 169920 ∷ 670 ∷ 0 ∷ [] }
    ∷ record { answered = slice_of one_trip asked_of_w; expected = 0 ∷ 1 ∷ 169920 ∷ 0 ∷ 0 ∷ 0 ∷ [] }
    -- W's bytes; W is sound with S 3, n 4, K 2, and so are the files of cases 3, 4, 9, 10 and 11
    ∷ record { answered = case_w; expected = file_of w }
    ∷ record { answered = check_of case_w; expected = 0 ∷ 0 ∷ 3 ∷ 4 ∷ 2 ∷ [] }
    ∷ record { answered = check_of (file_of (w_with 640)); expected = 0 ∷ 0 ∷ 3 ∷ 4 ∷ 2 ∷ [] }
    ∷ record { answered = check_of (file_of (w_with 639)); expected = 0 ∷ 0 ∷ 3 ∷ 4 ∷ 2 ∷ [] }
    ∷ record { answered = check_of (file_of w_twice); expected = 0 ∷ 0 ∷ 3 ∷ 5 ∷ 2 ∷ [] }
    ∷ record { answered = check_of (file_of one_trip); expected = 0 ∷ 0 ∷ 3 ∷ 2 ∷ 2 ∷ [] }
    ∷ record { answered = check_of (file_of seldom_late); expected = 0 ∷ 0 ∷ 3 ∷ 1 ∷ 1 ∷ [] }
    -- 2: W's third row is worth 179,200 and is not chosen
    ∷ record { answered = joined_up (worths_to 2 w); expected = 172800 ∷ 168960 ∷ 179200 ∷ 176640 ∷ [] }
    ∷ record { answered = chosen_with least_margin 2 w; expected = 0 ∷ 1 ∷ 3 ∷ [] }
    -- 3: W with row 3 departing at 640 still has a plan; 4: at 639, refusal 8
    ∷ record { answered = plan_of (w_with 640) asked_of_w; expected = w_answer 0 }
    ∷ record { answered = slice_of (w_with 640) asked_of_w; expected = w_slice }
    ∷ record { answered = plan_of (w_with 639) asked_of_w; expected = 8 ∷ 0 ∷ [] }
    ∷ record { answered = slice_of (w_with 639) asked_of_w; expected = plan_for w }
    ∷ record { answered = arrival_of (w_with 639) asked_of_w; expected = 8 ∷ 0 ∷ [] }
    -- 5: W with q 4: E 690, bound 690, same plan; 6: q 5: bound 715
    ∷ record { answered = arrival_of w asked_of_w; expected = 0 ∷ 0 ∷ 690 ∷ [] }
    ∷ record { answered = plan_of w (with_code 4 (plain_query 0 2 590)); expected = w_answer 690 }
    ∷ record { answered = slice_of w (with_code 4 (plain_query 0 2 590)); expected = w_slice }
    ∷ record { answered = plan_of w (with_code 5 (plain_query 0 2 590)); expected = w_answer 715 }
    -- 8: T 601: refusal 8
    ∷ record { answered = plan_of w (plain_query 0 2 601); expected = 8 ∷ 0 ∷ [] }
    -- 9: row 4 is on the sheet
    ∷ record { answered = plan_of w_twice asked_of_w; expected = w_answer 0 }
    ∷ record {
      answered = slice_of w_twice asked_of_w;
      expected = 0 ∷ 0 ∷ 172800 ∷ 1 ∷ 1 ∷ 168960 ∷ 4 ∷ 4 ∷ 176640 ∷ 0 ∷ 0 ∷ 0 ∷ 0 ∷ 0 ∷ 0 ∷ [];
    }
    -- 11: 2,561 ticks
    ∷ record { answered = plan_of seldom_late (plain_query 0 2 0); expected = 0 ∷ 0 ∷ 1 ∷ 2561 ∷ 11 ∷ 0 ∷ [] }
    -- 12: pair (5,30): cumulative shares at 1, 2, 5, 6, 35 are 303, 682, 2,730, 3,106, 4,096; 36 is above M
    ∷ record {
      answered = joined_up (map (λ minute. in_numbers (house_answer (house_share 1 minute))) (1 ∷ 2 ∷ 5 ∷ 6 ∷ 35 ∷ 36 ∷ []));
      expected = 0 ∷ 0 ∷ 303 ∷ 0 ∷ 0 ∷ 682 ∷ 0 ∷ 0 ∷ 2730 ∷ 0 ∷ 0 ∷ 3106 ∷ 0 ∷ 0 ∷ 4096 ∷ 6 ∷ 0 ∷ [];
    }
    -- E1: W's rows 0 and 3 are the last of their stops, and chosen whatever their worth
    ∷ record { answered = chosen_with most_margin 2 w; expected = 0 ∷ 1 ∷ 3 ∷ [] }
    -- E1: margins 0 and 2,561 are 6; 1 and 2,560 have a plan
    ∷ record { answered = plan_of w (with_margin 0 asked_of_w); expected = 6 ∷ 0 ∷ [] }
    ∷ record { answered = plan_of w (with_margin 1 asked_of_w); expected = w_answer 0 }
    ∷ record { answered = plan_of w (with_margin 2560 asked_of_w); expected = w_answer 0 }
    ∷ record { answered = plan_of w (with_margin 2561 asked_of_w); expected = 6 ∷ 0 ∷ [] }
    -- E1: the margin leaves out the boat that lands at 100, and yet E is 100 and the bound 200
    ∷ record { answered = plan_of five_minutes (with_code 8 (plain_query 0 2 0)); expected = 0 ∷ 0 ∷ 1 ∷ 25600 ∷ 100 ∷ 200 ∷ [] }
    ∷ record { answered = plan_of five_minutes (with_margin most_margin (with_code 8 (plain_query 0 2 0))); expected = 0 ∷ 0 ∷ 1 ∷ 26880 ∷ 105 ∷ 200 ∷ [] }
    ∷ record { answered = arrival_of five_minutes (with_margin most_margin (with_code 8 (plain_query 0 2 0))); expected = 0 ∷ 0 ∷ 100 ∷ [] }
    -- E3: gate time 0 answers as none; 31 is 6, of the plan and of the earliest safe arrival
    ∷ record { answered = plan_of w (with_gate 0 asked_of_w); expected = w_answer 0 }
    ∷ record { answered = plan_of w (with_gate 31 asked_of_w); expected = 6 ∷ 0 ∷ [] }
    ∷ record { answered = arrival_of w (with_gate 31 asked_of_w); expected = 6 ∷ 0 ∷ [] }
    ∷ []
