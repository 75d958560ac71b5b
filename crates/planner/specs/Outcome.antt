-- Document 01, "Numbers returned on refusal": the answer of planning and each slice afterwards, for every version, file, query and slice.
use Rattle.std.specs.Prelude.{ℕ, List, [], ◌∷◌, ◌++◌, length, drop, replicate, Result, Ok, Err}
use Rattle.std.proofs.Math.Option.{Option, none, some}
use Rattle.timetable.specs.Verdict.{by_verdict, refused}
use Rattle.timetable.specs.declared.Refusal.{Refusal}
use Rattle.file_layout.specs.declared.Format.{Format}
use Rattle.file_layout.specs.Check.{Answer}
use Rattle.file_layout.specs.Decode.{decode, trailer_of}
use Rattle.query.specs.declared.Query.{Query}
use Rattle.plans.specs.Plan.{Plan, planned, earliest}
use Rattle.plan_whole.specs.Answers.{answer_for, slice_after}
use Rattle.plan_whole.specs.declared.Plan.{Plan as Given}
use Rattle.planner.specs.Admission.{needs, work_room, plan_room, no_room, admission}

-- the first numbers are 0 and the rest unchanged
unfoldable pub cleared : ℕ → List ℕ → List ℕ
cleared room work = replicate room 0 ++ drop room work

-- work after an admitted call: its first 4n + 2,500 numbers are 0
abbrev pub work_after : Format → List ℕ → List ℕ → List ℕ
work_after f file work = cleared (needs (work_room (length work)) (trailer_of f file)) work

-- a plan's answer by its numbers
abbrev pub as_plan : (rides expected latest bound : ℕ) → Result Given (Refusal ℕ)
as_plan rides expected latest bound = Ok (record { rides = rides; expected = expected; latest = latest; bound = bound })

-- the answer, and the two slices afterwards
pub record PlanOutcome : Type 0 where
  pub answer : Result Given (Refusal ℕ)
  pub work : List ℕ
  pub plan : List ℕ

abbrev pub refused_plan : ℕ → ℕ → List ℕ → List ℕ → PlanOutcome
refused_plan number place work plan = record { answer = refused number place; work = work; plan = plan }

unfoldable pub plan_answered : Option Plan → List ℕ → List ℕ → PlanOutcome
plan_answered o work plan = record { answer = answer_for o; work = work; plan = slice_after o plan }

-- refusals 1 to 7 change no slice; then the plan or 8
unfoldable pub plan_outcome : Format → List ℕ → Query → List ℕ → List ℕ → PlanOutcome
plan_outcome f file q work plan =
    by_verdict (λ number place. refused_plan number place work plan)
    (plan_answered (planned (decode f file) q) (work_after f file work) plan)
    (admission f file q (work_room (length work)) (plan_room (length plan)))

-- Earliest safe arrival takes no bound code, needs only the work slice and answers E
pub record EarliestOutcome : Type 0 where
  pub answer : Result ℕ (Refusal ℕ)
  pub work : List ℕ

abbrev pub refused_earliest : ℕ → ℕ → List ℕ → EarliestOutcome
refused_earliest number place work = record { answer = refused number place; work = work }

unfoldable pub earliest_answered : Option ℕ → List ℕ → EarliestOutcome
earliest_answered none work = refused_earliest 8 0 work
earliest_answered (some e) work = record { answer = Ok e; work = work }

-- refusals 1 to 7 change no number; then E or 8
unfoldable pub earliest_outcome : Format → List ℕ → Query → List ℕ → EarliestOutcome
earliest_outcome f file q work =
    by_verdict (λ number place. refused_earliest number place work)
    (earliest_answered (earliest (decode f file) q) (work_after f file work))
    (admission f file q (work_room (length work)) no_room)

-- each case by document 01's number, place and values
unfoldable pub plan_answer : Result Given (Refusal ℕ) → Answer
plan_answer (Ok p) = record { number = 0; place = 0; values = p.rides ∷ p.expected ∷ p.latest ∷ p.bound ∷ [] }
plan_answer (Err r) = record { number = r.number; place = r.place; values = [] }

unfoldable pub earliest_answer : Result ℕ (Refusal ℕ) → Answer
earliest_answer (Ok minute) = record { number = 0; place = 0; values = minute ∷ [] }
earliest_answer (Err r) = record { number = r.number; place = r.place; values = [] }
