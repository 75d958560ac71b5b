-- Document 01, "Expected arrival in ticks": a plan answer, and the plan slice that it leaves.
use Rattle.std.specs.Prelude.{ℕ, List, ◌≡◌, length, Result, Ok}
use Rattle.std.proofs.Math.Option.{Option, none, some}
use Rattle.numbers.specs.Over.{over}
use Rattle.timetable.specs.declared.Refusal.{Refusal}
use Rattle.timetable.specs.Verdict.{refused}
use Rattle.plans.specs.Plan.{Plan}
use Rattle.plan_slice.specs.Slice.{written}
use Rattle.plan_whole.specs.declared.Plan.{Plan as PlanTold}

-- A plan answer is the ride count, expected ticks, latest minute and the bound; 8 where there is no safe journey
unfoldable pub answer_for : Option Plan → Result PlanTold (Refusal ℕ)
answer_for none = refused 8 0
answer_for (some p) = Ok (record { rides = length p.rides; expected = p.expected; latest = p.latest; bound = p.bound })

-- the plan slice changes only in its 3 × rides numbers, and not at all on 8
unfoldable pub slice_after : Option Plan → List ℕ → List ℕ
slice_after none plan = plan
slice_after (some p) plan = over (written p.rides) plan

pub record Answers (o : Option Plan) (r : Result PlanTold (Refusal ℕ)) (plan plan' : List ℕ) : Type 0 where
  pub answer : r ≡ answer_for o
  pub slice_left : plan' ≡ slice_after o plan
