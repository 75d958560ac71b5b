-- How a step of planning ends: the plan or 8, the cells behind those that it uses kept. Assumes nothing.
use Prim.Native.Nat.{ℕ, ◌≤◌}
use native.Mathlib.Omega.{arith}
use mathlib.Core.List.{List}
use mathlib.Core.Option.{Option, none, some}
use mathlib.Core.Path.{◌≡◌, refl, sym, ap, subst, ◌∙◌}
use lib.ListN.{length}
use Rattle.numbers.specs.Over.{over}
use Rattle.timetable.specs.Timetable.{Timetable}
use Rattle.query.specs.declared.Query.{Query}
use Rattle.plans.specs.Plan.{Plan, planned, plan_before, earliest}
use Rattle.plan_cells.proofs.Outside.{outside_wider}
use Rattle.plan_slice.specs.Slice.{written}
use Rattle.std.specs.Prelude.{Ok, None, Some}
use Rattle.timetable.specs.Verdict.{refused}
use Rattle.plan_earliest.specs.Arrival.{arrival}
use Rattle.plan_whole.specs.declared.Plan.{Plan as PlanTold}
use Rattle.plan_whole.specs.Answers.{answer_for, slice_after, Answers}
use Rattle.plan_whole.specs.Steps.{KeptBehind}

-- no plan is refusal 8, and leaves the plan slice as it was
pub no_plan_answers : (o : Option Plan) (plan : List ℕ) → o ≡ none → Answers o (refused 8 0) plan plan
unfolding answer_for slice_after
no_plan_answers o plan e =
    subst (λ (x : Option Plan). Answers x (refused 8 0) plan plan) (sym e) (record { answer = refl; slice_left = refl })

-- a plan by its numbers
pub plan_answers : (o : Option Plan) (p : Plan) (told : PlanTold) (plan after : List ℕ) → o ≡ some p → told.rides ≡ length p.rides
    → told.expected ≡ p.expected → told.latest ≡ p.latest → told.bound ≡ p.bound → after ≡ over (written p.rides) plan
    → Answers o (Ok told) plan after
unfolding answer_for slice_after
plan_answers o p told plan after e a b c d w =
    subst (λ (x : Option Plan). Answers x (Ok told) plan after) (sym e) (record { answer = ap Ok same; slice_left = w })
  where
    same : told ≡ record { rides = length p.rides; expected = p.expected; latest = p.latest; bound = p.bound }
    same =
        ap (λ n. record { rides = n; expected = told.expected; latest = told.latest; bound = told.bound }) a
        ∙ ap (λ n. record { rides = length p.rides; expected = n; latest = told.latest; bound = told.bound }) b
        ∙ ap (λ n. record { rides = length p.rides; expected = p.expected; latest = n; bound = told.bound }) c
        ∙ ap (λ n. record { rides = length p.rides; expected = p.expected; latest = p.latest; bound = n }) d

-- work cleared where only its first cells were used
pub kept_later : (from room : ℕ) (work after : List ℕ) → from ≤ room → KeptBehind from work after → KeptBehind room work after
kept_later from room work after h kept =
    outside_wider (omega arith) h kept

-- E or none, as it is returned
pub no_arrival : (o : Option ℕ) → None ≡ arrival o → o ≡ none
no_arrival none told = refl
no_arrival (some e) told = absurd cc

pub arrival_told : (o : Option ℕ) (e : ℕ) → Some e ≡ arrival o → o ≡ some e
arrival_told none e told = absurd cc
arrival_told (some x) e told = cc

-- the plan of a timetable by its E
pub no_plan_of : (t : Timetable) (q : Query) → earliest t q ≡ none → planned t q ≡ none
unfolding planned plan_before
no_plan_of t q e = ap (plan_before t q) e
