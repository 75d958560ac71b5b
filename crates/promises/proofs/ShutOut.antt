-- Document 01, "Tried and shut out": what five wrong planners answer or leave, the contract of the planning call does not permit. Assumes nothing.
use Prim.Native.Nat.{ℕ, ◌*◌}
use native.Mathlib.Omega.{arith}
use mathlib.Core.List.{List, [], ◌∷◌, ◌++◌}
use mathlib.Core.Logic.{◌≢◌}
use mathlib.Core.Option.{Option}
use mathlib.Core.Path.{◌≡◌, sym, ap, ◌∙◌}
use lib.ListN.{length, get_or, take, drop}
use lib.Seq.{take_at}
use contract.Lifetimes.{Lfts}
use denote.Triple.Clauses.{AtExit}
use borrow.Fn.Kinds.{Dens, res_t, ended_of}
use Rattle.timetable.specs.Timetable.{Timetable}
use Rattle.std.specs.Prelude.{Result}
use Rattle.timetable.specs.Verdict.{fine, refused}
use Rattle.timetable.specs.declared.Refusal.{Refusal}
use Rattle.file_layout.specs.Format.{version_one}
use Rattle.file_layout.specs.Decode.{decode}
use Rattle.query.specs.declared.Query.{Query}
use Rattle.plans.specs.Worth.{Valued}
use Rattle.plans.specs.Plan.{Plan}
use Rattle.plans.specs.Examples.{w, one_trip}
use Rattle.demands.specs.Demanded.{Demanded}
use Rattle.demands.proofs.Demanded.{plan_demanded}
use Rattle.demands.proofs.OnePlan.{one_plan}
use Rattle.plan_slice.specs.Slice.{written, rides_in}
use Rattle.plan_slice.proofs.Written.{length_written}
use Rattle.plan_whole.specs.declared.Plan.{Plan as Given}
use Rattle.planner.specs.Outcome.{as_plan, PlanOutcome, plan_outcome, plan_answer}
use Rattle.planner.proofs.plan.Kinds as kinds
use Rattle.planner.proofs.plan.Reads as reads
use Rattle.cases.specs.Cases.{file_of, work_for, plan_for, outcome_for, in_numbers, plan_of, slice_of, asked_of_w, w_answer, w_slice, cases}
use Rattle.cases.proofs.Cases.{cases_hold}
use Rattle.promises.proofs.Admitted.{is_timely}
use Rattle.promises.proofs.PlanCall.{verdict, given_plan, left, delivers, eight_exactly, else_a_plan}

-- what the P cases say of W, and of two rows of one trip
w_answer_lem : plan_of w asked_of_w ≡ w_answer 0
unfolding cases
w_answer_lem = cases_hold.0

w_slice_lem : slice_of w asked_of_w ≡ w_slice
unfolding cases
w_slice_lem = cases_hold.1.0

one_trip_answer : plan_of one_trip asked_of_w ≡ 0 ∷ 0 ∷ 1 ∷ 169920 ∷ 670 ∷ 0 ∷ []
unfolding cases
one_trip_answer = cases_hold.1.1.0

same_outcome : (t : Timetable) {file : List ℕ} {q : Query} {work plan : List ℕ} → file ≡ file_of t → q ≡ asked_of_w → work ≡ work_for t → plan ≡ plan_for t
    → plan_outcome version_one file q work plan ≡ outcome_for t asked_of_w
same_outcome t a b c d = cc

-- whatever answer and slices the contract permits
module _ (κs : Lfts 3) (arguments : Dens κs kinds.ps) (answer : (res_t kinds.r κs).Denot) (ending : AtExit (ended_of 3 kinds.ps kinds.r) κs)
    (permitted : reads.Post κs arguments answer ending) where
  abbrev file : List ℕ
  file = arguments.0.now

  abbrev t : Timetable
  t = decode version_one file

  abbrev q : Query
  q = arguments.1.0

  abbrev work : List ℕ
  work = arguments.1.1.0.now

  abbrev plan : List ℕ
  plan = arguments.1.1.1.0.now

  abbrev plan' : List ℕ
  plan' = ending.1.1.1.0.now

  in_numbers_lem : (table : Timetable) → plan_outcome version_one file q work plan ≡ outcome_for table asked_of_w → (a : Result Given (Refusal ℕ)) → answer ≡ a
      → in_numbers (plan_answer a) ≡ plan_of table asked_of_w
  unfolding plan_of
  in_numbers_lem table same a told =
      ap (λ (x : Result Given (Refusal ℕ)). in_numbers (plan_answer x)) (sym told ∙ permitted.0 ∙ ap (λ (o : PlanOutcome). o.answer) same)

  -- asked of W, with slices of noughts that are just long enough
  module _ (of_w : file ≡ file_of w) (asked : q ≡ asked_of_w) (blank_work : work ≡ work_for w) (blank_plan : plan ≡ plan_for w) where
    -- not one that refuses everything: W has a plan
    pub refuses_everything : (number place : ℕ) → answer ≢ refused number place
    unfolding in_numbers plan_answer
    refuses_everything number place told =
        let short : ◌≡◌ {A = ℕ} 2 6 =
        ap length (in_numbers_lem w (same_outcome w of_w asked blank_work blank_plan) (refused number place) told ∙ w_answer_lem) in
        let z : ⊥ = omega arith in z

    -- not one that writes no ride: W's first is worth 172,800
    pub writes_no_ride : plan' ≢ plan
    unfolding slice_of
    writes_no_ride untouched =
        let worth : ◌≡◌ {A = ℕ} 0 172800 =
        ap (λ (l : List ℕ). get_or l 2 0)
        (sym blank_plan ∙ sym untouched ∙ permitted.2 ∙ ap (λ (o : PlanOutcome). o.plan) (same_outcome w of_w asked blank_work blank_plan) ∙ w_slice_lem) in
        let z : ⊥ = omega arith in z

  -- asked alike of two rows of one trip: not one that returns W's plan always, since one ride is all there is
  pub always_plans_w : file ≡ file_of one_trip → q ≡ asked_of_w → work ≡ work_for one_trip → plan ≡ plan_for one_trip → answer ≢ as_plan 3 172800 690 0
  unfolding in_numbers plan_answer
  always_plans_w of_it asked blank_work blank_plan told =
      let three : ◌≡◌ {A = ℕ} 3 1 =
      ap (λ (l : List ℕ). get_or l 2 0)
      (in_numbers_lem one_trip (same_outcome one_trip of_it asked blank_work blank_plan) (as_plan 3 172800 690 0) told ∙ one_trip_answer) in
      let z : ⊥ = omega arith in z

  -- for every file, query and slices where a plan is answered: `others` is a plan that demands 2 and 3 ask
  module _ (rides expected latest bound : ℕ) (told : answer ≡ as_plan rides expected latest bound) (others : List Valued)
      (expected' latest' bound' : ℕ) (demanded : Demanded t q others expected' latest' bound') where
    -- the rides in the slice are that plan's, and the answer's numbers are its numbers
    pub as_demanded :
        (rides_in t (take (3 * rides) plan') ≡ others) × (rides ≡ length others) × (expected ≡ expected') × (latest ≡ latest') × (bound ≡ bound')
    as_demanded =
        let here = delivers κs arguments answer ending permitted rides expected latest bound told in
        let same = one_plan here.0 demanded in
        (same.0, sym here.1 ∙ ap length same.0, same.1, same.2, same.3)

    -- the slice's first numbers are those that it is written in
    pub written_as_demanded : take (3 * rides) plan' ≡ written others
    written_as_demanded =
        let g = given_plan file q work plan rides expected latest bound (sym permitted.0 ∙ told) in
        let p = g.the_plan in
        ap (take (3 * rides)) (permitted.2 ∙ left file q work plan g.admitted g.is_planned)
        ∙ take_at (written p.rides) (drop (length (written p.rides)) plan) (3 * rides)
        (length_written p.rides ∙ ap (λ k. 3 * k) g.numbers.0)
        ∙ ap written (one_plan (plan_demanded t (is_timely file q _ _ g.admitted) q p g.is_planned) demanded).0

    -- not one whose first ride is right and whose later landings are invented: no rides but those demanded stand in the slice
    pub invents_landings : (invented : List Valued) → invented ≢ others → rides_in t (take (3 * rides) plan') ≢ invented
    invents_landings invented other stand = other (sym stand ∙ as_demanded.0)

  -- not one with a made-up ride count: no count but that of the rides demanded is answered
  pub makes_up_a_count : (others : List Valued) (expected latest bound : ℕ) → Demanded t q others expected latest bound
      → (made_up : ℕ) → made_up ≢ length others → (x l b : ℕ) → answer ≢ as_plan made_up x l b
  makes_up_a_count others expected latest bound demanded made_up other x l b told =
      other (as_demanded made_up x l b told others expected latest bound demanded).1

  -- where none of 1 to 7 applies, a plan that demands 2 and 3 ask is answered: no refusal, and no other plan
  pub answers_the_demanded : verdict file q work plan ≡ fine → (others : List Valued) (expected latest bound : ℕ)
      → Demanded t q others expected latest bound
      → (answer ≡ as_plan (length others) expected latest bound) × (take (3 * length others) plan' ≡ written others)
  answers_the_demanded admitted others expected latest bound demanded =
      let e = demanded.bounded in
      let a =
      else_a_plan κs arguments answer ending permitted admitted
      (λ eight. (eight_exactly κs arguments answer ending permitted admitted).0 eight e.0 e.1.reached) in
      let n = as_demanded a.0 a.1 a.2 a.3 a.4 others expected latest bound demanded in
      let s = written_as_demanded a.0 a.1 a.2 a.3 a.4 others expected latest bound demanded in
      (a.4 ∙ cc, ap (λ k. take (3 * k) plan') (sym n.1) ∙ s)
