-- The demands of what the planning call returns, for every list of bytes, query and pair of slices, over its contract. Assumes nothing.
use Prim.Native.Nat.{ℕ, ◌+◌, ◌*◌, ◌≤◌}
use native.Mathlib.Omega.{arith}
use mathlib.Core.List.{List, [], ◌++◌, Memᴰ}
use mathlib.Core.Logic.{◌↔◌}
use mathlib.Core.Option.{Option, none, some}
use mathlib.Core.Path.{◌≡◌, refl, sym, ap, subst, ◌∙◌}
use lib.ListN.{length, get_or, take, drop, replicate}
use lib.Seq.{drop-append_seam}
use contract.Lifetimes.{Lfts}
use denote.Triple.Clauses.{AtExit}
use borrow.Fn.Kinds.{Dens, res_t, ended_of}
use Rattle.laws.proofs.Members.{mapped}
use Rattle.timetable.specs.Timetable.{Timetable}
use Rattle.timetable.specs.Verdict.{Verdict, fine, fault, refused}
use Rattle.file_layout.specs.Format.{version_one}
use Rattle.file_layout.specs.Decode.{decode, trailer_of}
use Rattle.query.specs.declared.Query.{Query}
use Rattle.plans.specs.Rides.{IsRide}
use Rattle.plans.specs.Journeys.{Journey}
use Rattle.plans.specs.Worth.{Valued}
use Rattle.plans.specs.Plan.{Plan, planned}
use Rattle.demands.specs.Demanded.{Demanded}
use Rattle.demands.proofs.Demanded.{plan_demanded}
use Rattle.plan_slice.specs.Slice.{written, rides_in}
use Rattle.plan_slice.proofs.Written.{length_written}
use Rattle.plan_slice.proofs.ReadBack.{slice_read_back}
use Rattle.plan_whole.specs.Answers.{answer_for, slice_after}
use Rattle.planner.specs.Admission.{work_room, plan_room, admission}
use Rattle.planner.specs.Outcome.{work_after, as_plan, PlanOutcome, plan_answered, plan_outcome, plan_answer}
use Rattle.planner.proofs.Admitting.{refused_number}
use Rattle.planner.proofs.Answered.{refused_outcome, answered_outcome}
use Rattle.planner.proofs.ByNumber.{plan_by_number}
use Rattle.planner.proofs.plan.Kinds as kinds
use Rattle.planner.proofs.plan.Reads as reads
use Rattle.promises.proofs.Admitted.{is_timely, no_plan_exactly, work_cleared}

-- a refusal is no plan, and two equal plan answers have equal numbers
pub refused_not_plan : {number place rides expected latest bound : ℕ} → refused number place ≡ as_plan rides expected latest bound → ⊥
refused_not_plan e = let z : ◌≡◌ {A = ℕ} 0 1 = cc in let y : ⊥ = omega arith in y

same_plan : {a b c d a' b' c' d' : ℕ} → as_plan a b c d ≡ as_plan a' b' c' d' → (a ≡ a') × (b ≡ b') × (c ≡ c') × (d ≡ d')
unfolding plan_answer
same_plan e =
    let numbers = ap (λ r. (plan_answer r).values) e in
    (ap (λ l. get_or l 0 0) numbers, ap (λ l. get_or l 1 0) numbers, ap (λ l. get_or l 2 0) numbers, ap (λ l. get_or l 3 0) numbers)

-- no plan is 8 and nothing else is
pub eight_is : (o : Option Plan) → answer_for o ≡ refused 8 0 → o ≡ none
unfolding answer_for
eight_is none e = refl
eight_is (some p) e = absurd (refused_not_plan (sym e))

-- each ride of a plan demanded is a ride
pub demanded_rides : {t : Timetable} {q : Query} {rides : List Valued} {expected latest bound : ℕ} → Demanded t q rides expected latest bound
    → (v : Valued) → Memᴰ v rides → IsRide t v.ride
demanded_rides d v m = d.safe.are_rides v.ride (mapped (λ (u : Valued). u.ride) m)

module _ (file : List ℕ) (q : Query) (work plan : List ℕ) where
  -- refusals 1 to 7
  abbrev pub verdict : Verdict
  verdict = admission version_one file q (work_room (length work)) (plan_room (length plan))

  abbrev outcome : PlanOutcome
  outcome = plan_outcome version_one file q work plan

  answered : verdict ≡ fine → outcome.answer ≡ answer_for (planned (decode version_one file) q)
  unfolding plan_answered
  answered e = ap (λ (o : PlanOutcome). o.answer) (answered_outcome version_one file q work plan e)

  -- a plan that is answered is the one of the definitions, and the call was admitted
  pub record Given (rides expected latest bound : ℕ) : Type 0 where
    pub admitted : verdict ≡ fine
    pub the_plan : Plan
    pub is_planned : planned (decode version_one file) q ≡ some the_plan
    pub numbers : (length the_plan.rides ≡ rides) × (the_plan.expected ≡ expected) × (the_plan.latest ≡ latest) × (the_plan.bound ≡ bound)

  pub given_plan : (rides expected latest bound : ℕ) → outcome.answer ≡ as_plan rides expected latest bound → Given rides expected latest bound
  unfolding answer_for
  given_plan rides expected latest bound told = by verdict refl (planned (decode version_one file) q) refl
    where
      by : (v : Verdict) → verdict ≡ v → (o : Option Plan) → planned (decode version_one file) q ≡ o → Given rides expected latest bound
      by (fault number place) e o is =
          absurd (refused_not_plan
          (sym (ap (λ (x : PlanOutcome). x.answer) (refused_outcome version_one file q work plan number place e)) ∙ told))
      by fine e none is = absurd (refused_not_plan (sym (answered e ∙ ap answer_for is) ∙ told))
      by fine e (some p) is =
          record { admitted = e; the_plan = p; is_planned = is; numbers = same_plan (sym (answered e ∙ ap answer_for is) ∙ told) }

  -- its numbers stand first in the slice, ahead of what was there
  pub left : {p : Plan} → verdict ≡ fine → planned (decode version_one file) q ≡ some p
      → outcome.plan ≡ written p.rides ++ drop (length (written p.rides)) plan
  unfolding plan_answered slice_after
  left e is =
      ap (λ (o : PlanOutcome). o.plan) (answered_outcome version_one file q work plan e) ∙ ap (λ (o : Option Plan). slice_after o plan) is

  -- the rides read back from the slice's first numbers are the plan demanded, and the numbers beyond are as they were
  reads_back : (rides expected latest bound : ℕ) → Given rides expected latest bound
      → Demanded (decode version_one file) q (rides_in (decode version_one file) (take (3 * rides) outcome.plan)) expected latest bound
      × (length (rides_in (decode version_one file) (take (3 * rides) outcome.plan)) ≡ rides)
      × (drop (3 * rides) outcome.plan ≡ drop (3 * rides) plan)
  reads_back rides expected latest bound g =
      let p = g.the_plan in
      let n = g.numbers in
      let t = decode version_one file in
      let demanded = plan_demanded t (is_timely file q _ _ g.admitted) q p g.is_planned in
      let slice = left g.admitted g.is_planned in
      let back : rides_in t (take (3 * rides) outcome.plan) ≡ p.rides =
      ap (λ k. rides_in t (take (3 * k) outcome.plan)) (sym n.0) ∙ ap (λ l. rides_in t (take (3 * length p.rides) l)) slice
      ∙ slice_read_back t p.rides (drop (length (written p.rides)) plan) (demanded_rides demanded)
      in (
        subst (λ (l : List Valued). Demanded t q l expected latest bound) (sym back)
            (subst (λ x. Demanded t q p.rides x latest bound) n.1
            (subst (λ l. Demanded t q p.rides p.expected l bound) n.2
            (subst (Demanded t q p.rides p.expected p.latest) n.3 demanded))),
        ap length back ∙ n.0,
        subst (λ k. drop k outcome.plan ≡ drop k plan) (length_written p.rides ∙ ap (λ k. 3 * k) n.0)
            (ap (drop (length (written p.rides))) slice
            ∙ drop-append_seam (written p.rides) (drop (length (written p.rides)) plan)),
      )

-- whatever answer and slices the contract permits
module _ (κs : Lfts 3) (arguments : Dens κs kinds.ps) (answer : (res_t kinds.r κs).Denot) (ending : AtExit (ended_of 3 kinds.ps kinds.r) κs)
    (permitted : reads.Post κs arguments answer ending) where
  abbrev file : List ℕ
  file = arguments.0.now

  abbrev t : Timetable
  t = decode version_one file

  abbrev q : Query
  q = arguments.1.0

  abbrev work : List ℕ
  work = arguments.1.1.0.now

  abbrev plan : List ℕ
  plan = arguments.1.1.1.0.now

  abbrev work' : List ℕ
  work' = ending.1.1.0.now

  abbrev plan' : List ℕ
  plan' = ending.1.1.1.0.now

  -- 1 to 7, in document 01's order and by its number and place; no slice changes
  pub refuses : (number place : ℕ) → verdict file q work plan ≡ fault number place
      → (answer ≡ refused number place) × (work' ≡ work) × (plan' ≡ plan) × (1 ≤ number) × (number ≤ 7)
  refuses number place e =
      let between = refused_number version_one file q (work_room (length work)) (plan_room (length plan)) number place e in
      let o = refused_outcome version_one file q work plan number place e in (
        permitted.0 ∙ ap (λ (x : PlanOutcome). x.answer) o,
        permitted.1 ∙ ap (λ (x : PlanOutcome). x.work) o,
        permitted.2 ∙ ap (λ (x : PlanOutcome). x.plan) o,
        between.0,
        between.1,
      )

  -- where a plan is answered: of as many rides, read back from the slice's first numbers, what demands 2 and 3 ask
  pub delivers : (rides expected latest bound : ℕ) → answer ≡ as_plan rides expected latest bound
      → Demanded t q (rides_in t (take (3 * rides) plan')) expected latest bound × (length (rides_in t (take (3 * rides) plan')) ≡ rides)
      × (drop (3 * rides) plan' ≡ drop (3 * rides) plan)
  delivers rides expected latest bound told =
      subst
      (λ (l : List ℕ). Demanded t q (rides_in t (take (3 * rides) l)) expected latest bound × (length (rides_in t (take (3 * rides) l)) ≡ rides)
      × (drop (3 * rides) l ≡ drop (3 * rides) plan))
      (sym permitted.2)
      (reads_back file q work plan rides expected latest bound
      (given_plan file q work plan rides expected latest bound (sym permitted.0 ∙ told)))

  module _ (admitted : verdict file q work plan ≡ fine) where
    told_for : answer ≡ answer_for (planned t q)
    told_for = permitted.0 ∙ answered file q work plan admitted

    -- where none of 1 to 7 applies: 8 exactly if there is no safe journey
    pub eight_exactly : (answer ≡ refused 8 0) ↔ ((end : ℕ) → Journey t q end → ⊥)
    unfolding answer_for
    eight_exactly =
        let exactly = no_plan_exactly file q (work_room (length work)) (plan_room (length plan)) admitted in
        (λ told. exactly.0 (eight_is (planned t q) (sym told_for ∙ told)), λ gone. told_for ∙ ap answer_for (exactly.1 gone))

    -- and 8 is told by document 01's number and place, without values
    pub eight_by_number : (plan_answer answer ≡ record { number = 8; place = 0; values = [] }) ↔ ((end : ℕ) → Journey t q end → ⊥)
    unfolding plan_answer
    eight_by_number = (
      λ told. eight_exactly.0 (plan_by_number answer (refused 8 0) told),
      λ gone. ap plan_answer (eight_exactly.1 gone),
    )

    -- otherwise a plan
    pub else_a_plan : (answer ≡ refused 8 0 → ⊥) → (rides expected latest bound : ℕ) × (answer ≡ as_plan rides expected latest bound)
    unfolding answer_for
    else_a_plan not_eight = by (planned t q) refl
      where
        by : (o : Option Plan) → planned t q ≡ o → (rides expected latest bound : ℕ) × (answer ≡ as_plan rides expected latest bound)
        by none is = absurd (not_eight (told_for ∙ ap answer_for is))
        by (some p) is = (length p.rides, p.expected, p.latest, p.bound, told_for ∙ ap answer_for is)

    -- on 8 the plan slice is as it was
    pub eight_leaves : answer ≡ refused 8 0 → plan' ≡ plan
    unfolding plan_answered slice_after
    eight_leaves told =
        permitted.2 ∙ ap (λ (o : PlanOutcome). o.plan) (answered_outcome version_one file q work plan admitted)
        ∙ ap (λ (o : Option Plan). slice_after o plan) (eight_is (planned t q) (sym told_for ∙ told))

    cleared_work : work' ≡ work_after version_one file work
    unfolding plan_answered
    cleared_work = permitted.1 ∙ ap (λ (o : PlanOutcome). o.work) (answered_outcome version_one file q work plan admitted)

    -- after a plan and after 8 the first 4n + 2,500 work numbers are 0, and the rest are as they were
    pub clears : (work' ≡ work_after version_one file work)
        × (take (4 * (trailer_of version_one file).rows + 2500) work' ≡ replicate (4 * (trailer_of version_one file).rows + 2500) 0)
        × (drop (4 * (trailer_of version_one file).rows + 2500) work' ≡ drop (4 * (trailer_of version_one file).rows + 2500) work)
    clears = let left = work_cleared file work work' cleared_work in (cleared_work, left.0, left.1)
