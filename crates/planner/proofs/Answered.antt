-- How planning ends, as the outcomes say it: a refusal by its number, or the answer with work cleared. Assumes nothing.
use Prim.Native.Nat.{ℕ, ◌≤◌}
use native.Mathlib.Omega.{arith}
use mathlib.Core.List.{List, ◌++◌}
use mathlib.Core.Option.{Option, none, some}
use mathlib.Core.Path.{◌≡◌, refl, sym, ap, ◌∙◌}
use lib.ListN.{length, replicate}
use Rattle.timetable.specs.Verdict.{Verdict, fine, fault, by_verdict, refused}
use Rattle.timetable.specs.declared.Refusal.{Refusal}
use Rattle.std.specs.Prelude.{Result, Ok, Err}
use Rattle.std.specs.Option.{ok_or}
use Rattle.plan_earliest.specs.Arrival.{arrival}
use Rattle.file_layout.specs.declared.Format.{Format}
use Rattle.file_layout.specs.declared.Trailer.{Trailer}
use Rattle.file_layout.specs.Check.{checked_as}
use Rattle.file_layout.specs.Decode.{decode}
use Rattle.query.specs.declared.Query.{Query}
use Rattle.query.specs.Query.{QueryFits}
use Rattle.plans.specs.Plan.{planned, earliest}
use Rattle.plan_cells.proofs.Outside.{outside_drop}
use Rattle.plan_whole.specs.declared.Plan.{Plan}
use Rattle.plan_whole.specs.Answers.{Answers}
use Rattle.plan_whole.specs.Steps.{KeptBehind}
use Rattle.plan_whole.proofs.Answered.{kept_later}
use Rattle.planner.specs.declared.Room.{Room}
use Rattle.planner.specs.Admission.{needs, work_room, plan_room, no_room, admission, Admits}
use Rattle.planner.specs.Outcome.{
  cleared,
  work_after,
  PlanOutcome,
  refused_plan,
  plan_answered,
  plan_outcome,
  EarliestOutcome,
  refused_earliest,
  earliest_answered,
  earliest_outcome,
}
use Rattle.planner.proofs.Admitting.{behind_check, call_gives, refused_number}

-- cells behind those that are cleared are as they were
cleared_behind : (room : ℕ) (work after : List ℕ) → KeptBehind room work after → cleared room after ≡ cleared room work
unfolding cleared
cleared_behind room work after kept = ap (λ (l : List ℕ). replicate room 0 ++ l) (outside_drop kept room (omega arith))

-- work that an admitted call has used and cleared
pub clears : {f : Format} {file : List ℕ} {h : Trailer} {q : Query} {work : List ℕ} {other : Room} → Admits f file h q (work_room (length work)) other
    → {used : ℕ} {after left : List ℕ} → used ≤ needs (work_room (length work)) h → KeptBehind used work after
    → left ≡ cleared (needs (work_room (length after)) h) after → left ≡ work_after f file work
clears {h = h} {work = work} call {used} {after} within kept is =
    let all = needs (work_room (length work)) h in
    is ∙ cleared_behind all work after (kept_later used all work after within kept)
    ∙ ap (λ k. cleared (needs (work_room (length work)) k) work) call.read

module _ (f : Format) (file : List ℕ) (q : Query) (work plan : List ℕ) where
  -- refusals 1 to 7 change no slice
  pub refused_outcome : (number place : ℕ) → admission f file q (work_room (length work)) (plan_room (length plan)) ≡ fault number place
      → plan_outcome f file q work plan ≡ refused_plan number place work plan
  unfolding plan_outcome
  refused_outcome number place e =
      ap (by_verdict (λ n p. refused_plan n p work plan) (plan_answered (planned (decode f file) q) (work_after f file work) plan)) e

  -- an admitted call is answered, and work cleared
  pub answered_outcome : admission f file q (work_room (length work)) (plan_room (length plan)) ≡ fine
      → plan_outcome f file q work plan ≡ plan_answered (planned (decode f file) q) (work_after f file work) plan
  unfolding plan_outcome
  answered_outcome e =
      ap (by_verdict (λ n p. refused_plan n p work plan) (plan_answered (planned (decode f file) q) (work_after f file work) plan)) e

  pub refused_as : {r : Result Plan (Refusal ℕ)} (number place : ℕ) → r ≡ refused number place
      → admission f file q (work_room (length work)) (plan_room (length plan)) ≡ fault number place
      → (r ≡ (plan_outcome f file q work plan).answer) × (work ≡ (plan_outcome f file q work plan).work) × (plan ≡ (plan_outcome f file q work plan).plan)
  refused_as number place told e =
      let o = refused_outcome number place e in (
        told ∙ sym (ap (λ (x : PlanOutcome). x.answer) o),
        sym (ap (λ (x : PlanOutcome). x.work) o),
        sym (ap (λ (x : PlanOutcome). x.plan) o),
      )

  pub answered_as : {r : Result Plan (Refusal ℕ)} {work' plan' : List ℕ} → admission f file q (work_room (length work)) (plan_room (length plan)) ≡ fine
      → Answers (planned (decode f file) q) r plan plan' → work' ≡ work_after f file work
      → (r ≡ (plan_outcome f file q work plan).answer) × (work' ≡ (plan_outcome f file q work plan).work) × (plan' ≡ (plan_outcome f file q work plan).plan)
  unfolding plan_answered
  answered_as e answers clear =
      let o = answered_outcome e in (
        answers.answer ∙ sym (ap (λ (x : PlanOutcome). x.answer) o),
        clear ∙ sym (ap (λ (x : PlanOutcome). x.work) o),
        answers.slice_left ∙ sym (ap (λ (x : PlanOutcome). x.plan) o),
      )

-- the number of a refusal
abbrev pub number_in : {A : Type 0} → Result A (Refusal ℕ) → ℕ
number_in (Ok answered) = 0
number_in (Err refusal) = refusal.number

-- a plan call that answers 8 was admitted, so its query keeps its rule
module _ (f : Format) (file : List ℕ) (q : Query) (work plan : List ℕ) where
  eight_admitted : (place : ℕ) → refused 8 place ≡ (plan_outcome f file q work plan).answer
      → admission f file q (work_room (length work)) (plan_room (length plan)) ≡ fine
  eight_admitted place told = by (admission f file q (work_room (length work)) (plan_room (length plan))) refl
    where
      by : (v : Verdict) → admission f file q (work_room (length work)) (plan_room (length plan)) ≡ v → v ≡ fine
      by fine is = refl
      by (fault number at) is =
          let same : ◌≡◌ {A = Result Plan (Refusal ℕ)} (refused 8 place) (refused number at) = told ∙ ap (λ (x : PlanOutcome). x.answer) (refused_outcome f file q work plan number at is) in
          let eight : 8 ≡ number = ap number_in same in
          absurd (let z : ⊥ = omega (arith, eight, (refused_number f file q _ _ number at is).1) in z)

  pub eight_fits : (h : Trailer) → checked_as f file ≡ Ok h → (place : ℕ) → refused 8 place ≡ (plan_outcome f file q work plan).answer
      → QueryFits h.stops f.lastminute q
  eight_fits h sound place told =
      let work_room_lem = work_room (length work) in
      let plan_room_lem = plan_room (length plan) in
      (call_gives f h q work_room_lem plan_room_lem (sym (behind_check f file q work_room_lem plan_room_lem h sound) ∙ eight_admitted place told)).0

-- E is answered, or 8 where there is none
or_eight : (o : Option ℕ) (work : List ℕ) → ok_or (arrival o) (record { number = 8; place = 0 }) ≡ (earliest_answered o work).answer
unfolding earliest_answered
or_eight none work = refl
or_eight (some e) work = refl

-- and the slice is left so, whatever the answer
pub work_is : (o : Option ℕ) (work : List ℕ) → (earliest_answered o work).work ≡ work
unfolding earliest_answered
work_is none work = refl
work_is (some x) work = refl

module _ (f : Format) (file : List ℕ) (q : Query) (work : List ℕ) where
  pub refused_earliest_lem : (number place : ℕ) → admission f file q (work_room (length work)) no_room ≡ fault number place
      → earliest_outcome f file q work ≡ refused_earliest number place work
  unfolding earliest_outcome
  refused_earliest_lem number place e =
      ap (by_verdict (λ n p. refused_earliest n p work) (earliest_answered (earliest (decode f file) q) (work_after f file work))) e

  pub refused_as_earliest : {r : Result ℕ (Refusal ℕ)} (number place : ℕ) → r ≡ refused number place
      → admission f file q (work_room (length work)) no_room ≡ fault number place
      → (r ≡ (earliest_outcome f file q work).answer) × (work ≡ (earliest_outcome f file q work).work)
  refused_as_earliest number place told e =
      let o = refused_earliest_lem number place e in
      (told ∙ sym (ap (λ (x : EarliestOutcome). x.answer) o), sym (ap (λ (x : EarliestOutcome). x.work) o))

  pub answered_earliest : admission f file q (work_room (length work)) no_room ≡ fine
      → earliest_outcome f file q work ≡ earliest_answered (earliest (decode f file) q) (work_after f file work)
  unfolding earliest_outcome
  answered_earliest e =
      ap (by_verdict (λ n p. refused_earliest n p work) (earliest_answered (earliest (decode f file) q) (work_after f file work))) e

  pub answered_as_earliest : {r : Result ℕ (Refusal ℕ)} {work' : List ℕ} → admission f file q (work_room (length work)) no_room ≡ fine
      → r ≡ ok_or (arrival (earliest (decode f file) q)) (record { number = 8; place = 0 }) → work' ≡ work_after f file work
      → (r ≡ (earliest_outcome f file q work).answer) × (work' ≡ (earliest_outcome f file q work).work)
  answered_as_earliest e told clear =
      let o = answered_earliest e in
      let found = earliest (decode f file) q in (
        told ∙ or_eight found (work_after f file work) ∙ sym (ap (λ (x : EarliestOutcome). x.answer) o),
        clear ∙ sym (work_is found (work_after f file work)) ∙ sym (ap (λ (x : EarliestOutcome). x.work) o),
      )

-- what the answer of an admitted call tells
pub arrival_is : (o : Option ℕ) (work : List ℕ) (e : ℕ) → (earliest_answered o work).answer ≡ Ok e → o ≡ some e
unfolding earliest_answered
arrival_is none work e h = absurd (let z : ◌≡◌ {A = ℕ} 0 1 = cc in let y : ⊥ = omega arith in y)
arrival_is (some x) work e h = ap some (let same : x ≡ e = cc in same)

pub refused_is : (o : Option ℕ) (work : List ℕ) (refusal : Refusal ℕ) → (earliest_answered o work).answer ≡ Err refusal → o ≡ none
unfolding earliest_answered
refused_is none work refusal h = refl
refused_is (some x) work refusal h = absurd (let z : ◌≡◌ {A = ℕ} 0 1 = cc in let y : ⊥ = omega arith in y)
