-- What the calls for the earliest safe arrival return, for every list of bytes, query and slice, over their contracts. Assumes nothing.
use Prim.Native.Nat.{ℕ, ◌+◌, ◌*◌, ◌≤◌}
use mathlib.Core.List.{List, []}
use mathlib.Core.Logic.{◌↔◌}
use mathlib.Core.Option.{Option, none, some}
use mathlib.Core.Path.{◌≡◌, refl, sym, ap, ◌∙◌}
use lib.ListN.{length, take, drop, replicate}
use Rattle.timetable.specs.Timetable.{Timetable}
use Rattle.std.specs.Prelude.{Result, Ok}
use Rattle.timetable.specs.Verdict.{Verdict, fine, fault, refused}
use Rattle.timetable.specs.declared.Refusal.{Refusal}
use Rattle.file_layout.specs.Format.{version_one}
use Rattle.file_layout.specs.Decode.{decode, trailer_of}
use Rattle.query.specs.declared.Query.{Query}
use Rattle.plans.specs.Sound.{Timely}
use Rattle.plans.specs.Journeys.{Journey, IsEarliest}
use Rattle.plans.specs.Plan.{earliest}
use Rattle.demands.proofs.Demand2 as demand2
use Rattle.planner.specs.Admission.{work_room, no_room, admission}
use Rattle.planner.specs.Outcome.{work_after, EarliestOutcome, earliest_answered, earliest_answer}
use Rattle.planner.proofs.Admitting.{refused_number}
use Rattle.planner.proofs.Answered.{refused_earliest_lem, answered_earliest, arrival_is, refused_is, work_is}
use Rattle.planner.proofs.ByNumber.{arrival_by_number}
use Rattle.promises.specs.Returned.{AsArrival}
use Rattle.promises.proofs.Admitted.{is_timely, query_fits, work_cleared}

-- whatever answer and slice a contract permits that asks for this query
module _ (file : List ℕ) (q : Query) (work : List ℕ) (answer : Result ℕ (Refusal ℕ)) (work' : List ℕ) (permitted : AsArrival file q work answer work') where
  abbrev t : Timetable
  t = decode version_one file

  abbrev pub verdict : Verdict
  verdict = admission version_one file q (work_room (length work)) no_room

  -- 1 to 7, by document 01's number and place; work is as it was
  pub refuses : (number place : ℕ) → verdict ≡ fault number place
      → (answer ≡ refused number place) × (work' ≡ work) × (1 ≤ number) × (number ≤ 7)
  refuses number place e =
      let between = refused_number version_one file q (work_room (length work)) no_room number place e in
      let o = refused_earliest_lem version_one file q work number place e in (
        permitted.0 ∙ ap (λ (x : EarliestOutcome). x.answer) o,
        permitted.1 ∙ ap (λ (x : EarliestOutcome). x.work) o,
        between.0,
        between.1,
      )

  module _ (admitted : verdict ≡ fine) where
    abbrev after : List ℕ
    after = work_after version_one file work

    told_for : answer ≡ (earliest_answered (earliest t q) after).answer
    told_for = permitted.0 ∙ ap (λ (x : EarliestOutcome). x.answer) (answered_earliest version_one file q work admitted)

    cleared_work : work' ≡ after
    cleared_work =
        permitted.1 ∙ ap (λ (x : EarliestOutcome). x.work) (answered_earliest version_one file q work admitted)
        ∙ work_is (earliest t q) after

    -- after an arrival and after 8 the first 4n + 2,500 work numbers are 0, and the rest are as they were
    pub clears : (work' ≡ work_after version_one file work)
        × (take (4 * (trailer_of version_one file).rows + 2500) work' ≡ replicate (4 * (trailer_of version_one file).rows + 2500) 0)
        × (drop (4 * (trailer_of version_one file).rows + 2500) work' ≡ drop (4 * (trailer_of version_one file).rows + 2500) work)
    clears = let left = work_cleared file work work' cleared_work in (cleared_work, left.0, left.1)

    -- the minute answered is E: a safe journey reaches it, and none ends before it
    pub earliest_answered_lem : (e : ℕ) → answer ≡ Ok e → IsEarliest t q e
    earliest_answered_lem e told =
        demand2.earliest_safe t (is_timely file q (work_room (length work)) no_room admitted) q e
        (arrival_is (earliest t q) after e (sym told_for ∙ told))

    -- "no safe journey" exactly if none exists
    pub eight_exactly : (answer ≡ refused 8 0) ↔ ((end : ℕ) → Journey t q end → ⊥)
    unfolding earliest_answered
    eight_exactly = (
      λ told.
          demand2.no_earliest_safe t timely q (query_fits file q (work_room (length work)) no_room admitted).apart
          (refused_is (earliest t q) after _ (sym told_for ∙ told)),
      λ gone. told_for ∙ ap (λ (o : Option ℕ). (earliest_answered o after).answer) (nothing (earliest t q) refl gone),
    )
      where
        timely : Timely t
        timely = is_timely file q (work_room (length work)) no_room admitted

        nothing : (o : Option ℕ) → earliest t q ≡ o → ((end : ℕ) → Journey t q end → ⊥) → earliest t q ≡ none
        nothing none is gone = is
        nothing (some e) is gone = absurd (gone e (demand2.earliest_safe t timely q e is).reached)

    -- and 8 is told by document 01's number and place, without values
    pub eight_by_number : (earliest_answer answer ≡ record { number = 8; place = 0; values = [] }) ↔ ((end : ℕ) → Journey t q end → ⊥)
    unfolding earliest_answer
    eight_by_number = (
      λ told. eight_exactly.0 (arrival_by_number answer (refused 8 0) told),
      λ gone. ap earliest_answer (eight_exactly.1 gone),
    )

    -- otherwise a minute
    pub else_arrives : (answer ≡ refused 8 0 → ⊥) → (e : ℕ) × (answer ≡ Ok e)
    unfolding earliest_answered
    else_arrives not_eight = by (earliest t q) refl
      where
        by : (o : Option ℕ) → earliest t q ≡ o → (e : ℕ) × (answer ≡ Ok e)
        by none is = absurd (not_eight (told_for ∙ ap (λ (o : Option ℕ). (earliest_answered o after).answer) is))
        by (some e) is = (e, told_for ∙ ap (λ (o : Option ℕ). (earliest_answered o after).answer) is)
