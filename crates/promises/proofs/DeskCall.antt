-- The demands of what the booking desk's calls return, for every list of bytes, query and room, over their contracts. Assumes nothing.
use Prim.Native.Nat.{ℕ, ◌+◌, ◌*◌, ◌≤◌, ◌<◌}
use native.Mathlib.Omega.{arith}
use mathlib.Core.List.{List, ◌++◌, Memᴰ}
use mathlib.Core.Logic.{◌↔◌}
use mathlib.Core.Option.{Option, none, some}
use mathlib.Core.Path.{◌≡◌, refl, sym, ap, subst, ◌∙◌}
use lib.ListN.{length, drop, length-map}
use lib.Seq.{drop-append_seam}
use Rattle.laws.proofs.Members.{mapped_from}
use Rattle.timetable.specs.Timetable.{Timetable}
use Rattle.timetable.specs.Verdict.{Verdict, fine, fault, by_verdict}
use Rattle.file_layout.specs.Format.{version_one}
use Rattle.file_layout.specs.Decode.{decode}
use Rattle.query.specs.declared.Query.{Query}
use Rattle.query.specs.Query.{with_code, with_margin, least_margin}
use Rattle.plans.specs.Rides.{Ride}
use Rattle.plans.specs.Journeys.{Journey}
use Rattle.plans.specs.Worth.{Valued}
use Rattle.plans.specs.Plan.{Plan, planned}
use Rattle.demands.specs.Demanded.{Demanded}
use Rattle.demands.proofs.AnyMargin.{same_journey}
use Rattle.demands.proofs.Demanded.{plan_demanded}
use Rattle.plan_slice.specs.Slice.{rides_in}
use Rattle.plan_slice.proofs.ReadBack.{read_back}
use Rattle.planner.specs.Admission.{no_room, admission}
use Rattle.planner.proofs.Admitting.{refused_number}
use Rattle.sayurimpak.specs.Desk.{DeskOutcome, refused, plan_bytes, desk_answered, byte_room, desk_outcome}
use Rattle.sayurimpak.specs.Host.{numbers_in, NumbersFit}
use Rattle.promises.specs.Returned.{AsDesk, Booked}
use Rattle.promises.proofs.Admitted.{is_timely, is_sound, no_plan_exactly}
use Rattle.promises.proofs.Minutes.{plan_minutes}
use Rattle.promises.proofs.PlanCall.{demanded_rides}
use Rattle.promises.proofs.HostReads.{host_reads, length_bytes, few_rides, some_rides}

module _ (file : List ℕ) (q : Query) (out : List ℕ) where
  -- refusals 1 to 7, room below 12 bytes a row being 7
  abbrev pub verdict : Verdict
  verdict = admission version_one file q no_room (byte_room (length out))

  abbrev t : Timetable
  t = decode version_one file

  desk_refused : (number place : ℕ) → verdict ≡ fault number place → desk_outcome version_one file q out ≡ refused number out
  unfolding desk_outcome
  desk_refused number place e = ap (by_verdict (λ n p. refused n out) (desk_answered (planned t q) out)) e

  desk_answered_lem : verdict ≡ fine → desk_outcome version_one file q out ≡ desk_answered (planned t q) out
  unfolding desk_outcome
  desk_answered_lem e = ap (by_verdict (λ n p. refused n out) (desk_answered (planned t q) out)) e

  module _ (admitted : verdict ≡ fine) (p : Plan) (is : planned t q ≡ some p) where
    demanded : Demanded t q p.rides p.expected p.latest p.bound
    demanded = plan_demanded t (is_timely file q no_room (byte_room (length out)) admitted) q p is

    rows_few : length t.rows ≤ 2000
    rows_few = let sound = is_sound file q no_room (byte_room (length out)) admitted in omega (arith, sound.rows_count, sound.rows_few)

    each_inside : (v : Valued) → Memᴰ v p.rides → (v.ride.board < 2000) × (v.ride.leave < 2000)
    each_inside v m =
        let is_ride = demanded_rides demanded v m in
        (omega (arith, is_ride.onward, is_ride.inside, rows_few), omega (arith, is_ride.inside, rows_few))

    -- a plan has no more rides than a file can have rows
    rides_few : length p.rides ≤ 2000
    rides_few =
        let counted = few_rides demanded.by_boarding_row 0 2000
        (λ r k. let found = mapped_from (λ (u : Valued). u.ride) p.rides k in (
          (let z : 0 ≤ r.board = omega arith in z),
          subst (λ (x : Ride). x.board < 2000) (sym found.2) (each_inside found.0 found.1).0,
        ))
        in
        omega (arith, counted, length-map p.rides (λ (u : Valued). u.ride))

    each_fits : (v : Valued) → Memᴰ v p.rides → NumbersFit v
    each_fits v m =
        let minutes = plan_minutes file q no_room (byte_room (length out)) admitted demanded in
        let inside = each_inside v m in
        record { board = omega (arith, inside.0); leave = omega (arith, inside.1); worth = omega (arith, minutes.0, minutes.2 v m) }

    read_rides : rides_in t (numbers_in (3 * length p.rides) (plan_bytes p.rides ++ drop (length (plan_bytes p.rides)) out)) ≡ p.rides
    read_rides =
        ap (rides_in t) (host_reads p.rides (drop (length (plan_bytes p.rides)) out) each_fits)
        ∙ read_back t p.rides (λ v m. (demanded_rides demanded v m).as_timed)

  booked : (answer : ℕ) (bytes : List ℕ) → verdict ≡ fine → (o : Option Plan) → planned t q ≡ o → answer ≡ (desk_answered o out).answer
      → bytes ≡ (desk_answered o out).bytes → answer < 10000 → Booked t q out answer bytes
  unfolding desk_answered
  booked answer bytes e none is told left small = absurd (let z : ⊥ = omega (arith, told) in z)
  booked answer bytes e (some p) is told left small =
      let back : rides_in t (numbers_in (3 * answer) bytes) ≡ p.rides =
      ap (λ k. rides_in t (numbers_in (3 * k) bytes)) told ∙ ap (λ b. rides_in t (numbers_in (3 * length p.rides) b)) left ∙ read_rides e p is in
      record {
        expected = p.expected;
        latest = p.latest;
        bound = p.bound;
        demanded_plan = subst (λ (l : List Valued). Demanded t q l p.expected p.latest p.bound) (sym back) (demanded e p is);
        count = ap length back ∙ sym told;
        beyond =
            subst (λ k. drop k bytes ≡ drop k out) (length_bytes p.rides ∙ ap (λ k. 12 * k) (sym told))
            (ap (drop (length (plan_bytes p.rides))) left
            ∙ drop-append_seam (plan_bytes p.rides) (drop (length (plan_bytes p.rides)) out));
      }

  -- an admitted call that finds a plan counts its rides
  few_told : verdict ≡ fine → (o : Option Plan) → planned t q ≡ o → ((desk_answered o out).answer ≡ 10008 → ⊥)
      → (1 ≤ (desk_answered o out).answer) × ((desk_answered o out).answer ≤ 2000)
  unfolding desk_answered
  few_told e none is not_eight = absurd (not_eight refl)
  few_told e (some p) is not_eight = (some_rides (demanded e p is).latest_minute.1.1, rides_few e p is)

  eight_told : verdict ≡ fine → (o : Option Plan) → planned t q ≡ o → (desk_answered o out).answer ≡ 10008 → o ≡ none
  unfolding desk_answered
  eight_told e none is told = refl
  eight_told e (some p) is told = absurd (let z : ⊥ = omega (arith, told, rides_few e p is) in z)

-- whatever answer and bytes a contract permits that asks the desk for this query
module _ (file : List ℕ) (q : Query) (out : List ℕ) (answer : ℕ) (out' : List ℕ) (permitted : AsDesk file q out answer out') where
  -- 10,001 to 10,007, and no byte changes
  pub refuses : (number place : ℕ) → verdict file q out ≡ fault number place
      → (answer ≡ 10000 + number) × (out' ≡ out) × (1 ≤ number) × (number ≤ 7)
  refuses number place e =
      let between = refused_number version_one file q no_room (byte_room (length out)) number place e in
      let o = desk_refused file q out number place e in (
        permitted.0 ∙ ap (λ (x : DeskOutcome). x.answer) o,
        permitted.1 ∙ ap (λ (x : DeskOutcome). x.bytes) o,
        between.0,
        between.1,
      )

  -- an answer below 10,000 counts the rides that stand in the bytes, 12 bytes a ride, and they are what demands 2 and 3 ask
  pub delivers : answer < 10000 → Booked (decode version_one file) q out answer out'
  delivers small = by (verdict file q out) refl
    where
      by : (v : Verdict) → verdict file q out ≡ v → Booked (decode version_one file) q out answer out'
      by (fault number place) e = absurd (let z : ⊥ = omega (arith, (refuses number place e).0) in z)
      by fine e =
          let o = desk_answered_lem file q out e in
          booked file q out answer out' e (planned (decode version_one file) q) refl (permitted.0 ∙ ap (λ (x : DeskOutcome). x.answer) o)
          (permitted.1 ∙ ap (λ (x : DeskOutcome). x.bytes) o) small

  -- where none of 1 to 7 applies, 10,008 exactly if there is no safe journey
  pub eight_exactly : verdict file q out ≡ fine → (answer ≡ 10008) ↔ ((end : ℕ) → Journey (decode version_one file) q end → ⊥)
  unfolding desk_answered
  eight_exactly e =
      let exactly = no_plan_exactly file q no_room (byte_room (length out)) e in
      let o = permitted.0 ∙ ap (λ (x : DeskOutcome). x.answer) (desk_answered_lem file q out e) in (
        λ told. exactly.0 (eight_told file q out e (planned (decode version_one file) q) refl (sym o ∙ told)),
        λ gone. o ∙ ap (λ (x : Option Plan). (desk_answered x out).answer) (exactly.1 gone),
      )

  -- so a bound never causes it: 10,008 exactly if there is none without a bound either
  pub eight_without_bound : verdict file q out ≡ fine
      → (answer ≡ 10008) ↔ ((end : ℕ) → Journey (decode version_one file) (with_code 0 q) end → ⊥)
  eight_without_bound e =
      let exactly = eight_exactly e in (
        λ told end j. exactly.0 told end (record { first = j.first; in_time = j.in_time; onward = j.onward }),
        λ gone. exactly.1 (λ end j. gone end (record { first = j.first; in_time = j.in_time; onward = j.onward })),
      )

  -- nor does a margin: exactly if there is none with margin 1
  pub eight_any_margin : verdict file q out ≡ fine
      → (answer ≡ 10008) ↔ ((end : ℕ) → Journey (decode version_one file) (with_margin least_margin q) end → ⊥)
  eight_any_margin e =
      let exactly = eight_exactly e in
      let same = same_journey (decode version_one file) q least_margin in (
        λ told end j. exactly.0 told end ((same end).0 j),
        λ gone. exactly.1 (λ end j. gone end ((same end).1 j)),
      )

  -- on 10,008 no byte changes
  pub eight_leaves : verdict file q out ≡ fine → answer ≡ 10008 → out' ≡ out
  unfolding desk_answered
  eight_leaves e told =
      let o = desk_answered_lem file q out e in
      permitted.1 ∙ ap (λ (x : DeskOutcome). x.bytes) o
      ∙ ap (λ (x : Option Plan). (desk_answered x out).bytes)
      (eight_told file q out e (planned (decode version_one file) q) refl (sym (permitted.0 ∙ ap (λ (x : DeskOutcome). x.answer) o) ∙ told))

  -- otherwise a plan, of at least one ride and at most 2,000
  pub else_a_plan : verdict file q out ≡ fine → (answer ≡ 10008 → ⊥) → (1 ≤ answer) × (answer ≤ 2000)
  else_a_plan e not_eight =
      let o = permitted.0 ∙ ap (λ (x : DeskOutcome). x.answer) (desk_answered_lem file q out e) in
      subst (λ a. (1 ≤ a) × (a ≤ 2000)) (sym o) (few_told file q out e (planned (decode version_one file) q) refl (λ told. not_eight (o ∙ told)))
