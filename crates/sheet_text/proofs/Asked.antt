-- What planning answers to a query of a sound file, as the sheet's text. Assumes nothing.
use Prim.Native.Nat.{ℕ, ◌+◌, ◌*◌, ◌≤◌, ◌<◌}
use mathlib.Core.Bool.{true, ◌&&◌}
use mathlib.Core.List.{List, ◌++◌, Memᴰ}
use mathlib.Core.Option.{Option, none, some}
use mathlib.Core.Path.{◌≡◌, refl, sym, ap, subst, ◌∙◌}
use native.Mathlib.Omega.{arith}
use lib.ListN.{length, take, drop}
use borrow.Author.Tests.{le-leb}
use Rattle.laws.proofs.Tests.{both}
use Rattle.timetable.specs.Verdict.{Verdict, fine, fault, by_verdict}
use Rattle.timetable.specs.declared.Refusal.{Refusal}
use Rattle.std.specs.Prelude.{Result, Ok, Err}
use Rattle.timetable.specs.Timetable.{Timetable}
use Rattle.file_layout.specs.declared.Format.{Format}
use Rattle.file_layout.specs.declared.Trailer.{Trailer}
use Rattle.file_layout.specs.Check.{checked_as}
use Rattle.file_layout.specs.Decode.{decode, trailer_of}
use Rattle.file_layout.specs.Sound.{SoundFile}
use Rattle.file_layout.proofs.Sound.{checked_gives, sound_checked}
use Rattle.query.specs.declared.Query.{Query}
use Rattle.rooms.specs.Rooms.{work_numbers, plan_numbers}
use Rattle.plans.specs.Sound.{Timely}
use Rattle.plans.specs.Rides.{IsRide}
use Rattle.plans.specs.Journeys.{goal_of}
use Rattle.plans.specs.Worth.{Valued}
use Rattle.plans.specs.Plan.{Plan, planned}
use Rattle.plans.proofs.Made.{plan_made}
use Rattle.plans.proofs.PlanRides.{plan_member, for_ride}
use Rattle.plan_rows.specs.Sections.{Plannable}
use Rattle.plan_slice.specs.Slice.{written, rides_in, RidesFit}
use Rattle.plan_slice.proofs.ReadBack.{slice_read_back, rides_fit}
use Rattle.numbers.specs.Over.{over}
use Rattle.plan_whole.specs.declared.Plan.{Plan as Given}
use Rattle.plan_whole.specs.Answers.{answer_for, slice_after}
use Rattle.planner.specs.declared.Room.{Room}
use Rattle.planner.specs.Admission.{work_room, plan_room, no_room, needs, enough, admission}
use Rattle.planner.specs.Outcome.{PlanOutcome, work_after, refused_plan, plan_answered, plan_outcome}
use Rattle.planner.proofs.Admitting.{same_admission}
use Rattle.planner.proofs.Answered.{number_in}
use Rattle.sheet_text.specs.Sheet.{first_text, refused_text, rides_text, plan_text, planned_text, asked_text}

-- a refusal by its number, or what planning finds
abbrev answered_to : Verdict → Option Plan → (cells work plan : List ℕ) → PlanOutcome
answered_to v found cells work plan = by_verdict (λ number place. refused_plan number place work plan) (plan_answered found cells plan) v

abbrev told_to : Verdict → Option Plan → List ℕ
told_to v found = by_verdict (λ number place. refused_text number) (planned_text found) v

refusal_when : (v : Verdict) (found : Option Plan) (cells work plan : List ℕ) {refusal : Refusal ℕ}
    → Err refusal ≡ (answered_to v found cells work plan).answer → refused_text refusal.number ≡ told_to v found
unfolding plan_answered answer_for slice_after planned_text
refusal_when fine none cells work plan e = ap (λ r. refused_text (number_in r)) e
refusal_when fine (some p) cells work plan e = absurd (let z : ◌≡◌ {A = ℕ} 0 1 = cc in let y : ⊥ = omega arith in y)
refusal_when (fault n p) found cells work plan e = ap (λ r. refused_text (number_in r)) e

-- a plan that was answered: the numbers are its own, and the slice holds its rides
record Told (v : Verdict) (found : Option Plan) (given : Given) (plan after : List ℕ) : Type 0 where
  told : Plan
  admits : v ≡ fine
  is_found : found ≡ some told
  is_given : given ≡ record { rides = length told.rides; expected = told.expected; latest = told.latest; bound = told.bound }
  laid : after ≡ over (written told.rides) plan

plan_when : (v : Verdict) (found : Option Plan) (cells work plan after : List ℕ) {given : Given}
    → Ok given ≡ (answered_to v found cells work plan).answer → after ≡ (answered_to v found cells work plan).plan
    → Told v found given plan after
unfolding plan_answered answer_for slice_after
plan_when fine none cells work plan after e laid = absurd (let z : ◌≡◌ {A = ℕ} 0 1 = cc in let y : ⊥ = omega arith in y)
plan_when fine (some p) cells work plan after e laid =
    record { told = p; admits = refl; is_found = refl; is_given = (cc); laid = laid }
plan_when (fault n p) found cells work plan after e laid = absurd (let z : ◌≡◌ {A = ℕ} 0 1 = cc in let y : ⊥ = omega arith in y)

-- that slice's rides and lines
module _ (t : Timetable) (p : Plan) {rides : ℕ} (count : rides ≡ length p.rides) (are : (v : Valued) → Memᴰ v p.rides → IsRide t v.ride)
    (plan : List ℕ) {after : List ℕ} (laid : after ≡ over (written p.rides) plan) where
  rides_told : RidesFit (length t.rows) after rides
  rides_told = rw (laid, count) (rides_fit t p.rides (drop (length (written p.rides)) plan) are)

  lines_told : {expected latest : ℕ} → expected ≡ p.expected → latest ≡ p.latest
      → first_text rides expected latest ++ rides_text (rides_in t (take (3 * rides) after)) ≡ plan_text p
  unfolding plan_text
  lines_told expects ends =
      rw (laid, count, expects, ends)
      (ap (λ vs. first_text (length p.rides) p.expected p.latest ++ rides_text vs)
      (slice_read_back t p.rides (drop (length (written p.rides)) plan) are))

sound_timely : (f : Format) (file : List ℕ) → SoundFile f file → Timely (decode f file)
sound_timely f file sound =
    record {
      rising = sound.rows.departures;
      forward = λ i h. (sound.rows.own i h).onward;
      shared = λ i h. (sound.row_shares i (omega (arith, sound.rows_count))).shares_whole;
    }

room_enough : (room : Room) (h : Trailer) → needs room h ≤ room.lent → enough room h ≡ true
unfolding enough
room_enough room h fits = le-leb (needs room h) room.lent fits

module _ (f : Format) (file : List ℕ) (trailer : Trailer) (q : Query) (work plan : List ℕ) (plannable : Plannable f)
    (sound : checked_as f file ≡ Ok trailer) (work_room_lem : work_numbers ≤ length work) (plan_room_lem : plan_numbers ≤ length plan) where
  pub holds : SoundFile f file
  holds = checked_gives f file trailer plannable.readable sound

  pub trailer_read : trailer ≡ trailer_of f file
  trailer_read = (sound_checked f file trailer sound).1

  -- all the room that a file can need is lent
  verdict : admission f file q (work_room (length work)) (plan_room (length plan)) ≡ admission f file q no_room no_room
  verdict =
      let h = trailer_of f file in
      same_admission f file q (work_room (length work)) (plan_room (length plan)) no_room no_room
      (λ checked.
      both (room_enough (work_room (length work)) h (omega (arith, holds.rows_few)))
      (room_enough (plan_room (length plan)) h (omega (arith, holds.rows_few)))
      ∙ sym (both (room_enough no_room h (omega arith)) (room_enough no_room h (omega arith))))

  abbrev given : Verdict
  given = admission f file q no_room no_room

  outcome : plan_outcome f file q work plan ≡ answered_to given (planned (decode f file) q) (work_after f file work) work plan
  unfolding plan_outcome
  outcome = ap (λ v. answered_to v (planned (decode f file) q) (work_after f file work) work plan) verdict

  pub refusal_text : {refusal : Refusal ℕ} → Err refusal ≡ (plan_outcome f file q work plan).answer
      → refused_text refusal.number ≡ asked_text f file q
  unfolding asked_text
  refusal_text e = refusal_when given (planned (decode f file) q) (work_after f file work) work plan (e ∙ ap (λ o. o.answer) outcome)

  module _ {answer : Given} {after : List ℕ} (answered : Ok answer ≡ (plan_outcome f file q work plan).answer)
      (laid : after ≡ (plan_outcome f file q work plan).plan) where
    told : Told given (planned (decode f file) q) answer plan after
    told =
        plan_when given (planned (decode f file) q) (work_after f file work) work plan after (answered ∙ ap (λ o. o.answer) outcome)
        (laid ∙ ap (λ o. o.plan) outcome)

    are_rides : (v : Valued) → Memᴰ v told.told.rides → IsRide (decode f file) v.ride
    are_rides v m =
        let t = decode f file in
        let timely = sound_timely f file holds in
        for_ride t timely (goal_of q told.told.bound) v (plan_member t timely q told.told (plan_made t q told.told told.is_found) v m)

    pub plan_fits : RidesFit trailer.rows after answer.rides
    plan_fits =
        subst (λ n. RidesFit n after answer.rides) (holds.rows_count ∙ sym (ap (λ h. h.rows) trailer_read))
        (rides_told (decode f file) told.told (ap (λ g. g.rides) told.is_given) are_rides plan told.laid)

    pub plan_lines : first_text answer.rides answer.expected answer.latest ++ rides_text (rides_in (decode f file) (take (3 * answer.rides) after))
        ≡ asked_text f file q
    unfolding asked_text planned_text
    plan_lines =
        lines_told (decode f file) told.told (ap (λ g. g.rides) told.is_given) are_rides plan told.laid
        (ap (λ g. g.expected) told.is_given) (ap (λ g. g.latest) told.is_given)
        ∙ sym (ap (λ v. told_to v (planned (decode f file) q)) told.admits ∙ ap planned_text told.is_found)
