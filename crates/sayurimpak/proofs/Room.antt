-- The numbers that are lent have room for a plan exactly if the host's bytes do; and every answer fits them. Assumes nothing.
use Prim.Native.Nat.{ℕ, ◌+◌, ◌*◌, ◌/◌, ◌≤◌, ◌<◌, min}
use mathlib.Core.Bool.{true, ◌&&◌}
use mathlib.Core.List.{List, ◌++◌}
use mathlib.Core.Option.{Option, none, some}
use mathlib.Core.Path.{◌≡◌, refl, sym, ap, ap₂, ◌∙◌}
use native.Mathlib.Omega.{arith}
use lib.Dec.{leb}
use lib.ListN.{length, drop, length-append, length-drop}
use borrow.Author.Tests.{leb-true, leb-false, le-leb, lt-leb}
use Rattle.laws.proofs.Tests.{ifb}
use Rattle.timetable.specs.Verdict.{Verdict, fine, fault, by_verdict}
use Rattle.file_layout.specs.declared.Format.{Format}
use Rattle.file_layout.specs.declared.Trailer.{Trailer}
use Rattle.file_layout.specs.Format.{Readable}
use Rattle.file_layout.specs.Decode.{decode, trailer_of}
use Rattle.file_layout.proofs.Sound.{sound_gives}
use Rattle.query.specs.declared.Query.{Query}
use Rattle.plans.specs.Plan.{Plan, planned}
use Rattle.plan_slice.specs.Slice.{written}
use Rattle.plan_whole.specs.Answers.{answer_for, slice_after}
use Rattle.planner.specs.Admission.{needs, enough, work_room, plan_room, no_room, admission}
use Rattle.planner.specs.Outcome.{PlanOutcome, refused_plan, plan_answered, work_after, plan_outcome}
use Rattle.planner.proofs.Admitting.{same_admission, refused_number}
use Rattle.sayurimpak.specs.Desk.{refused, desk_answered, byte_room, desk_outcome}
use Rattle.sayurimpak.specs.Given.{Fitting}
use Rattle.plan_slice.proofs.Written.{length_written}
use Rattle.sayurimpak.proofs.Given.{given_on, verdict_given}

-- three numbers a row in as many numbers as there are groups of four bytes, at most 6,000: 12 bytes a row
rooms_agree : (h : Trailer) (bytes : ℕ) → h.rows ≤ 2000 → enough (plan_room (min 6000 (bytes / 4))) h ≡ enough (byte_room bytes) h
unfolding enough
rooms_agree h bytes few =
    ifb (λ b. leb (needs (plan_room (min 6000 (bytes / 4))) h) (min 6000 (bytes / 4)) ≡ b) (leb (needs (byte_room bytes) h) bytes)
    (λ yes.
    let enough : needs (byte_room bytes) h ≤ bytes = leb-true (needs (byte_room bytes) h) bytes yes in
    le-leb (needs (plan_room (min 6000 (bytes / 4))) h) (min 6000 (bytes / 4)) (omega arith))
    (λ no.
    let short : bytes < needs (byte_room bytes) h = leb-false (needs (byte_room bytes) h) bytes no in
    lt-leb (needs (plan_room (min 6000 (bytes / 4))) h) (min 6000 (bytes / 4)) (omega arith))

-- 10,500 work numbers are enough for every file
work_enough : (h : Trailer) → h.rows ≤ 2000 → enough (work_room 10500) h ≡ true
unfolding enough
work_enough h few = le-leb (needs (work_room 10500) h) 10500 (omega arith)

none_enough : (h : Trailer) → enough no_room h ≡ true
unfolding enough
none_enough h = le-leb (needs no_room h) 0 (omega arith)

module _ (f : Format) (readable : Readable f) (file : List ℕ) (q : Query) (work plan rest out : List ℕ)
    (wide : length work ≡ 10500) (lent : length plan ≡ min 6000 (length out / 4)) where
  -- the planner admits what the desk does
  admitted_alike : admission f file q (work_room (length work)) (plan_room (length plan)) ≡ admission f file q no_room (byte_room (length out))
  admitted_alike =
      ap₂ (λ a b. admission f file q (work_room a) (plan_room b)) wide lent
      ∙ same_admission f file q (work_room 10500) (plan_room (min 6000 (length out / 4))) no_room (byte_room (length out))
      (λ sound.
      let few = (sound_gives f file readable sound).rows_few in
      ap₂ (λ a b. a && b) (work_enough (trailer_of f file) few ∙ sym (none_enough (trailer_of f file)))
      (rooms_agree (trailer_of f file) (length out) few))

  pub desk_given : given_on (plan_outcome f file q work plan) rest out ≡ desk_outcome f file q out
  unfolding plan_outcome desk_outcome
  desk_given =
      verdict_given plan rest out (planned (decode f file) q) (work_after f file work) work
      (admission f file q (work_room (length work)) (plan_room (length plan)))
      ∙ ap (by_verdict (λ number place. refused number out) (desk_answered (planned (decode f file) q) out)) admitted_alike

  -- a plan slice that keeps its length holds all of a plan, and so do the host's bytes
  abbrev FitsOn : PlanOutcome → Type 0
  FitsOn o = length o.plan ≡ length plan → Fitting o.answer (o.plan ++ rest) out

  answered_fits : (p : Option Plan) (after : List ℕ) → FitsOn (plan_answered p after plan)
  unfolding plan_answered answer_for slice_after Fitting
  answered_fits none after k = omega arith
  answered_fits (some p) after k =
      let numbers = written p.rides in
      let whole = simp (length-append, length-drop) at k in (
        simp (length-append, length-drop) (omega (arith, length_written p.rides)),
        omega (arith, length_written p.rides, whole, lent),
      )

  verdict_fits : (o : Option Plan) (after : List ℕ) (v : Verdict) → ((number place : ℕ) → v ≡ fault number place → number ≤ 7)
      → FitsOn (by_verdict (λ number place. refused_plan number place work plan) (plan_answered o after plan) v)
  unfolding Fitting
  verdict_fits o after fine small = answered_fits o after
  verdict_fits o after (fault number place) small = λ k. omega (arith, small number place refl)

  pub desk_fits : FitsOn (plan_outcome f file q work plan)
  unfolding plan_outcome
  desk_fits =
      verdict_fits (planned (decode f file) q) (work_after f file work) (admission f file q (work_room (length work)) (plan_room (length plan)))
      (λ number place e. (refused_number f file q (work_room (length work)) (plan_room (length plan)) number place e).1)
