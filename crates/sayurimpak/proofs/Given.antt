-- What the desk makes of the planner's outcome is what document 01 says of the desk. Assumes nothing.
use Prim.Native.Nat.{ℕ, ◌+◌, ◌*◌, ◌≤◌}
use mathlib.Core.List.{List, [], ◌∷◌, ◌++◌, append_assoc}
use mathlib.Core.Option.{Option, none, some}
use mathlib.Core.Path.{◌≡◌, refl, sym, ap, subst, ◌∙◌}
use native.Mathlib.Omega.{arith}
use lib.ListN.{length, take, drop}
use lib.Seq.{take_at}
use Rattle.timetable.specs.Verdict.{Verdict, fine, fault, by_verdict}
use Rattle.numbers.specs.Numbers.{u32_bytes}
use Rattle.numbers.specs.Bytes.{bytes_of}
use Rattle.numbers.specs.Over.{over}
use Rattle.plans.specs.Plan.{Plan}
use Rattle.plans.specs.Worth.{Valued}
use Rattle.plan_slice.specs.Slice.{written}
use Rattle.plan_slice.proofs.Written.{length_written}
use Rattle.plan_whole.specs.Answers.{answer_for, slice_after}
use Rattle.planner.specs.Outcome.{PlanOutcome, refused_plan, plan_answered}
use Rattle.sayurimpak.specs.Desk.{DeskOutcome, refused, ride_bytes, plan_bytes, desk_answered}
use Rattle.sayurimpak.specs.Given.{given}

-- three numbers a ride are its 12 bytes
bytes_written : (rides : List Valued) → bytes_of (written rides) ≡ plan_bytes rides
unfolding bytes_of written plan_bytes ride_bytes
bytes_written [] = refl
bytes_written (v ∷ rides) =
    let a = u32_bytes v.ride.board in
    let b = u32_bytes v.ride.leave in
    let c = u32_bytes v.worth in
    ap (λ l. a ++ (b ++ (c ++ l))) (bytes_written rides)
    ∙ sym (append_assoc a (b ++ c) (plan_bytes rides) ∙ ap (λ l. a ++ l) (append_assoc b c (plan_bytes rides)))

-- the planner's outcome, whose plan slice stands ahead of `rest`, as the desk gives it on
abbrev pub given_on : PlanOutcome → (rest out : List ℕ) → DeskOutcome
given_on o rest out = given o.answer (o.plan ++ rest) out

module _ (plan rest out : List ℕ) where
  answered_given : (p : Option Plan) (work : List ℕ) → given_on (plan_answered p work plan) rest out ≡ desk_answered p out
  unfolding given plan_answered answer_for slice_after desk_answered
  answered_given none work = refl
  answered_given (some p) work =
      let numbers = written p.rides in
      ap (λ l. record { answer = length p.rides; bytes = over (bytes_of l) out })
      (ap (take (3 * length p.rides)) (append_assoc numbers (drop (length numbers) plan) rest)
      ∙ take_at numbers (drop (length numbers) plan ++ rest) (3 * length p.rides) (length_written p.rides))
      ∙ ap (λ b. record { answer = length p.rides; bytes = over b out }) (bytes_written p.rides)

  -- by each verdict
  pub verdict_given : (o : Option Plan) (work kept : List ℕ) (v : Verdict)
      → given_on (by_verdict (λ number place. refused_plan number place kept plan) (plan_answered o work plan) v) rest out
      ≡ by_verdict (λ number place. refused number out) (desk_answered o out) v
  unfolding given
  verdict_given o work kept fine = answered_given o work
  verdict_given o work kept (fault number place) = refl
