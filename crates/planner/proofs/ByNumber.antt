-- Document 01's number, place and values settle the answers of planning and of the earliest safe arrival. Assumes nothing.
use Prim.Native.Nat.{ℕ}
use mathlib.Core.List.{List, [], ◌∷◌}
use mathlib.Core.Path.{◌≡◌, refl, sym, ap, ◌∙◌}
use lib.ListN.{get_or}
use Rattle.std.specs.Prelude.{Result, Ok, Err}
use Rattle.timetable.specs.Verdict.{refused}
use Rattle.timetable.specs.declared.Refusal.{Refusal}
use Rattle.file_layout.specs.Check.{Answer}
use Rattle.plan_whole.specs.declared.Plan.{Plan}
use Rattle.planner.specs.Outcome.{plan_answer, earliest_answer}

-- a plan has four values and a refusal none, so each can be told from the other
plan_in : (number place : ℕ) → List ℕ → Result Plan (Refusal ℕ)
plan_in number place [] = refused number place
plan_in number place (rides ∷ values) =
    Ok (record { rides = rides; expected = get_or values 0 0; latest = get_or values 1 0; bound = get_or values 2 0 })

plan_in_lem : (answer : Result Plan (Refusal ℕ))
    → plan_in (plan_answer answer).number (plan_answer answer).place (plan_answer answer).values ≡ answer
unfolding plan_answer plan_in
plan_in_lem (Ok plan) = refl
plan_in_lem (Err refusal) = refl

-- two plan answers of one number, place and values are one answer
pub plan_by_number : (one other : Result Plan (Refusal ℕ)) → plan_answer one ≡ plan_answer other → one ≡ other
plan_by_number one other e =
    sym (plan_in_lem one) ∙ ap (λ (a : Answer). plan_in a.number a.place a.values) e ∙ plan_in_lem other

-- an arrival has one value and a refusal none
arrival_in : (number place : ℕ) → List ℕ → Result ℕ (Refusal ℕ)
arrival_in number place [] = refused number place
arrival_in number place (minute ∷ values) = Ok minute

arrival_in_lem : (answer : Result ℕ (Refusal ℕ))
    → arrival_in (earliest_answer answer).number (earliest_answer answer).place (earliest_answer answer).values ≡ answer
unfolding earliest_answer arrival_in
arrival_in_lem (Ok minute) = refl
arrival_in_lem (Err refusal) = refl

-- two arrival answers of one number, place and values are one answer
pub arrival_by_number : (one other : Result ℕ (Refusal ℕ)) → earliest_answer one ≡ earliest_answer other → one ≡ other
arrival_by_number one other e =
    sym (arrival_in_lem one) ∙ ap (λ (a : Answer). arrival_in a.number a.place a.values) e ∙ arrival_in_lem other
