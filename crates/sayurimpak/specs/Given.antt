-- What the desk makes of the planner's answer and of the numbers that it left in the plan slice.
use Rattle.std.specs.Prelude.{ℕ, ◌*◌, ◌≤◌, List, length, take, Result, Ok, Err}
use Rattle.timetable.specs.declared.Refusal.{Refusal}
use Rattle.numbers.specs.Bytes.{bytes_of}
use Rattle.numbers.specs.Over.{over}
use Rattle.plan_whole.specs.declared.Plan.{Plan}
use Rattle.sayurimpak.specs.Desk.{DeskOutcome, refused}

unfoldable pub given : Result Plan (Refusal ℕ) → List ℕ → List ℕ → DeskOutcome
given (Ok plan) numbers out = record { answer = plan.rides; bytes = over (bytes_of (take (3 * plan.rides) numbers)) out }
given (Err refusal) numbers out = refused refusal.number out

-- the plan is all there and has room; a refusal's number is one of document 01's
unfoldable pub Fitting : Result Plan (Refusal ℕ) → (numbers out : List ℕ) → Type 0
Fitting (Ok plan) numbers out = (3 * plan.rides ≤ length numbers) × (12 * plan.rides ≤ length out)
Fitting (Err refusal) numbers out = refusal.number ≤ 8
