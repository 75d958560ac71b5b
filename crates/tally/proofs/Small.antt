-- The numbers of a refusal are small. Assumes nothing.
use Prim.Native.Nat.{ℕ, ◌≤◌}
use mathlib.Core.List.{List}
use mathlib.Core.Logic.{⊎_elim}
use mathlib.Core.Path.{◌≡◌, refl}
use native.Mathlib.Omega.{arith}
use Rattle.std.specs.Prelude.{Result, Ok, Err}
use Rattle.std.specs.Result.{IfErr}
use Rattle.timetable.specs.Verdict.{refused}
use Rattle.timetable.specs.declared.Refusal.{Refusal}
use Rattle.file_layout.specs.declared.Format.{Format}
use Rattle.tally.specs.declared.Landing.{Landing}
use Rattle.tally.specs.Outcome.{landing_outcome}
use Rattle.tally.proofs.Ends.{landing_ends}
use Rattle.tally.proofs.Endings.{landing_refused}

-- a refusal's number and place
pub landing_small : (f : Format) (l : Landing) (tally : List ℕ) (number place : ℕ)
    → (landing_outcome f l tally).answer ≡ refused number place → (number ≤ 16) × (place ≤ 0)
landing_small f l tally number place told =
    let found = landing_refused (landing_ends f l tally) told in
    (⊎_elim (λ e. omega arith) (λ e. omega arith) found.1, omega (arith, found.2))

-- the same of whatever is answered; the first part names the outcome, for a tactic that looks for it
pub landing_fits : (f : Format) (l : Landing) (tally : List ℕ)
    → (landing_outcome f l tally ≡ landing_outcome f l tally)
    × IfErr (landing_outcome f l tally).answer (λ refusal. (refusal.number ≤ 16) × (refusal.place ≤ 0))
landing_fits f l tally = (refl, of_answer (landing_outcome f l tally).answer refl)
  where
    of_answer : (answer : Result Unit (Refusal ℕ)) → (landing_outcome f l tally).answer ≡ answer
        → IfErr answer (λ refusal. (refusal.number ≤ 16) × (refusal.place ≤ 0))
    of_answer (Ok counted) told = tt
    of_answer (Err refusal) told = landing_small f l tally refusal.number refusal.place told
