-- Rows that a plan can do without.
use Rattle.std.specs.Prelude.{ℕ, ◌≤◌, [], ◌≡◌, length}
use Rattle.std.proofs.Math.Option.{none}
use Rattle.timetable.specs.Timetable.{Timetable}
use Rattle.plans.specs.Chosen.{Aim}
use Rattle.plans.specs.FromRow.{chosen_from, next_from}

-- rows from `end` on that are worth nothing might as well not be there
pub record Idle (aim : Aim) (t : Timetable) (end : ℕ) : Type 0 where
  pub inside : end ≤ length t.rows
  pub none_chosen : chosen_from aim t end ≡ []
  pub no_next : (trip : ℕ) → next_from aim t end trip ≡ none
