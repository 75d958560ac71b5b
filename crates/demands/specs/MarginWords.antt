-- Document 02, E1: its own words for which rows are chosen, whatever the margin.
use Rattle.std.specs.Prelude.{ℕ, suc, ◌+◌, ◌≤◌, ◌<◌, ◌≢◌, ◌≡◌}
use Rattle.std.proofs.Math.Option.{some}
use Rattle.timetable.specs.Timetable.{Timetable}
use Rattle.plans.specs.declared.Goal.{Goal}
use Rattle.plans.specs.Worth.{Valued}
use Rattle.plans.specs.Chosen.{in_ticks, first_at}
use Rattle.plans.specs.FromRow.{chosen_from}
use Rattle.demands.specs.Words.{best_ride}

-- v is the stop's first chosen row when the rows from row i on have been taken
abbrev pub CurrentFirst : Timetable → Goal → (i stop : ℕ) → Valued → Type 0
CurrentFirst t goal i stop v = first_at (chosen_from (in_ticks goal) t i) stop ≡ some v

-- Rows are taken from last to first; one is chosen only if its worth is at most that of the stop's current first chosen row minus the
-- margin, or if the stop has none yet. No row boarding at the target is chosen
pub record Gains (t : Timetable) (goal : Goal) (v : Valued) : Type 0 where
  pub its_ride : best_ride t goal v.ride.board ≡ some v
  pub not_at_target : v.ride.from ≢ goal.target
  pub gained : (current : Valued) → CurrentFirst t goal (suc v.ride.board) v.ride.from current → v.worth + goal.margin ≤ current.worth

-- in the same minute it replaces that row
pub record ChosenBy (t : Timetable) (goal : Goal) (v : Valued) : Type 0 where
  pub gains : Gains t goal v
  pub not_replaced :
      (u : Valued) → Gains t goal u → u.ride.board < v.ride.board → u.ride.from ≡ v.ride.from → u.ride.departs ≢ v.ride.departs
