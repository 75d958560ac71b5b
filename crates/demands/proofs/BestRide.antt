-- The best ride of a row, as the list of weighed rows has it. Assumes nothing.
use Prim.Native.Nat.{ℕ, suc, ◌≤◌, ◌<◌}
use native.Mathlib.Nat.{zero-add, lt_of_not-le}
use mathlib.Core.List.{List, [], ◌∷◌}
use mathlib.Core.Option.{none, some}
use mathlib.Core.Path.{◌≡◌, refl, sym, ap, subst, ◌∙◌}
use lib.ListN.{length, get_or-eq_default}
use Rattle.laws.proofs.Options.{absent}
use Rattle.timetable.specs.Timetable.{Timetable}
use Rattle.timetable.specs.declared.Row.{Row}
use Rattle.plans.specs.declared.Goal.{Goal}
use Rattle.plans.specs.Worth.{Valued}
use Rattle.plans.specs.Chosen.{Aim, in_ticks, Weighed, scan, scanned, worth_of}
use Rattle.plans.specs.FromRow.{scan_from}
use Rattle.demands.specs.Words.{best_ride, HasWorth}
use Rattle.plans.proofs.FromRow.{weighed_at}
use Rattle.plans.proofs.BestRides.{Boards, best_boards}
use Rattle.plans.proofs.EarliestSafe.{worth_is, worth_of_lem}
use Rattle.plans.proofs.InTicks.{best_in_ticks}

scan_length : (aim : Aim) (tables : List (List ℕ)) (i : ℕ) (rows : List Row)
    → length (scan aim tables i rows).weighed ≡ length rows
unfolding scan
scan_length aim tables i [] = refl
scan_length aim tables i (r ∷ rows) = ap suc (scan_length aim tables (suc i) rows)

module _ (t : Timetable) (goal : Goal) where
  -- the best ride of a row
  pub best_ride_lem : (i : ℕ) → i < length t.rows → best_ride t goal i ≡ best_in_ticks t goal i
  unfolding best_ride scanned scan_from
  best_ride_lem i h = weighed_at (in_ticks goal) t i 0 _ (subst (λ k. k < length t.rows) (sym (zero-add i)) h)
      ∙ ap (best_in_ticks t goal) (zero-add i)

  -- past the last row there is none
  pub best_past : (i : ℕ) → length t.rows ≤ i → best_ride t goal i ≡ none
  unfolding best_ride scanned
  best_past i h =
      ap (λ (w : Weighed). w.best)
      (get_or-eq_default (scanned (in_ticks goal) t).weighed _
      (subst (λ k. k ≤ i) (sym (scan_length (in_ticks goal) t.tables 0 t.rows)) h))

  -- a row with a worth is a row of the timetable, with a best ride of that worth
  pub record Weighs (j w : ℕ) : Type 0 where
    pub inside : j < length t.rows
    pub ride : Valued
    pub best : best_in_ticks t goal j ≡ some ride
    pub worth : ride.worth ≡ w
    pub at : Boards (in_ticks goal) t j ride

  pub weighs : (j w : ℕ) → HasWorth t goal j w → Weighs j w
  weighs j w h =
      let found = worth_is (best_ride t goal j) h in
      let inside : j < length t.rows = lt_of_not-le (λ past. absent (sym (best_past j past) ∙ found.1)) in
      let best = sym (best_ride_lem j inside) ∙ found.1 in
      record {
        inside = inside;
        ride = found.0;
        best = best;
        worth = found.2;
        at = best_boards (in_ticks goal) t j inside found.0 best;
      }

  pub has_worth : (j : ℕ) → j < length t.rows → (v : Valued) → best_in_ticks t goal j ≡ some v → HasWorth t goal j v.worth
  has_worth j h v e = ap worth_of (best_ride_lem j h ∙ e) ∙ worth_of_lem v
