-- Getting off, in ticks: when it is open and what it is worth. Assumes nothing.
use Prim.Native.Nat.{ℕ, ◌≤◌}
use native.Mathlib.Omega.{arith}
use mathlib.Core.Bool.{true, cond}
use mathlib.Core.List.{List}
use mathlib.Core.Logic.{◌⊎◌, inl, inr, ◌≢◌}
use mathlib.Core.Option.{Option, none, some}
use mathlib.Core.Path.{◌≡◌, refl, ap, subst, ◌∙◌}
use lib.Dec.{eqb, leb}
use borrow.Author.Tests.{eqb-true, eqb-false, eq-eqb, ne_eqb, leb-true, le-leb}
use Rattle.laws.proofs.Options.{absent, same_thing}
use Rattle.laws.proofs.Tests.{ifb, either, cond_true, cond_false}
use Rattle.laws.proofs.Alternatives.{or_left, or_right}
use Rattle.timetable.specs.Timetable.{Timetable}
use Rattle.plans.specs.declared.Goal.{Goal}
use Rattle.plans.specs.Rides.{Ride, lands_by, ready}
use Rattle.plans.specs.Journeys.{within}
use Rattle.plans.specs.Worth.{Valued, first_open, arrival_worth, change_worth, land_worth}
use Rattle.plans.specs.Chosen.{in_ticks, off_in_ticks, when_safe}
use Rattle.plans.specs.FromRow.{chosen_from, best_at}
use Rattle.plans.proofs.Staying.{AsLanded}

-- in ticks, the chosen rows from row i on and the best ride of row i
abbrev pub chosen_in_ticks : Timetable → Goal → (i : ℕ) → List Valued
chosen_in_ticks t goal i = chosen_from (in_ticks goal) t i

abbrev pub best_in_ticks : Timetable → Goal → (i : ℕ) → Option Valued
best_in_ticks t goal i = best_at (in_ticks goal) t i

-- what lies within the bound, so do earlier minutes
pub within_earlier : (bound a b : ℕ) → a ≤ b → within bound b ≡ true → within bound a ≡ true
within_earlier bound a b h e = step (either (eqb bound 0) (leb b bound) e)
  where
    step : (eqb bound 0 ≡ true) ⊎ (leb b bound ≡ true) → within bound a ≡ true
    step (inl p) = or_left (eqb bound 0) (leb a bound) p
    step (inr p) = or_right (eqb bound 0) (leb a bound) (le-leb a bound (let z : b ≤ bound = leb-true b bound p in omega arith))

module _ (goal : Goal) where
  pub ticks_landed : AsLanded (off_in_ticks goal)
  unfolding off_in_ticks arrival_worth change_worth
  ticks_landed i row r behind = refl

  pub ticks_at_target :
      (r : Ride) (behind : List Valued) → r.to ≡ goal.target → within goal.bound (lands_by r) ≡ true
      → off_in_ticks goal r behind ≡ some (arrival_worth r)
  unfolding off_in_ticks
  ticks_at_target r behind e b = cond_true _ _ (eq-eqb r.to goal.target e) ∙ cond_true (some (arrival_worth r)) none b

  pub ticks_elsewhere :
      (r : Ride) (behind : List Valued) → r.to ≢ goal.target → (u : Valued) → first_open behind r.to (ready goal.gate (lands_by r)) ≡ some u
      → off_in_ticks goal r behind ≡ some (change_worth goal.gate r behind)
  unfolding off_in_ticks when_safe
  ticks_elsewhere r behind away u e =
      cond_false _ _ (ne_eqb r.to goal.target away) ∙ ap (λ (o : Option Valued). when_safe o (change_worth goal.gate r behind)) e

  -- the two ways in which getting off is open
  pub data Off (r : Ride) (behind : List Valued) : ℕ → Type 0 where
    arrives : r.to ≡ goal.target → within goal.bound (lands_by r) ≡ true → Off r behind (arrival_worth r)
    goes_on : {u : Valued} → r.to ≢ goal.target → first_open behind r.to (ready goal.gate (lands_by r)) ≡ some u → Off r behind (change_worth goal.gate r behind)

  pub off_is : (r : Ride) (behind : List Valued) (w : ℕ) → off_in_ticks goal r behind ≡ some w → Off r behind w
  unfolding off_in_ticks when_safe
  off_is r behind w e =
      ifb (λ b. eqb r.to goal.target ≡ b
      → cond b (cond (within goal.bound (lands_by r)) (some (arrival_worth r)) none) (when_safe next (change_worth goal.gate r behind)) ≡ some w → Off r behind w)
      (eqb r.to goal.target)
      (λ q _ k. ifb (λ b. within goal.bound (lands_by r) ≡ b → cond b (some (arrival_worth r)) none ≡ some w → Off r behind w)
      (within goal.bound (lands_by r))
      (λ p _ l. subst (λ x. Off r behind x) (same_thing l) (arrives (eqb-true r.to goal.target q) p)) (λ _ _ l. absent l) refl k)
      (λ q _ k. safe (eqb-false r.to goal.target q) next refl k) refl e
    where
      next : Option Valued
      next = first_open behind r.to (ready goal.gate (lands_by r))

      safe : r.to ≢ goal.target → (o : Option Valued) → next ≡ o → when_safe o (change_worth goal.gate r behind) ≡ some w → Off r behind w
      safe away none p l = absent l
      safe away (some u) p l = subst (λ x. Off r behind x) (same_thing l) (goes_on away p)

  -- either way it is worth what landing is worth
  pub off_worth : (r : Ride) (behind : List Valued) (w : ℕ) → Off r behind w → land_worth goal.gate goal.target r behind ≡ w
  unfolding land_worth
  off_worth r behind w (arrives e b) = cond_true (arrival_worth r) (change_worth goal.gate r behind) (eq-eqb r.to goal.target e)
  off_worth r behind w (goes_on away e) = cond_false (arrival_worth r) (change_worth goal.gate r behind) (ne_eqb r.to goal.target away)
