-- Staying aboard: a row is worth no more than a later row of its trip. Assumes nothing.
use Prim.Native.Nat.{ℕ, suc, ◌≤◌, ◌<◌}
use native.Mathlib.Nat.{eq-or-lt_of_le}
use native.Mathlib.Omega.{arith}
use mathlib.Core.Bool.{cond}
use mathlib.Core.List.{List}
use mathlib.Core.Logic.{◌⊎◌, inl, inr}
use mathlib.Core.Option.{Option, some}
use mathlib.Core.Path.{◌≡◌, refl, sym, ap, subst, ◌∙◌}
use lib.Dec.{eqb}
use lib.ListN.{length}
use borrow.Author.Tests.{eqb-true, eqb-false}
use Rattle.laws.proofs.Tests.{ifb}
use Rattle.laws.proofs.Downward.{downward}
use Rattle.timetable.specs.Timetable.{Timetable, row_of}
use Rattle.timetable.specs.declared.Row.{Row}
use Rattle.plans.specs.Rides.{Ride, IsRide}
use Rattle.plans.specs.Worth.{Valued}
use Rattle.plans.specs.Chosen.{Aim, GettingOff, get_off, stay_on, row_ride, boarded_at}
use Rattle.plans.proofs.AtMost.{AtMost, at_most, least_left, least_right}
use Rattle.plans.specs.FromRow.{chosen_from, best_at, next_from, off_at}
use Rattle.plans.proofs.FromRow.{next_row, best_row_lem}

stay_at_most : (i : ℕ) (r : Row) {o : Option Valued} {w : ℕ} → AtMost o w → AtMost (stay_on i r o) w
unfolding stay_on
stay_at_most i r (at_most h) = at_most h

off_at_most : (r : Ride) (o : Option ℕ) {w : ℕ} → o ≡ some w → AtMost (get_off r o) w
unfolding get_off
off_at_most r o {w} e = subst (λ (x : Option ℕ). AtMost (get_off r x) w) (sym e) (at_most (let z : w ≤ w = omega arith in z))

-- getting off asks where and when a ride lands and for its delays, and not where it was boarded
abbrev pub AsLanded : GettingOff → Type 0
AsLanded off = (i : ℕ) (row : Row) (r : Ride) (behind : List Valued) → off (boarded_at i row r) behind ≡ off r behind

module _ (aim : Aim) (t : Timetable) where
  -- getting off where the row lands
  pub row_off : (i w : ℕ) → off_at aim t i ≡ some w → AtMost (best_at aim t i) w
  row_off i w e = subst (λ (o : Option Valued). AtMost o w) (sym (best_row_lem aim t i)) (least_left _ (off_at_most _ (off_at aim t i) e))

  row_on : (i w : ℕ) → AtMost (next_from aim t (suc i) (row_of t.rows i).trip) w → AtMost (best_at aim t i) w
  row_on i w a =
      subst (λ (o : Option Valued). AtMost o w) (sym (best_row_lem aim t i))
      (least_right (get_off (row_ride t.tables i (row_of t.rows i)) (off_at aim t i)) (stay_at_most i (row_of t.rows i) a))

  next_at_most :
      (j w : ℕ) → j < length t.rows → AtMost (best_at aim t j) w → (i : ℕ) → i ≤ length t.rows → i ≤ j
      → AtMost (next_from aim t i (row_of t.rows j).trip) w
  next_at_most j w inside a =
      downward (λ i. i ≤ j → AtMost (next_from aim t i trip) w) (length t.rows) (λ k. absurd (let z : ⊥ = omega arith in z))
      (λ i h later k. subst (λ (o : Option Valued). AtMost o w) (sym (next_row aim t i trip h))
      (ifb (λ b. eqb (row_of t.rows i).trip trip ≡ b → AtMost (cond b (best_at aim t i) (next_from aim t (suc i) trip)) w)
      (eqb (row_of t.rows i).trip trip)
      (λ e _. one_trip i (eqb-true (row_of t.rows i).trip trip e) later (eq-or-lt_of_le k))
      (λ e _. later (another i (eqb-false (row_of t.rows i).trip trip e) (eq-or-lt_of_le k))) refl))
    where
      trip : ℕ
      trip = (row_of t.rows j).trip

      one_trip :
          (i : ℕ) → (row_of t.rows i).trip ≡ trip → (suc i ≤ j → AtMost (next_from aim t (suc i) trip) w) → (i ≡ j) ⊎ (i < j)
          → AtMost (best_at aim t i) w
      one_trip i same later (inl e) = subst (λ k. AtMost (best_at aim t k) w) (sym e) a
      one_trip i same later (inr b) = row_on i w (subst (λ k. AtMost (next_from aim t (suc i) k) w) (sym same) (later b))

      another : (i : ℕ) → ((row_of t.rows i).trip ≡ trip → ⊥) → (i ≡ j) ⊎ (i < j) → suc i ≤ j
      another i other (inl e) = absurd (other (ap (λ k. (row_of t.rows k).trip) e))
      another i other (inr b) = b

  pub stay_on_lem :
      (i j w : ℕ) → i ≤ j → j < length t.rows → (row_of t.rows i).trip ≡ (row_of t.rows j).trip → AtMost (best_at aim t j) w
      → AtMost (best_at aim t i) w
  stay_on_lem i j w a inside same best = step (eq-or-lt_of_le a)
    where
      step : (i ≡ j) ⊎ (i < j) → AtMost (best_at aim t i) w
      step (inl e) = subst (λ k. AtMost (best_at aim t k) w) (sym e) best
      step (inr b) =
          row_on i w (subst (λ k. AtMost (next_from aim t (suc i) k) w) (sym same)
          (next_at_most j w inside best (suc i) (let z : suc i ≤ length t.rows = omega arith in z) b))

  -- getting off after a ride is getting off where its last row lands
  pub ride_off : AsLanded aim.off → (r : Ride) → IsRide t r → off_at aim t r.leave ≡ aim.off r (chosen_from aim t (suc r.leave))
  unfolding off_at
  ride_off landed r is =
      sym (ap (λ (x : Ride). aim.off x (chosen_from aim t (suc r.leave))) is.as_timed
      ∙ landed r.board (row_of t.rows r.board) (row_ride t.tables r.leave (row_of t.rows r.leave))
      (chosen_from aim t (suc r.leave)))

  -- what getting off after a ride is worth bounds what its boarding row is worth
  pub ride_at_most : (r : Ride) → IsRide t r → AsLanded aim.off → (w : ℕ) → aim.off r (chosen_from aim t (suc r.leave)) ≡ some w
      → AtMost (best_at aim t r.board) w
  ride_at_most r is landed w e = stay_on_lem r.board r.leave w is.onward is.inside is.one_trip
      (row_off r.leave w (ride_off landed r is ∙ e))
