-- Each chosen ride is worth what the chosen rides behind it give, and lands within the bound. Uses all that a sound timetable keeps.
use Prim.Native.Nat.{ℕ, suc, ◌≤◌, ◌<◌}
use native.Mathlib.Omega.{arith}
use mathlib.Core.Bool.{true, false}
use mathlib.Core.List.{List, Memᴰ}
use mathlib.Core.Logic.{◌≢◌}
use mathlib.Core.Option.{Option, some}
use mathlib.Core.Path.{◌≡◌, refl, sym, ap, subst, ◌∙◌}
use lib.ListN.{length}
use Rattle.laws.proofs.Downward.{downward}
use Rattle.timetable.specs.Timetable.{Timetable, row_of}
use Rattle.timetable.specs.declared.Row.{Row}
use Rattle.plans.specs.declared.Goal.{Goal}
use Rattle.plans.specs.Sound.{Timely}
use Rattle.plans.specs.Rides.{Ride, IsRide, lands_by, ready, boards}
use Rattle.plans.specs.Journeys.{within}
use Rattle.plans.specs.Worth.{Valued, first_open, arrival_worth, change_worth}
use Rattle.plans.specs.Chosen.{Aim, in_ticks, others, row_ride, boarded_at}
use Rattle.plans.proofs.Open.{boards_minute, too_late, first_further, found_member, found_boards}
use Rattle.plans.specs.FromRow.{chosen_from, best_at, off_at}
use Rattle.plans.proofs.FromRow.{chosen_row, chosen_end}
use Rattle.plans.proofs.Choice.{Choice, worthless, at_target, behind, added, choice, others_first}
use Rattle.plans.proofs.BestRides.{best_boards, best_is_ride, each_best, chosen_picked}
use Rattle.plans.proofs.FirstLeast.{chosen_rising}
use Rattle.plans.proofs.RideMinutes.{ride_delays, departs_before, leaves_before}
use Rattle.plans.proofs.InTicks.{chosen_in_ticks, best_in_ticks, Off, arrives, goes_on, off_is, off_worth, within_earlier}
use Rattle.plans.proofs.OwnWorth.{Moves, OwnWorth, nobody, ahead_of, others_own}

-- choosing a row that can't be boarded changes nothing for who would board
pub choice_passed :
    (aim : Aim) {best : Option Valued} {old new : List Valued} → Choice aim old best new → (s m : ℕ)
    → ((v : Valued) → best ≡ some v → boards v.ride s m ≡ false) → first_open new s m ≡ first_open old s m
choice_passed aim worthless s m shut = refl
choice_passed aim (at_target p) s m shut = refl
choice_passed aim (behind p) s m shut = refl
choice_passed aim {old = old} (added {v = v} apart lead) s m shut =
    first_further v (others v.ride old) s m (shut v refl) ∙ others_first v.ride old s m (shut v refl)

module _ (t : Timetable) (timely : Timely t) where
  pub ride_moves : (r : Ride) → IsRide t r → Moves r
  ride_moves r is = record { forward = departs_before t timely r is; delays = ride_delays t timely r is }

  module _ (aim : Aim) where
    -- a row that has left is passed over
    row_passed :
        (i : ℕ) → i < length t.rows → (s m : ℕ) → (row_of t.rows i).departure < m
        → first_open (chosen_from aim t i) s m ≡ first_open (chosen_from aim t (suc i)) s m
    row_passed i h s m gone =
        ap (λ (l : List Valued). first_open l s m) (chosen_row aim t i h)
        ∙ choice_passed aim (choice aim (best_at aim t i) (chosen_from aim t (suc i))) s m
        (λ v e. too_late v.ride s m (subst (λ k. k < m) (sym (best_boards aim t i h v e).minute) gone))

    -- and so are all rows up to one that has left
    pub rows_passed :
        (j : ℕ) → j < length t.rows → (s m : ℕ) → (row_of t.rows j).departure < m → (i : ℕ) → i ≤ suc j
        → first_open (chosen_from aim t i) s m ≡ first_open (chosen_from aim t (suc j)) s m
    rows_passed j h s m gone =
        downward (λ i. first_open (chosen_from aim t i) s m ≡ first_open (chosen_from aim t (suc j)) s m) (suc j) refl
        (λ i k later. row_passed i (let z : i < length t.rows = omega arith in z) s m
        (let z : (row_of t.rows i).departure < m = omega (arith, timely.rising i j (let y : i ≤ j = omega arith in y) h) in z) ∙ later)

    -- who lands after a ride finds the same chosen rows, whether from the start or from behind its last row
    pub landing_sees :
        (r : Ride) → IsRide t r → (i : ℕ) → i ≤ suc r.leave → (s m : ℕ) → r.arrives ≤ m
        → first_open (chosen_from aim t i) s m ≡ first_open (chosen_from aim t (suc r.leave)) s m
    landing_sees r is i h s m late =
        rows_passed r.leave is.inside s m
        (let z : (row_of t.rows r.leave).departure < m = omega (arith, leaves_before t timely r is) in z) i h

  module _ (goal : Goal) where
    off_boarded : (i : ℕ) (row : Row) (r : Ride) (vs : List Valued) (w : ℕ) → Off goal r vs w → Off goal (boarded_at i row r) vs w
    unfolding arrival_worth change_worth
    off_boarded i row r vs w (arrives e b) = arrives e b
    off_boarded i row r vs w (goes_on away e) = goes_on away e

    -- each best ride gets off where its last row lands
    pub best_off :
        (i : ℕ) → i < length t.rows → (v : Valued) → best_in_ticks t goal i ≡ some v
        → Off goal v.ride (chosen_in_ticks t goal (suc v.ride.leave)) v.worth
    unfolding off_at
    best_off =
        each_best (in_ticks goal) t
        (λ v. Off goal v.ride (chosen_in_ticks t goal (suc v.ride.leave)) v.worth) (λ i h _ w e. off_is goal _ _ w e)
        (λ i j a b s u e o. off_boarded i (row_of t.rows i) u.ride _ u.worth o)

    -- each best ride has a + M within the bound
    pub best_within :
        (i : ℕ) → i < length t.rows → (v : Valued) → best_in_ticks t goal i ≡ some v → within goal.bound (lands_by v.ride) ≡ true
    unfolding off_at
    best_within =
        each_best (in_ticks goal) t (λ v. within goal.bound (lands_by v.ride) ≡ true)
        (λ i h later w e. landing i h later w (off_is goal _ _ w e)) (λ i j a b s u e o. o)
      where
        landing :
            (i : ℕ) → i < length t.rows
            → ((u : Valued) → Memᴰ u (chosen_in_ticks t goal (suc i)) → within goal.bound (lands_by u.ride) ≡ true) → (w : ℕ)
            → Off goal (row_ride t.tables i (row_of t.rows i)) (chosen_in_ticks t goal (suc i)) w
            → within goal.bound (lands_by (row_ride t.tables i (row_of t.rows i))) ≡ true
        landing i h later w (arrives e b) = b
        landing i h later w (goes_on {u = u} away e) =
            let there = found_member _ _ _ e in
            let p = chosen_picked (in_ticks goal) t (suc i) h u there in
            let a : u.ride.departs < u.ride.arrives = departs_before t timely u.ride
            (best_is_ride (in_ticks goal) t u.ride.board p.inside u p.best) in
            within_earlier goal.bound _ (lands_by u.ride) (omega (arith, boards_minute u.ride _ _ (found_boards _ _ _ e))) (later u there)

    -- each chosen ride is worth what those behind it give
    chosen_next :
        (i : ℕ) → i < length t.rows → OwnWorth goal.gate goal.target (chosen_in_ticks t goal (suc i)) → (best : Option Valued) (chosen : List Valued)
        → best_in_ticks t goal i ≡ best → Choice (in_ticks goal) (chosen_in_ticks t goal (suc i)) best chosen → OwnWorth goal.gate goal.target chosen
    chosen_next i h own best chosen e worthless = own
    chosen_next i h own best chosen e (at_target p) = own
    chosen_next i h own best chosen e (behind p) = own
    chosen_next i h own best chosen e (added {v = v} apart lead) =
        let aim = in_ticks goal in
        let is = best_is_ride aim t i h v e in
        let at = best_boards aim t i h v e in
        let moves = ride_moves v.ride is in
        let later = chosen_from aim t (suc i) in
        let landing = best_off i h v e in
        ahead_of goal.gate goal.target v (chosen_from aim t (suc v.ride.leave)) (others v.ride later) moves
        (λ m late _. others_first v.ride later v.ride.to m (too_late v.ride v.ride.to m (omega (arith, moves.forward)))
        ∙ landing_sees aim v.ride is (suc i) (omega (arith, is.onward, at.row)) v.ride.to m (let z : v.ride.arrives ≤ m = omega arith in z))
        (sym (off_worth goal v.ride _ v.worth landing)) (goes landing)
        (others_own goal.gate goal.target v.ride later
        (λ x m. subst (λ k. k ≤ x.ride.departs) (sym at.minute)
        (chosen_rising aim t timely i (suc i) (let z : i ≤ suc i = omega arith in z) h x m)) own)
      where
        goes : {vs : List Valued} {w : ℕ} → Off goal v.ride vs w → v.ride.to ≢ goal.target
            → (safe : Valued) × (first_open vs v.ride.to (ready goal.gate (lands_by v.ride)) ≡ some safe)
        goes (arrives q b) away = absurd (away q)
        goes (goes_on {u = u} _ q) away = (u, q)

    pub chosen_own : (i : ℕ) → i ≤ length t.rows → OwnWorth goal.gate goal.target (chosen_in_ticks t goal i)
    chosen_own =
        downward (λ i. OwnWorth goal.gate goal.target (chosen_in_ticks t goal i)) (length t.rows)
        (subst (λ (l : List Valued). OwnWorth goal.gate goal.target l) (sym (chosen_end (in_ticks goal) t)) nobody)
        (λ i h own. subst (λ (l : List Valued). OwnWorth goal.gate goal.target l) (sym (chosen_row (in_ticks goal) t i h))
        (chosen_next i h own _ _ refl (choice (in_ticks goal) (best_in_ticks t goal i) (chosen_in_ticks t goal (suc i)))))
