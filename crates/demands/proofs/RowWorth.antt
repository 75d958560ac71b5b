-- A row's worth, and where its ride leaves, are what document 01's words say. Uses rising departures and rows that arrive after they depart.
use Prim.Native.Nat.{ℕ, suc, zero-le, ◌≤◌, ◌<◌}
use native.Mathlib.Nat.{eq-or-lt_of_le, le_of_eq, lt_of_not-le}
use native.Mathlib.Omega.{arith}
use mathlib.Core.List.{List}
use mathlib.Core.Logic.{⊎_elim, ◌↔◌}
use mathlib.Core.Option.{none, some}
use mathlib.Core.Path.{◌≡◌, refl, sym, ap, ap₂, subst, ◌∙◌}
use lib.Dec.{eqb}
use lib.ListN.{length}
use borrow.Author.Tests.{eqb-true, eqb-false, eq-eqb, ne_eqb}
use Rattle.laws.proofs.Options.{absent, present_or_absent}
use Rattle.laws.proofs.Tests.{ifb, T_true, true_T, cond_true, cond_false}
use Rattle.laws.proofs.Downward.{downward, from_greater}
use Rattle.timetable.specs.Timetable.{Timetable, row_of}
use Rattle.plans.specs.declared.Goal.{Goal}
use Rattle.plans.specs.Sound.{Timely}
use Rattle.plans.specs.Rides.{Ride, IsRide, ride_of, lands_by, ready}
use Rattle.plans.specs.Worth.{Valued, first_open, change_worth}
use Rattle.plans.specs.Chosen.{Aim, in_ticks, worth_of}
use Rattle.plans.specs.Plan.{chosen_for}
use Rattle.demands.specs.Words.{HasWorth, best_ride}
use Rattle.plans.specs.Trips.{NextOfTrip}
use Rattle.demands.specs.RowWords.{OpenWay, off_at_target, off_elsewhere, staying_on, LeastWay, StaysAboard}
use Rattle.plans.proofs.Open.{finds, found_member, found_boards}
use Rattle.plans.proofs.AtMost.{AtMost, is_at_most, worth_at_most, found_at_most}
use Rattle.plans.specs.FromRow.{best_at, next_from, off_at}
use Rattle.plans.proofs.FromRow.{next_row}
use Rattle.plans.proofs.BestRides.{FirstOf, first_here, first_later, Source, off_here, stays, best_source, best_boards, best_is_ride, row_is_ride}
use Rattle.plans.proofs.Staying.{row_off, stay_on_lem}
use Rattle.plans.proofs.RideMinutes.{ride_delays}
use Rattle.plans.proofs.EarliestSafe.{worth_of_lem}
use Rattle.plans.proofs.InTicks.{chosen_in_ticks, best_in_ticks, Off, arrives, goes_on, off_is, ticks_at_target, ticks_elsewhere}
use Rattle.plans.proofs.Weighing.{change_same}
use Rattle.plans.proofs.ChosenWorth.{landing_sees}
use Rattle.demands.proofs.BestRide.{best_ride_lem, weighs, has_worth}
use Rattle.plans.proofs.Made.{chosen_for_lem}

module _ (aim : Aim) (t : Timetable) where
  -- the trip's next row is what staying on leads to
  next_is_best : (i j : ℕ) → NextOfTrip t i j → next_from aim t (suc i) (row_of t.rows i).trip ≡ best_at aim t j
  next_is_best i j next =
      downward (λ k. suc i ≤ k → next_from aim t k trip ≡ best_at aim t j) j
      (λ _. next_row aim t j trip next.inside ∙ cond_true _ _ (eq-eqb (row_of t.rows j).trip trip next.one_trip))
      (λ k h further a. next_row aim t k trip (let z : k < length t.rows = omega (arith, next.inside) in z)
      ∙ cond_false _ _ (ne_eqb (row_of t.rows k).trip trip (next.first k a h)) ∙ further (let z : suc i ≤ suc k = omega arith in z))
      (suc i) next.later (let z : suc i ≤ suc i = omega arith in z)
    where
      trip : ℕ
      trip = (row_of t.rows i).trip

-- a row of a trip has the trip's first row from row k on before it, or is it
first_before_last :
    (t : Timetable) (trip last : ℕ) → last < length t.rows → (row_of t.rows last).trip ≡ trip → (k : ℕ) → k ≤ last
    → (f : FirstOf t trip k) × (f.row ≤ last)
first_before_last t trip last inside same k h =
    let f = downward (λ k. FirstOf t trip k) last (first_here t trip last inside same)
    (λ k below further. ifb (λ b. eqb (row_of t.rows k).trip trip ≡ b → FirstOf t trip k) (eqb (row_of t.rows k).trip trip)
    (λ e _. first_here t trip k (let z : k < length t.rows = omega arith in z) (eqb-true (row_of t.rows k).trip trip e))
    (λ e _. first_later t trip k (eqb-false (row_of t.rows k).trip trip e) further) refl) k h in
    let by_last : f.row < suc last = lt_of_not-le (λ behind. f.first last h behind same) in (f, let z : f.row ≤ last = omega arith in z)

-- of two rides from one row that stay aboard alike, none leaves later
leaves_no_later :
    (t : Timetable) (goal : Goal) (v u : Valued) → IsRide t v.ride → IsRide t u.ride → v.ride.board ≡ u.ride.board → v.worth ≡ u.worth
    → StaysAboard t goal v → StaysAboard t goal u → u.ride.leave ≤ v.ride.leave
leaves_no_later t goal v u is is' board worth aboard aboard' =
    let not_later : u.ride.leave < suc v.ride.leave = lt_of_not-le
    (λ later. let same : (row_of t.rows u.ride.leave).trip ≡ (row_of t.rows v.ride.leave).trip = sym is'.one_trip
    ∙ ap (λ k. (row_of t.rows k).trip) (sym board) ∙ is.one_trip in
    let found = first_before_last t (row_of t.rows v.ride.leave).trip u.ride.leave is'.inside same (suc v.ride.leave) later in
    let next = found.0 in
    aboard.not_longer next.row (record { later = next.later; inside = next.inside; one_trip = next.one_trip; first = next.first })
    (subst (λ w. HasWorth t goal next.row w) (sym worth)
    (aboard'.while_equal next.row (let z : u.ride.board ≤ next.row = omega (arith, next.later, is.onward) in z) found.1
    (next.one_trip ∙ sym is.one_trip ∙ ap (λ k. (row_of t.rows k).trip) board)))) in
    omega arith

-- so they are one ride
pub aboard_alike :
    (t : Timetable) (goal : Goal) (v u : Valued) → IsRide t v.ride → IsRide t u.ride → v.ride.board ≡ u.ride.board → v.worth ≡ u.worth
    → StaysAboard t goal v → StaysAboard t goal u → v ≡ u
aboard_alike t goal v u is is' board worth aboard aboard' =
    let one : u.ride.leave ≤ v.ride.leave = leaves_no_later t goal v u is is' board worth aboard aboard' in
    let other : v.ride.leave ≤ u.ride.leave = leaves_no_later t goal u v is' is (sym board) (sym worth) aboard' aboard in
    let leave : v.ride.leave ≡ u.ride.leave = omega arith in
    let ride : v.ride ≡ u.ride = is.as_timed ∙ ap₂ (ride_of t) board leave ∙ sym is'.as_timed in
    ap₂ (λ (r : Ride) (w : ℕ). record { ride = r; worth = w }) ride worth

module _ (t : Timetable) (timely : Timely t) (goal : Goal) where
  -- who lands where row i does finds among all chosen rows what the scan finds behind the row
  landing_same : (i : ℕ) → i < length t.rows → (s m : ℕ) → (ride_of t i i).arrives ≤ m
      → first_open (chosen_for t goal) s m ≡ first_open (chosen_in_ticks t goal (suc i)) s m
  landing_same i h s m late =
      ap (λ (l : List Valued). first_open l s m) (chosen_for_lem t goal)
      ∙ landing_sees t timely (in_ticks goal) (ride_of t i i) (row_is_ride (in_ticks goal) t i h) 0 zero-le s m late

  change_all : (i : ℕ) → i < length t.rows → change_worth goal.gate (ride_of t i i) (chosen_for t goal)
      ≡ change_worth goal.gate (ride_of t i i) (chosen_in_ticks t goal (suc i))
  change_all i h =
      change_same goal.gate (ride_of t i i) _ _ (ride_delays t timely (ride_of t i i) (row_is_ride (in_ticks goal) t i h))
      (λ m late _. landing_same i h (ride_of t i i).to m (omega arith))

  -- each open way bounds the row's worth
  way_bounds : (i : ℕ) → i < length t.rows → (w : ℕ) → OpenWay t goal i w → AtMost (best_in_ticks t goal i) w
  unfolding off_at
  way_bounds i h w (off_at_target e b) = row_off (in_ticks goal) t i _ (ticks_at_target goal (ride_of t i i) _ e (T_true b))
  way_bounds i h w (off_elsewhere {safe = safe} away m b) =
      let found = finds (chosen_for t goal) (ride_of t i i).to (ready goal.gate (lands_by (ride_of t i i))) m (T_true b) in
      row_off (in_ticks goal) t i _
      (ticks_elsewhere goal (ride_of t i i) _ away found.0 (sym (landing_same i h _ _ (omega arith)) ∙ found.1)
      ∙ ap some (sym (change_all i h)))
  way_bounds i h w (staying_on {next = next} n worth) =
      let found = weighs t goal next w worth in
      stay_on_lem (in_ticks goal) t i next w (let z : i ≤ next = omega (arith, n.later) in z) n.inside (sym n.one_trip)
      (is_at_most found.best (le_of_eq found.worth))

  -- and the worth is that of one of them
  off_way : (i : ℕ) → i < length t.rows → (w : ℕ) → Off goal (ride_of t i i) (chosen_in_ticks t goal (suc i)) w
      → OpenWay t goal i w
  off_way i h w (arrives e b) = off_at_target e (true_T b)
  off_way i h w (goes_on {u = u} away e) =
      let all = landing_same i h (ride_of t i i).to (ready goal.gate (lands_by (ride_of t i i))) (let z : (ride_of t i i).arrives ≤ ready goal.gate (lands_by (ride_of t i i)) = omega arith in z)
      ∙ e in
      subst (λ x. OpenWay t goal i x) (change_all i h)
      (off_elsewhere {safe = u} away (found_member _ _ _ all) (true_T (found_boards _ _ _ all)))

  source_way : (i : ℕ) → i < length t.rows → (v : Valued) → Source (in_ticks goal) t i v → OpenWay t goal i v.worth
  unfolding off_at
  source_way i h v (off_here {w = w} e dearer) = off_way i h w (off_is goal _ _ w e)
  source_way i h v (stays {u = u} {j = j} next e) = staying_on next (has_worth t goal j next.inside u e)

  pub worth_in_words : (i : ℕ) → i < length t.rows → (w : ℕ) → HasWorth t goal i w ↔ LeastWay t goal i w
  worth_in_words i h w = (
    λ worth. let found = weighs t goal i w worth in
        record {
          reached = subst (λ x. OpenWay t goal i x) found.worth
              (source_way i h found.ride (best_source (in_ticks goal) t i h found.ride found.best));
          least = λ other way. subst (λ x. x ≤ other) found.worth (worth_at_most (way_bounds i h other way) found.ride found.best);
        },
    λ way. found_at_most (HasWorth t goal i w) (way_bounds i h w way.reached)
        (λ v e under. let above : w ≤ v.worth = way.least v.worth (source_way i h v (best_source (in_ticks goal) t i h v e)) in
        subst (λ x. HasWorth t goal i x) (let z : v.worth ≡ w = omega arith in z) (has_worth t goal i h v e)),
  )

  -- It has no worth if none of these is open
  pub no_worth : (i : ℕ) → i < length t.rows → (best_ride t goal i ≡ none) ↔ ((w : ℕ) → OpenWay t goal i w → ⊥)
  no_worth i h = (
    λ e w way. found_at_most ⊥ (way_bounds i h w way) (λ v q _. absent {a = v} (sym e ∙ best_ride_lem t goal i h ∙ q)),
    λ shut. present_or_absent (best_ride t goal i ≡ none) (best_ride t goal i) (λ e. e)
        (λ v e. absurd (shut v.worth
        (source_way i h v (best_source (in_ticks goal) t i h v (sym (best_ride_lem t goal i h) ∙ e))))),
  )

  aboard_by :
      (i : ℕ) → i < length t.rows
      → ((j : ℕ) → i < j → j < length t.rows → (u : Valued) → best_in_ticks t goal j ≡ some u → StaysAboard t goal u)
      → (v : Valued) → best_in_ticks t goal i ≡ some v → Source (in_ticks goal) t i v → StaysAboard t goal v
  aboard_by i h later v best (off_here {w = w} e dearer) =
      record {
        while_equal = λ j a b _. subst (λ k. HasWorth t goal k w) (let z : i ≡ j = omega arith in z) (has_worth t goal i h v best);
        not_longer =
            λ next n worth. let found = weighs t goal next w worth in
            let c : w < found.ride.worth = dearer found.ride (next_is_best (in_ticks goal) t i next n ∙ found.best) in
            let z : ⊥ = omega (arith, found.worth) in z;
      }
  aboard_by i h later v best (stays {u = u} {j = j} next e) =
      let further = later j next.later next.inside u e in
      let row : u.ride.board ≡ j = (best_boards (in_ticks goal) t j next.inside u e).row in
      record {
        while_equal =
            λ k a b same. ⊎_elim (λ q. subst (λ x. HasWorth t goal x v.worth) q (has_worth t goal i h v best))
            (λ c. further.while_equal k
            (let d : j < suc k = lt_of_not-le (λ before. next.first k c before same) in let z : u.ride.board ≤ k = omega arith in z) b
            (same ∙ sym next.one_trip ∙ ap (λ x. (row_of t.rows x).trip) (sym row))) (eq-or-lt_of_le a);
        not_longer = further.not_longer;
      }

  -- the best ride stays aboard while the worths are equal, and no longer
  pub stays_aboard : (i : ℕ) → i < length t.rows → (v : Valued) → best_ride t goal i ≡ some v → StaysAboard t goal v
  stays_aboard i h v e = all i h v (sym (best_ride_lem t goal i h) ∙ e)
    where
      all : (i : ℕ) → i < length t.rows → (v : Valued) → best_in_ticks t goal i ≡ some v → StaysAboard t goal v
      all =
          from_greater (λ i. (v : Valued) → best_in_ticks t goal i ≡ some v → StaysAboard t goal v) (length t.rows)
          (λ i h later v e. aboard_by i h later v e (best_source (in_ticks goal) t i h v e))

  -- the best ride of a row is the ride from there that has the row's worth and stays aboard so
  pub ride_in_words :
      (i : ℕ) (v : Valued) → (best_ride t goal i ≡ some v)
      ↔ (IsRide t v.ride × (v.ride.board ≡ i) × HasWorth t goal i v.worth × StaysAboard t goal v)
  ride_in_words i v = (
    λ e. let worth : HasWorth t goal i v.worth = ap worth_of e ∙ worth_of_lem v in
        let found = weighs t goal i v.worth worth in
        let best : best_in_ticks t goal i ≡ some v = sym (best_ride_lem t goal i found.inside) ∙ e in (
          best_is_ride (in_ticks goal) t i found.inside v best,
          (best_boards (in_ticks goal) t i found.inside v best).row,
          worth,
          stays_aboard i found.inside v e,
        ),
    λ words. let found = weighs t goal i v.worth words.2 in
        let best : best_ride t goal i ≡ some found.ride = best_ride_lem t goal i found.inside ∙ found.best in
        best ∙ ap some (aboard_alike t goal found.ride v (best_is_ride (in_ticks goal) t i found.inside found.ride found.best) words.0
        (found.at.row ∙ sym words.1) found.worth (stays_aboard i found.inside found.ride best) words.3),
  )
