-- What a margin can cost: against any safe plan, less than the margin a ride along its longest way. Uses all that a sound timetable keeps.
use Prim.Native.Nat.{ℕ, suc, zero-le, ◌+◌, ◌-◌, ◌*◌, ◌≤◌}
use native.Mathlib.Nat.{mul-le-mul_left, le_refl}
use native.Mathlib.Omega.{arith}
use mathlib.Core.Bool.{true, false, cond}
use mathlib.Core.List.Memᴰ
use mathlib.Core.List.{List, [], ◌∷◌, Memᴰ}
use mathlib.Core.Logic.{◌≢◌}
use mathlib.Core.Option.{Option, some}
use mathlib.Core.Path.{◌≡◌, refl, sym, ap, subst, ◌∙◌}
use lib.Dec.{eqb}
use borrow.Author.Tests.{eqb-true, eqb-false, eq-eqb, ne_eqb}
use Rattle.laws.proofs.Tests.{ifb, cond_true, cond_false, T_true}
use Rattle.timetable.specs.Timetable.{Timetable}
use Rattle.timetable.specs.Classes.{share_total}
use Rattle.timetable.specs.Ticks.{ticks_a_minute, quotient_up}
use Rattle.query.specs.declared.Query.{Query}
use Rattle.plans.specs.declared.Goal.{Goal}
use Rattle.plans.specs.Sound.{Timely}
use Rattle.plans.specs.Rides.{Ride, IsRide, lands_by, ready, boards}
use Rattle.plans.specs.Journeys.{goal_of, within, ready_at}
use Rattle.plans.specs.Worth.{Valued, weigh, first_open, caught, worth_or, land_worth, arrival_worth, change_worth}
use Rattle.plans.specs.Chosen.{Aim, in_ticks}
use Rattle.plans.specs.FromRow.{chosen_from}
use Rattle.plans.specs.Plan.{Plan}
use Rattle.demands.specs.SafePlan.{SafePlan, sorted, expected_of}
use Rattle.demands.specs.Walk.{Standing, undelayed, start, longest_way}
use Rattle.plans.proofs.Open.{boards_stop}
use Rattle.plans.proofs.AtMost.{AtMost, found_at_most}
use Rattle.plans.proofs.Staying.{ride_at_most}
use Rattle.plans.proofs.RideMinutes.{ride_first, ride_delays}
use Rattle.plans.proofs.ChosenWorth.{landing_sees}
use Rattle.plans.proofs.InTicks.{best_in_ticks, ticks_landed, ticks_at_target, ticks_elsewhere}
use Rattle.plans.proofs.Weighing.{change_same}
use Rattle.plans.proofs.Made.{Made, chosen_for_lem}
use Rattle.demands.proofs.Means.{standing_worth, weigh_within, up_within, land_mean}
use Rattle.demands.proofs.Forward.{Timed, Served, over, onward, Forward, served_sooner, served_behind, landing_latest}
use Rattle.demands.proofs.Course.{course}
use Rattle.demands.proofs.Sandwich.{worth_at, off, Landings, AtMostRides, worth_boards, worth_passes, worth_over, most_boarded, most_passed}
use Rattle.demands.proofs.Sorting.{safe_sorted, expected_sorted}
use Rattle.demands.proofs.Walked.{forward, begins_served, begins_elsewhere, expected_worth, longest_most}

-- away from the target standing there is worth the first ride that can be boarded
standing_is :
    (gate target : ℕ) (vs : List Valued) (s m : ℕ) (v : Valued) → s ≢ target → first_open vs s (ready gate m) ≡ some v → standing_worth gate target vs s m ≡ v.worth
unfolding standing_worth caught worth_or
standing_is gate target vs s m v away e = cond_false (ticks_a_minute * m) (caught vs s (ready gate m)) (ne_eqb s target away) ∙ ap (worth_or 0) e

standing_over : (gate target : ℕ) (vs : List Valued) (s m : ℕ) → s ≡ target → standing_worth gate target vs s m ≡ ticks_a_minute * m
unfolding standing_worth
standing_over gate target vs s m there = cond_true (ticks_a_minute * m) (caught vs s (ready gate m)) (eq-eqb s target there)

module _ (t : Timetable) (timely : Timely t) (goal : Goal) where
  abbrev chosen : List Valued
  chosen = chosen_from (in_ticks goal) t 0

  abbrev slack : ℕ
  slack = goal.margin - 1

  -- a ride's boarding row is worth no more than the ride, if it goes on among the chosen rows
  pub ride_worth :
      (r : Ride) → IsRide t r → within goal.bound (lands_by r) ≡ true
      → (r.to ≢ goal.target → (u : Valued) × (first_open chosen r.to (ready goal.gate (lands_by r)) ≡ some u))
      → AtMost (best_in_ticks t goal r.board) (land_worth goal.gate goal.target r chosen)
  unfolding land_worth
  ride_worth r is b on =
      ifb (λ c. eqb r.to goal.target ≡ c → AtMost (best_in_ticks t goal r.board) (cond c (arrival_worth r) (change_worth goal.gate r chosen)))
      (eqb r.to goal.target)
      (λ e _. ride_at_most aim t r is (ticks_landed goal) (arrival_worth r) (ticks_at_target goal r _ (eqb-true r.to goal.target e) b))
      (λ e _. let away = eqb-false r.to goal.target e in
      let found = on away in
      ride_at_most aim t r is (ticks_landed goal) (change_worth goal.gate r chosen)
      (ticks_elsewhere goal r behind away found.0 (sym (sees (ready goal.gate (lands_by r)) (omega arith)) ∙ found.1)
      ∙ ap some (change_same goal.gate r behind chosen (ride_delays t timely r is) (λ m late _. sym (sees m (omega arith))))))
      refl
    where
      aim : Aim
      aim = in_ticks goal

      behind : List Valued
      behind = chosen_from aim t (suc r.leave)

      sees : (m : ℕ) → r.arrives ≤ m → first_open chosen r.to m ≡ first_open behind r.to m
      sees m late = landing_sees t timely aim r is 0 zero-le r.to m late

  -- one away from the target finds a chosen row; what it is worth there exceeds what the plan's rides give by the slack a ride still to come
  record Loses (rides : List Ride) (at : Standing) (most : ℕ) : Type 0 where
    found : at.stop ≢ goal.target → (v : Valued) × (first_open chosen at.stop (ready goal.gate at.minute) ≡ some v)
    loss :
        standing_worth goal.gate goal.target chosen at.stop at.minute + slack * at.boarded
        ≤ worth_at goal.gate goal.target rides at + slack * most

  ends_there : (at : Standing) (most : ℕ) → at.stop ≡ goal.target → AtMostRides goal.gate [] at most → Loses [] at most
  unfolding course
  ends_there at most there within =
      record {
        found = λ away. absurd (away there);
        loss =
            omega (
              arith,
              standing_over goal.gate goal.target chosen at.stop at.minute there,
              worth_over goal.gate goal.target [] at there,
              mul-le-mul_left slack (within [] undelayed),
            );
      }

  -- the landings of a ride lose no more than the rides still to come, so the ride loses one more
  landings_lose :
      (r : Ride) (behind : List Ride) (at : Standing) (most : ℕ) → Timed goal.target r behind → boards r at.stop (ready goal.gate at.minute) ≡ true
      → Landings r (λ minute. Loses behind (off at r minute) most)
      → land_worth goal.gate goal.target r chosen + slack * suc at.boarded ≤ worth_at goal.gate goal.target (r ∷ behind) at + slack * most
  landings_lose r behind at most timed opens each =
      rw (land_mean goal.gate goal.target r chosen timed.full, worth_boards goal.gate goal.target r behind at timed opens)
      (up_within (weigh r.shares r.arrives ours) (weigh r.shares r.arrives theirs) (slack * suc at.boarded) (slack * most)
      (weigh_within r.shares r.arrives ours theirs (slack * suc at.boarded) (slack * most) timed.full
      (λ minute from below. (each minute from below).loss)))
    where
      ours : ℕ → ℕ
      ours = standing_worth goal.gate goal.target chosen r.to

      theirs : ℕ → ℕ
      theirs minute = worth_at goal.gate goal.target behind (off at r minute)

  board_loses :
      (r : Ride) (behind : List Ride) (at : Standing) (most : ℕ) → IsRide t r → within goal.bound (lands_by r) ≡ true
      → Timed goal.target r behind → boards r at.stop (ready goal.gate at.minute) ≡ true
      → Landings r (λ minute. Loses behind (off at r minute) most) → Loses (r ∷ behind) at most
  board_loses r behind at most is b timed opens each =
      found_at_most (Loses (r ∷ behind) at most)
      (ride_first t timely (in_ticks goal) 0 r is zero-le at.stop (ready goal.gate at.minute) (land_worth goal.gate goal.target r chosen) opens away
      (ride_worth r is b (λ on. (each (lands_by r) (omega arith) (omega (arith, ride_delays t timely r is))).found on)))
      (λ v e h. record {
        found = λ _. (v, e);
        loss =
            omega (
              arith,
              h,
              standing_is goal.gate goal.target chosen at.stop at.minute v away e,
              landings_lose r behind at most timed opens each,
            );
      })
    where
      away : at.stop ≢ goal.target
      away there = timed.off_target (boards_stop r at.stop (ready goal.gate at.minute) opens ∙ there)

  pass_loses :
      (r : Ride) (behind : List Ride) (at : Standing) (most : ℕ) → boards r at.stop (ready goal.gate at.minute) ≡ false → Loses behind at most
      → Loses (r ∷ behind) at most
  pass_loses r behind at most shut l =
      record { found = l.found; loss = omega (arith, l.loss, worth_passes goal.gate goal.target r behind at shut) }

  rides_lose :
      (most : ℕ) {rides : List Ride} → Forward goal.gate goal.target rides
      → ((r : Ride) → Memᴰ r rides → IsRide t r × (within goal.bound (lands_by r) ≡ true)) → (at : Standing)
      → Served goal.target rides at.stop (ready goal.gate at.minute) → AtMostRides goal.gate rides at most → Loses rides at most
  rides_lose most Forward.none are at (onward next among opens) within = absurd (Memᴰ.not-nil among)
  rides_lose most Forward.none are at (over there) within = ends_there at most there within
  rides_lose most (Forward.one {r = r} {behind = behind} timed goes_on rest) are at served within =
      let here = are r (Memᴰ.head refl) in
      ifb (λ b. Loses (r ∷ behind) at most) (boards r at.stop (ready goal.gate at.minute))
      (λ opens. board_loses r behind at most here.0 here.1 timed opens
      (λ minute from below.
      rides_lose most rest (λ x n. are x (Memᴰ.tail n)) (off at r minute)
      (served_sooner (ready goal.gate minute) (omega (arith, landing_latest r minute from below)) goes_on) (most_boarded goal.gate r behind at most opens within minute from below)))
      (λ shut. pass_loses r behind at most shut
      (rides_lose most rest (λ x n. are x (Memᴰ.tail n)) at (served_behind shut served)
      (most_passed goal.gate r behind at most timed.full shut within)))

-- against any safe plan within the bound
pub plan_loss :
    (t : Timetable) → Timely t → (q : Query) (p : Plan) → Made t q p → (rides : List Ride) → SafePlan t q p.bound rides → (x : ℕ)
    → expected_of q rides ≡ some x → p.expected ≤ x + (q.margin - 1) * longest_way q (sorted rides)
plan_loss t timely q p made rides set x e =
    let in_order = safe_sorted t q p.bound rides set in
    let safe = in_order.0 in
    let rising = in_order.1 in
    let goal = goal_of q p.bound in
    let lost = rides_lose t timely goal (longest_way q (sorted rides)) (forward timely q p.bound (sorted rides) safe rising)
    (λ r n. (safe.are_rides r n, T_true (safe.each_within r n))) (start q) (begins_served q p.bound (sorted rides) safe)
    (longest_most timely q p.bound (sorted rides) safe rising) in
    omega (
      arith,
      lost.loss,
      standing_is q.gate q.target (chosen_from (in_ticks goal) t 0) q.source q.minute made.first
          (begins_elsewhere q p.bound (sorted rides) safe)
          (sym (ap (λ (l : List Valued). first_open l q.source (ready_at q)) (chosen_for_lem t goal)) ∙ made.begins),
      made.worth,
      expected_worth timely q p.bound (sorted rides) safe rising x (expected_sorted q rides ∙ e),
    )
