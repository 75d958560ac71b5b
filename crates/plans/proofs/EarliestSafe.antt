-- The earliest safe arrival is the least a + M of a last ride. Uses rising departures and rows that arrive after they depart.
use Prim.Native.Nat.{ℕ, suc, zero-le, ◌≤◌, ◌<◌}
use native.Mathlib.Omega.{arith}
use mathlib.Core.Bool.{true, cond}
use mathlib.Core.List.{List, Memᴰ}
use mathlib.Core.Logic.{◌≢◌, ◌↔◌}
use mathlib.Core.Option.{Option, none, some}
use mathlib.Core.Path.{◌≡◌, refl, sym, ap, subst, ◌∙◌}
use lib.Dec.{eqb}
use lib.ListN.{length}
use borrow.Author.Tests.{eqb-true, eqb-false, eq-eqb, ne_eqb}
use Rattle.laws.proofs.Options.{absent, same_thing}
use Rattle.laws.proofs.Tests.{ifb, T_true, true_T, cond_true, cond_false}
use Rattle.timetable.specs.Timetable.{Timetable, row_of}
use Rattle.plans.specs.Sound.{Timely}
use Rattle.query.specs.declared.Query.{Query}
use Rattle.query.specs.Query.{plain_query, with_gate}
use Rattle.plans.specs.Rides.{Ride, IsRide, lands_by, ready, boards}
use Rattle.plans.specs.Journeys.{Begins, Onward, leaves, changes, ready_at, Journey, IsEarliest}
use Rattle.plans.specs.Worth.{Valued, first_open}
use Rattle.plans.specs.Chosen.{Aim, in_minutes, off_in_minutes, worth_of, row_ride, boarded_at}
use Rattle.plans.specs.Plan.{earliest}
use Rattle.plans.proofs.Open.{boards_stop, boards_minute, boards_earlier, found_member, found_boards}
use Rattle.plans.proofs.AtMost.{AtMost, raised, found_at_most, worth_at_most}
use Rattle.plans.specs.FromRow.{chosen_from, best_at, off_at}
use Rattle.plans.proofs.FromRow.{chosen_all}
use Rattle.plans.proofs.BestRides.{best_boards, row_is_ride, boarded_earlier, each_best, chosen_picked}
use Rattle.plans.proofs.Staying.{AsLanded, ride_at_most}
use Rattle.plans.proofs.RideMinutes.{departs_before, boards_behind, ride_first}

pub worth_is : (o : Option Valued) {w : ℕ} → worth_of o ≡ some w → (v : Valued) × (o ≡ some v) × (v.worth ≡ w)
unfolding worth_of
worth_is none e = absent e
worth_is (some v) e = (v, refl, same_thing e)

minutes_landed : (gate target : ℕ) → AsLanded (off_in_minutes gate target)
unfolding off_in_minutes
minutes_landed gate target i row r behind = refl

minutes_at_target : (gate target : ℕ) (r : Ride) (behind : List Valued) → r.to ≡ target → off_in_minutes gate target r behind ≡ some (lands_by r)
unfolding off_in_minutes
minutes_at_target gate target r behind e = cond_true (some (lands_by r)) (worth_of (first_open behind r.to (ready gate (lands_by r)))) (eq-eqb r.to target e)

minutes_elsewhere :
    (gate target : ℕ) (r : Ride) (behind : List Valued) → (r.to ≡ target → ⊥) → (u : Valued) → first_open behind r.to (ready gate (lands_by r)) ≡ some u
    → off_in_minutes gate target r behind ≡ some u.worth
unfolding off_in_minutes worth_of
minutes_elsewhere gate target r behind away u e =
    cond_false (some (lands_by r)) (worth_of (first_open behind r.to (ready gate (lands_by r)))) (ne_eqb r.to target away) ∙ ap worth_of e

pub worth_of_lem : (v : Valued) → worth_of (some v) ≡ some v.worth
unfolding worth_of
worth_of_lem v = refl

module _ (t : Timetable) (gate target : ℕ) where
  pub onward_ride : {r : Ride} {end : ℕ} → Onward t gate target r end → IsRide t r
  onward_ride (leaves is e) = is
  onward_ride (changes is b on) = is

  -- boarded earlier on its trip, it still goes on
  pub onward_earlier : (i : ℕ) {r : Ride} {end : ℕ} → Onward t gate target r end → IsRide t (boarded_at i (row_of t.rows i) r)
      → Onward t gate target (boarded_at i (row_of t.rows i) r) end
  onward_earlier i (leaves is e) is' = leaves is' e
  onward_earlier i (changes is b on) is' = changes is' b on

  -- each best ride, in minutes, begins a safe journey that ends then
  minutes_off :
      (i : ℕ) → i < length t.rows
      → ((u : Valued) → Memᴰ u (chosen_from (in_minutes gate target) t (suc i)) → Onward t gate target u.ride u.worth) → (w : ℕ)
      → off_at (in_minutes gate target) t i ≡ some w → Onward t gate target (row_ride t.tables i (row_of t.rows i)) w
  unfolding off_at off_in_minutes
  minutes_off i h behind w e =
      ifb (λ b. eqb r.to target ≡ b → cond b (some (lands_by r)) (worth_of (first_open later r.to (ready gate (lands_by r)))) ≡ some w → Onward t gate target r w)
      (eqb r.to target)
      (λ q _ k. subst (λ x. Onward t gate target r x) (same_thing k) (leaves (row_is_ride (in_minutes gate target) t i h) (eqb-true r.to target q)))
      (λ _ _ k. let found = worth_is (first_open later r.to (ready gate (lands_by r))) k in
      changes {next = found.0.ride} (row_is_ride (in_minutes gate target) t i h) (true_T (found_boards later r.to (ready gate (lands_by r)) found.1))
      (subst (λ x. Onward t gate target found.0.ride x) found.2 (behind found.0 (found_member later r.to (ready gate (lands_by r)) found.1)))) refl e
    where
      r : Ride
      r = row_ride t.tables i (row_of t.rows i)

      later : List Valued
      later = chosen_from (in_minutes gate target) t (suc i)

  pub minutes_onward :
      (i : ℕ) → i < length t.rows → (v : Valued) → best_at (in_minutes gate target) t i ≡ some v → Onward t gate target v.ride v.worth
  minutes_onward =
      each_best (in_minutes gate target) t (λ v. Onward t gate target v.ride v.worth) minutes_off
      (λ i j a b s u e on. onward_earlier i on
      (boarded_earlier (in_minutes gate target) t i j a s u.ride (best_boards (in_minutes gate target) t j b u e).row (onward_ride on)))

  module _ (timely : Timely t) where
    pub onward_after : {r : Ride} {end : ℕ} → Onward t gate target r end → r.departs < end
    onward_after (leaves {r} is e) = let a : r.departs < r.arrives = departs_before t timely r is in omega arith
    onward_after (changes {r} {next} {end} is b on) =
        let a : r.departs < r.arrives = departs_before t timely r is in
        let c : ready gate (lands_by r) ≤ next.departs = boards_minute next r.to (ready gate (lands_by r)) (T_true b) in
        let d : next.departs < end = onward_after on in
        omega arith

    -- the row where a safe journey boards has a best ride, in minutes, that ends no later
    pub minutes_least : {r : Ride} {end : ℕ} → Onward t gate target r end → AtMost (best_at (in_minutes gate target) t r.board) end
    minutes_least (leaves {r} is e) = ride_at_most (in_minutes gate target) t r is (minutes_landed gate target) (lands_by r)
        (minutes_at_target gate target r _ e)
    minutes_least (changes {r} {next} {end} is b on) =
        let late : ready gate (lands_by r) ≤ next.departs = boards_minute next r.to (ready gate (lands_by r)) (T_true b) in
        ifb (λ b. eqb r.to target ≡ b → AtMost (best_at (in_minutes gate target) t r.board) end) (eqb r.to target)
        (λ q _. raised (ride_at_most (in_minutes gate target) t r is (minutes_landed gate target) (lands_by r)
        (minutes_at_target gate target r _ (eqb-true r.to target q)))
        (let d : next.departs < end = onward_after on in let z : lands_by r ≤ end = omega arith in z))
        (λ q _. found_at_most (AtMost (best_at (in_minutes gate target) t r.board) end)
        (ride_first t timely (in_minutes gate target) (suc r.leave) next (onward_ride on)
        (boards_behind t timely r next is (onward_ride on) (omega arith))
        r.to (ready gate (lands_by r)) end (T_true b) (eqb-false r.to target q) (minutes_least on))
        (λ u e h. raised (ride_at_most (in_minutes gate target) t r is (minutes_landed gate target) u.worth
        (minutes_elsewhere gate target r _ (eqb-false r.to target q) u e)) (let z : u.worth ≤ end = omega arith in z))) refl

    -- a row has a best ride, in minutes, exactly if it begins a safe journey
    pub begins_in_minutes : (i : ℕ) → i < length t.rows → ((v : Valued) × (best_at (in_minutes gate target) t i ≡ some v)) ↔ Begins t gate target i
    begins_in_minutes i h = (
      λ best. (best.0.ride, best.0.worth, (best_boards (in_minutes gate target) t i h best.0 best.1).row, minutes_onward i h best.0 best.1),
      λ begun. found_at_most ((v : Valued) × (best_at (in_minutes gate target) t i ≡ some v)) (minutes_least begun.3)
          (λ v e _. (v, ap (best_at (in_minutes gate target) t) (sym begun.2) ∙ e)),
    )

    pub journey_least :
        (s m : ℕ) → s ≢ target → (r : Ride) {end : ℕ} → boards r s m ≡ true → Onward t gate target r end
        → AtMost (first_open (chosen_from (in_minutes gate target) t 0) s m) end
    journey_least s m elsewhere r {end} b on =
        raised (ride_first t timely (in_minutes gate target) 0 r (onward_ride on) zero-le s m end b elsewhere (minutes_least on)) (omega arith)

-- who stands at the target has nothing chosen to board
pub chosen_away : (aim : Aim) (t : Timetable) (s m : ℕ) {v : Valued} → first_open (chosen_from aim t 0) s m ≡ some v
    → s ≢ aim.target
chosen_away aim t s m {v} e q =
    (chosen_picked aim t 0 zero-le v (found_member _ s m e)).elsewhere (boards_stop v.ride s m (found_boards _ s m e) ∙ q)

module _ (t : Timetable) (timely : Timely t) (q : Query) where
  first_row : Option Valued
  first_row = first_open (chosen_from (in_minutes q.gate q.target) t 0) q.source (ready_at q)

  earliest_first : earliest t q ≡ worth_of first_row
  unfolding earliest first_row
  earliest_first = ap (λ (l : List Valued). worth_of (first_open l q.source (ready_at q))) (chosen_all (in_minutes q.gate q.target) t)

  -- the first chosen row begins a journey, and none ends earlier
  first_reaches : (v : Valued) → first_row ≡ some v → Journey t q v.worth
  unfolding first_row
  first_reaches v e =
      let p = chosen_picked (in_minutes q.gate q.target) t 0 zero-le v (found_member _ q.source (ready_at q) e) in
      record {
        first = v.ride;
        in_time = true_T (found_boards _ q.source (ready_at q) e);
        onward = minutes_onward t q.gate q.target v.ride.board p.inside v p.best;
      }

  journey_first : q.source ≢ q.target → (end : ℕ) → Journey t q end → AtMost first_row end
  unfolding first_row
  journey_first apart end j = journey_least t q.gate q.target timely q.source (ready_at q) apart j.first (T_true j.in_time) j.onward

  first_apart : (v : Valued) → first_row ≡ some v → q.source ≢ q.target
  unfolding first_row
  first_apart v e = chosen_away (in_minutes q.gate q.target) t q.source (ready_at q) e

  -- the earliest safe arrival is reached, and is the least
  pub earliest_is_least : (e : ℕ) → earliest t q ≡ some e → IsEarliest t q e
  earliest_is_least e h =
      let found = worth_is first_row (sym earliest_first ∙ h) in
      record {
        reached = subst (λ k. Journey t q k) found.2 (first_reaches found.0 found.1);
        least =
            λ end j. subst (λ k. k ≤ end) found.2
            (worth_at_most (journey_first (first_apart found.0 found.1) end j) found.0 found.1);
      }

  -- where there is none, there is no safe journey
  pub no_earliest : q.source ≢ q.target → earliest t q ≡ none → (end : ℕ) → Journey t q end → ⊥
  no_earliest apart h end j =
      found_at_most ⊥ (journey_first apart end j) (λ v e _. absent {a = v.worth} (sym h ∙ earliest_first ∙ ap worth_of e ∙ worth_of_lem v))

-- a journey ends after one is ready to board at the source
pub journey_after : (t : Timetable) → Timely t → (q : Query) (end : ℕ) → Journey t q end → ready_at q < end
journey_after t timely q end j =
    let a : ready_at q ≤ j.first.departs = boards_minute j.first q.source (ready_at q) (T_true j.in_time) in
    let b : j.first.departs < end = onward_after t q.gate q.target timely j.onward in
    omega arith

-- who can start later can start earlier: a later start never helps
pub journey_earlier : (t : Timetable) (source target gate : ℕ) {minute later end : ℕ} → minute ≤ later
    → Journey t (with_gate gate (plain_query source target later)) end → Journey t (with_gate gate (plain_query source target minute)) end
journey_earlier t source target gate {minute} {later} before j =
    record {
      first = j.first;
      in_time = true_T (boards_earlier j.first source (ready gate later) (ready gate minute) (omega arith) (T_true j.in_time));
      onward = j.onward;
    }
