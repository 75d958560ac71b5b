-- Document 02, E3: a larger gate time gives no journey and no plan where there was none, and with no bound no earlier expected arrival. Uses all
-- that a sound timetable keeps.
use Prim.Native.Nat.{ℕ, suc, zero-le, ◌≤◌, ◌<◌}
use native.Mathlib.Omega.{arith}
use mathlib.Core.Bool.{true}
use mathlib.Core.List.{List, Memᴰ}
use mathlib.Core.Logic.{inl, ◌≢◌}
use mathlib.Core.Option.{none, some}
use mathlib.Core.Path.{◌≡◌, refl, sym, ap, ap₂, subst, ◌∙◌}
use lib.ListN.{length}
use borrow.Author.Tests.{eq-eqb, ne_eqb}
use Rattle.laws.proofs.Options.{present_or_absent}
use Rattle.laws.proofs.Tests.{T_true, true_T, cond_true, cond_false}
use Rattle.timetable.specs.Timetable.{Timetable, row_of}
use Rattle.query.specs.declared.Query.{Query}
use Rattle.query.specs.Query.{with_gate, least_margin}
use Rattle.plans.specs.declared.Goal.{Goal}
use Rattle.plans.specs.Sound.{Timely}
use Rattle.plans.specs.Rides.{Ride, lands_by, ready, boards}
use Rattle.plans.specs.Journeys.{Onward, leaves, changes, Journey, IsEarliest, CodeStands, goal_of, ready_at}
use Rattle.plans.specs.Worth.{Valued, rides_of, first_open, worth_or, caught, land_worth, arrival_worth, change_worth}
use Rattle.plans.specs.Chosen.{in_ticks, row_ride}
use Rattle.plans.specs.FromRow.{chosen_from, off_at}
use Rattle.plans.specs.Plan.{Plan, planned, chosen_for}
use Rattle.plans.proofs.Open.{boards_earlier, finds, found_member, found_boards}
use Rattle.plans.proofs.AtMost.{AtMost, raised, found_at_most, worth_at_most}
use Rattle.plans.proofs.BestRides.{best_boards, best_is_ride, row_is_ride, chosen_picked, each_best}
use Rattle.plans.proofs.EarliestSafe.{chosen_away}
use Rattle.plans.proofs.Staying.{row_off, stay_on_lem}
use Rattle.plans.proofs.RideMinutes.{ride_first}
use Rattle.plans.proofs.InTicks.{best_in_ticks, Off, arrives, goes_on, off_is, ticks_at_target}
use Rattle.plans.proofs.Weighing.{weigh_less}
use Rattle.plans.proofs.Made.{Made, plan_made, chosen_for_lem}
use Rattle.demands.proofs.Forward.{landing_latest}
use Rattle.demands.proofs.Loss.{ride_worth}
use Rattle.demands.specs.Demanded.{Demanded}
use Rattle.demands.proofs.Walked.{begins_elsewhere}
use Rattle.demands.proofs.Demand2.{no_safe_journey}
use Rattle.demands.proofs.Demanded.{plan_demanded}
use Rattle.demands.proofs.OnePlan.{one_plan}

module _ (t : Timetable) (target : ℕ) {gate wider : ℕ} (more : gate ≤ wider) where
  onward_kept : {r : Ride} {end : ℕ} → Onward t wider target r end → Onward t gate target r end
  onward_kept (leaves is e) = leaves is e
  onward_kept (changes {r} {next} is b on) =
      changes is (true_T (boards_earlier next r.to (ready wider (lands_by r)) (ready gate (lands_by r)) (omega arith) (T_true b))) (onward_kept on)

module _ (t : Timetable) (q : Query) (wider : ℕ) (more : q.gate ≤ wider) where
  -- a safe journey with the larger gate time is one with the smaller
  pub journey_kept : {end : ℕ} → Journey t (with_gate wider q) end → Journey t q end
  journey_kept j =
      record {
        first = j.first;
        in_time = true_T (boards_earlier j.first q.source (ready wider q.minute) (ready_at q) (omega arith) (T_true j.in_time));
        onward = onward_kept t q.target more j.onward;
      }

  -- so E is no earlier
  pub earliest_kept : {e e' : ℕ} → IsEarliest t q e → IsEarliest t (with_gate wider q) e' → e ≤ e'
  earliest_kept {e' = e'} near far = near.least e' (journey_kept far.reached)

  -- and there is no plan where there was none
  pub no_plan_kept : Timely t → CodeStands q.code → q.source ≢ q.target → planned t q ≡ none → planned t (with_gate wider q) ≡ none
  no_plan_kept timely stands apart h =
      (no_safe_journey t timely (with_gate wider q) stands apart).1
      (λ end j. (no_safe_journey t timely q stands apart).0 h end (journey_kept j))

-- to a target with a gate time, without a bound and with margin 1
abbrev unbounded : (target gate : ℕ) → Goal
unbounded target gate = record { target = target; bound = 0; margin = least_margin; gate = gate }

-- so aimed, no row is worth more with the smaller gate time
module _ (t : Timetable) (timely : Timely t) (target : ℕ) {gate wider : ℕ} (more : gate ≤ wider) where
  abbrev near : List Valued
  near = chosen_from (in_ticks (unbounded target gate)) t 0

  abbrev NoDearer : Valued → Type 0
  NoDearer v = AtMost (best_in_ticks t (unbounded target gate) v.ride.board) v.worth

  -- who boards a chosen row with the larger gate time finds no dearer one with the smaller
  first_no_dearer :
      (i : ℕ) → i ≤ length t.rows → (v : Valued) → Memᴰ v (chosen_from (in_ticks (unbounded target wider)) t i) → NoDearer v
      → (s m : ℕ) → boards v.ride s m ≡ true → s ≢ target → (m' : ℕ) → m' ≤ m → AtMost (first_open near s m') v.worth
  first_no_dearer i h v there worth s m b away m' before =
      let p = chosen_picked (in_ticks (unbounded target wider)) t i h v there in
      raised (ride_first t timely (in_ticks (unbounded target gate)) 0 v.ride
      (best_is_ride (in_ticks (unbounded target wider)) t v.ride.board p.inside v p.best) zero-le s m' v.worth
      (boards_earlier v.ride s m m' before b) away worth) (omega arith)

  module _ (i : ℕ) (h : i < length t.rows)
      (later : (u : Valued) → Memᴰ u (chosen_from (in_ticks (unbounded target wider)) t (suc i)) → NoDearer u) where
    abbrev r : Ride
    r = row_ride t.tables i (row_of t.rows i)

    abbrev far : List Valued
    far = chosen_from (in_ticks (unbounded target wider)) t (suc i)

    -- one who lands by a + M finds no dearer ride
    lands_no_dearer :
        {u : Valued} → r.to ≢ target → first_open far r.to (ready wider (lands_by r)) ≡ some u → (m : ℕ) → m ≤ lands_by r
        → AtMost (first_open near r.to (ready gate m)) (caught far r.to (ready wider m))
    unfolding caught worth_or
    lands_no_dearer {u} away e m by =
        let found = finds far r.to (ready wider m) (found_member far _ _ e)
        (boards_earlier u.ride r.to (ready wider (lands_by r)) (ready wider m) (omega arith) (found_boards far _ _ e)) in
        subst (λ o. AtMost (first_open near r.to (ready gate m)) (worth_or 0 o)) (sym found.1)
        (first_no_dearer (suc i) h found.0 (found_member far _ _ found.1) (later found.0 (found_member far _ _ found.1)) r.to
        (ready wider m) (found_boards far _ _ found.1) away (ready gate m) (omega arith))

    off_no_dearer : {w : ℕ} → Off (unbounded target wider) r far w → AtMost (best_in_ticks t (unbounded target gate) i) w
    unfolding off_at land_worth change_worth caught worth_or
    off_no_dearer (arrives e b) = row_off (in_ticks (unbounded target gate)) t i (arrival_worth r) (ticks_at_target (unbounded target gate) r _ e refl)
    off_no_dearer (goes_on {u = u} away e) =
        raised
        (ride_worth t timely (unbounded target gate) r (row_is_ride (in_ticks (unbounded target gate)) t i h) refl
        (λ _. found_at_most ((v : Valued) × (first_open near r.to (ready gate (lands_by r)) ≡ some v))
        (lands_no_dearer away e (lands_by r) (omega arith)) (λ v k _. (v, k))))
        (let here = cond_false (arrival_worth r) (change_worth gate r near) (ne_eqb r.to target away) in
        omega (
          arith,
          here,
          weigh_less r.shares r.arrives (λ m. caught near r.to (ready gate m)) (λ m. caught far r.to (ready wider m))
              (λ m from below. found_at_most (caught near r.to (ready gate m) ≤ caught far r.to (ready wider m))
              (lands_no_dearer away e m (landing_latest r m from below))
              (λ v k less. subst (λ x. x ≤ caught far r.to (ready wider m)) (sym (caught_is r.to (ready gate m) v k)) less)),
        ))
      where
        caught_is : (s m : ℕ) (v : Valued) → first_open near s m ≡ some v → caught near s m ≡ v.worth
        caught_is s m v k = ap (worth_or 0) k

  pub row_no_dearer : (i : ℕ) → i < length t.rows → (v : Valued) → best_in_ticks t (unbounded target wider) i ≡ some v → NoDearer v
  unfolding off_at
  row_no_dearer =
      each_best (in_ticks (unbounded target wider)) t NoDearer (λ i h later w e. off_no_dearer i h later (off_is (unbounded target wider) _ _ w e))
      (λ i j a b s u e worth. stay_on_lem (in_ticks (unbounded target gate)) t i j u.worth (omega arith) b (sym s)
      (subst (λ k. AtMost (best_in_ticks t (unbounded target gate) k) u.worth) (best_boards (in_ticks (unbounded target wider)) t j b u e).row worth))

-- a plan so asked for begins with the first row chosen so
begins_unbounded :
    (t : Timetable) (q : Query) (p : Plan) (made : Made t q p) → q.code ≡ 0 → q.margin ≡ least_margin
    → first_open (chosen_from (in_ticks (unbounded q.target q.gate)) t 0) q.source (ready_at q) ≡ some made.first
begins_unbounded t q p made no_code least =
    sym (ap (λ (l : List Valued). first_open l q.source (ready_at q)) (ap (chosen_for t) aims ∙ chosen_for_lem t (unbounded q.target q.gate))) ∙ made.begins
  where
    aims : goal_of q p.bound ≡ unbounded q.target q.gate
    aims =
        ap₂ (λ bound margin. record { target = q.target; bound = bound; margin = margin; gate = q.gate })
        (made.bounded ∙ cond_true 0 _ (eq-eqb q.code 0 no_code)) least

-- so with no bound and margin 1 the larger gate time has no earlier expected arrival
pub no_earlier_expected :
    (t : Timetable) → Timely t → (q : Query) (wider : ℕ) → q.gate ≤ wider → q.code ≡ 0 → q.margin ≡ least_margin → (p far : Plan)
    → planned t q ≡ some p → planned t (with_gate wider q) ≡ some far → p.expected ≤ far.expected
no_earlier_expected t timely q wider more no_code least p far is is_far =
    let made = plan_made t q p is in
    let made' = plan_made t (with_gate wider q) far is_far in
    let begins = begins_unbounded t (with_gate wider q) far made' no_code least in
    let there = found_member _ q.source (ready wider q.minute) begins in
    let picked = chosen_picked (in_ticks (unbounded q.target wider)) t 0 zero-le made'.first there in
    let found = first_no_dearer t timely q.target more 0 zero-le made'.first there
    (row_no_dearer t timely q.target more made'.first.ride.board picked.inside made'.first picked.best) q.source
    (ready wider q.minute) (found_boards _ q.source (ready wider q.minute) begins)
    (chosen_away (in_ticks (unbounded q.target wider)) t q.source (ready wider q.minute) begins) (ready_at q) (omega arith) in
    omega (arith, made.worth, made'.worth, worth_at_most found made.first (begins_unbounded t q p made no_code least))

-- a plan demanded without a bound is the plan
is_planned :
    {t : Timetable} {q : Query} {rides : List Valued} {expected latest bound : ℕ} → Timely t → q.code ≡ 0
    → Demanded t q rides expected latest bound → (p : Plan) × (planned t q ≡ some p) × (p.expected ≡ expected)
is_planned {t} {q} {rides} {expected} {latest} {bound} timely no_code d =
    present_or_absent ((p : Plan) × (planned t q ≡ some p) × (p.expected ≡ expected)) (planned t q)
    (λ absent'. absurd ((no_safe_journey t timely q (inl no_code) (begins_elsewhere q bound (rides_of rides) d.safe)).0 absent' d.bounded.0
    d.bounded.1.reached))
    (λ p is. (p, is, (one_plan (plan_demanded t timely q p is) d).1))

-- of two plans demanded
pub gate_no_earlier :
    {t : Timetable} {q : Query} {rides others : List Valued} {expected latest bound expected' latest' bound' : ℕ} (wider : ℕ) → Timely t
    → q.gate ≤ wider → q.code ≡ 0 → q.margin ≡ least_margin → Demanded t q rides expected latest bound
    → Demanded t (with_gate wider q) others expected' latest' bound' → expected ≤ expected'
gate_no_earlier {t} {q} wider timely more no_code least d d' =
    let near = is_planned timely no_code d in
    let far = is_planned timely no_code d' in
    omega (arith, no_earlier_expected t timely q wider more no_code least near.0 far.0 near.1 far.1, near.2, far.2)
