-- Demand 2, with document 02's margin: the plan is the minimum expected arrival plan with margin 1, and no plan loses more than its margin
-- allows; there is none exactly if there is no safe journey.
use Prim.Native.Nat.{ℕ, ◌+◌, ◌-◌, ◌*◌, ◌≤◌, ◌<◌}
use native.Mathlib.Nat.{zero-mul}
use native.Mathlib.Omega.{arith}
use mathlib.Core.List.{List, ◌∷◌, Memᴰ}
use mathlib.Core.Bool.{true}
use lib.Dec.{T}
use lib.ListN.{length}
use mathlib.Core.Logic.{◌↔◌, ◌≢◌}
use mathlib.Core.Option.{none, some}
use mathlib.Core.Path.{◌≡◌, sym, ap, subst, ◌∙◌}
use Rattle.laws.proofs.Tests.{T_true}
use Rattle.timetable.specs.Timetable.{Timetable, row_of}
use Rattle.plans.specs.declared.Goal.{Goal}
use Rattle.plans.specs.Sound.{Timely}
use Rattle.query.specs.declared.Query.{Query}
use Rattle.query.specs.Query.{least_margin}
use Rattle.plans.specs.Rides.{Ride, IsRide, lands_by, ready, opens, boards}
use Rattle.plans.specs.Journeys.{goal_of, Onward, Begins, Journey, IsEarliest, bound_of, within, CodeStands, ready_at}
use Rattle.plans.specs.Worth.{Valued, rides_of, valued, first_open, land_worth}
use Rattle.plans.specs.Plan.{Plan, planned, earliest, chosen_for}
use Rattle.demands.specs.SafePlan.{SafePlan, ByBoardingRow, sorted, worths_of, expected_of}
use Rattle.demands.specs.Walk.{longest_way}
use Rattle.demands.specs.Words.{Chosen, InPlan, HasWorth, best_ride}
use Rattle.demands.specs.MarginWords.{ChosenBy}
use Rattle.demands.specs.RowWords.{OpenWay, LeastWay, StaysAboard}
use Rattle.plans.proofs.EarliestSafe.{earliest_is_least, no_earliest}
use Rattle.demands.proofs.PlanExists.{plan_exists, bound_real}
use Rattle.demands.proofs.ChosenWords.{chosen_in_words, first_chosen_least}
use Rattle.demands.proofs.RowWorth.{worth_in_words, no_worth, ride_in_words}
use Rattle.demands.proofs.RowBegins.{row_reaches, row_begins}
use Rattle.demands.proofs.PlanIsSafe.{ordered_rising, plan_safe, plan_rising, plan_valued, plan_expected, plan_last, plan_gains}
use Rattle.demands.proofs.FirstRide.{plan_begins}
use Rattle.demands.proofs.PlanSet.{plan_set}
use Rattle.demands.proofs.Expected.{expected_stands, valued_ride, ride_valued}
use Rattle.demands.proofs.Loss.{plan_loss}
use Rattle.demands.proofs.ByMargin.{chosen_by_margin}
use Rattle.demands.proofs.Sorting.{safe_sorted, sorted_same}
use Rattle.demands.proofs.Forward.{AllTimed}
use Rattle.demands.proofs.Safe.{safe_timed}
use Rattle.demands.proofs.Walked.{valued_rides}
use Rattle.demands.proofs.WholePlan.{worth_in_whole, own_in_whole, caught_departs}
use Rattle.plans.proofs.Made.{plan_made}
use Rattle.plans.proofs.Open.{boards_earlier, finds}
use Rattle.plans.proofs.PlanRides.{for_ordered}

module _ (t : Timetable) (timely : Timely t) (goal : Goal) where
  -- a row's worth is the least over getting off and staying on; it has none if none of these is open
  pub row_worth : (i : ℕ) → i < length t.rows → (w : ℕ) → HasWorth t goal i w ↔ LeastWay t goal i w
  row_worth = worth_in_words t timely goal

  pub no_row_worth : (i : ℕ) → i < length t.rows → (best_ride t goal i ≡ none) ↔ ((w : ℕ) → OpenWay t goal i w → ⊥)
  no_row_worth = no_worth t timely goal

  -- it has one exactly if a safe journey within the bound begins there
  pub worth_exactly :
      (i : ℕ) → ((w : ℕ) × HasWorth t goal i w)
      ↔ ((r : Ride) × (r.board ≡ i) × ((end : ℕ) × Onward t goal.gate goal.target r end × T (within goal.bound end)))
  worth_exactly = row_reaches t timely goal

  -- its ride is the ride that boards there and stays aboard while the next row's worth equals the boarded row's
  pub row_ride :
      (i : ℕ) (v : Valued) → (best_ride t goal i ≡ some v)
      ↔ (IsRide t v.ride × (v.ride.board ≡ i) × HasWorth t goal i v.worth × StaysAboard t goal v)
  row_ride = ride_in_words t timely goal

  -- the chosen rows are those of document 02
  pub chosen_with_margin : (v : Valued) → Memᴰ v (chosen_for t goal) ↔ ChosenBy t goal v
  chosen_with_margin = chosen_by_margin t goal

  -- with margin 1 they are those of document 01
  pub chosen_rows :
      goal.margin ≡ least_margin → (v : Valued)
      → Memᴰ v (chosen_for t goal) ↔ (Chosen t goal v.ride.board × (best_ride t goal v.ride.board ≡ some v))
  chosen_rows = chosen_in_words t goal timely

  -- by boarding row rising
  pub chosen_in_order : ByBoardingRow (rides_of (chosen_for t goal))
  chosen_in_order = ordered_rising (for_ordered t timely goal)

  -- who can board a row finds a first chosen row that is worth less than the margin more
  pub first_chosen :
      (i w s m : ℕ) → HasWorth t goal i w → opens (row_of t.rows i).board (row_of t.rows i).departure s m ≡ true → s ≢ goal.target
      → (v : Valued) × (first_open (chosen_for t goal) s m ≡ some v) × (v.worth ≤ w + (goal.margin - 1))
  first_chosen = first_chosen_least t goal timely

-- without a bound, a row has a worth exactly if it begins a safe journey
pub worth_begins :
    (t : Timetable) → Timely t → (gate target margin i : ℕ)
    → ((w : ℕ) × HasWorth t (record { target = target; bound = 0; margin = margin; gate = gate }) i w) ↔ Begins t gate target i
worth_begins = row_begins

module _ (t : Timetable) (timely : Timely t) (q : Query) where
  -- the earliest safe arrival E is the least a + M of a last ride, and a safe journey reaches it
  pub earliest_safe : (e : ℕ) → earliest t q ≡ some e → IsEarliest t q e
  earliest_safe = earliest_is_least t timely q

  pub no_earliest_safe : q.source ≢ q.target → earliest t q ≡ none → (end : ℕ) → Journey t q end → ⊥
  no_earliest_safe = no_earliest t timely q

  -- "no safe journey" exactly if none exists
  pub no_safe_journey : CodeStands q.code → q.source ≢ q.target → (planned t q ≡ none) ↔ ((end : ℕ) → Journey t q end → ⊥)
  no_safe_journey = plan_exists t timely q

  -- a real bound does not lie before E and is never 0, which stands for none
  pub bound_stands : (e : ℕ) → earliest t q ≡ some e → 4 ≤ q.code → (e ≤ bound_of q e) × (0 < bound_of q e)
  bound_stands = bound_real t timely q

  module _ (p : Plan) (is_plan : planned t q ≡ some p) where
    -- its bound is that of E
    pub bounded : (e : ℕ) × IsEarliest t q e × (p.bound ≡ bound_of q e)
    bounded = let made = plan_made t q p is_plan in (made.end, earliest_is_least t timely q made.end made.reached, made.bounded)

    -- it is a safe plan within that bound, by boarding row rising
    pub safe_plan : SafePlan t q p.bound (rides_of p.rides)
    safe_plan = plan_safe t timely q p (plan_made t q p is_plan)

    pub rising : ByBoardingRow (rides_of p.rides)
    rising = plan_rising t timely q p (plan_made t q p is_plan)

    -- its worths and its expected arrival are those that its own rides give
    pub own_worths : valued q.gate q.target (rides_of p.rides) ≡ p.rides
    own_worths = plan_valued t timely q p (plan_made t q p is_plan)

    pub own_expected : expected_of q (rides_of p.rides) ≡ some p.expected
    own_expected = plan_expected t timely q p (plan_made t q p is_plan)

    -- its rides are those of document 01 and nothing else
    pub its_rides : (v : Valued) → Memᴰ v p.rides ↔ InPlan q (chosen_for t (goal_of q p.bound)) v
    its_rides = plan_set t timely q p (plan_made t q p is_plan)

    -- the first of them is the one to begin with: it boards at the source, at or after T, and its worth is the expected arrival
    pub first_ride :
        (v : Valued) × (rest : List Valued) × (p.rides ≡ v ∷ rest) × (boards v.ride q.source (ready_at q) ≡ true) × (v.worth ≡ p.expected)
    first_ride = plan_begins t q p (plan_made t q p is_plan)

    -- its latest minute is the largest a + M of its rides
    pub latest_minute :
        ((v : Valued) → Memᴰ v p.rides → lands_by v.ride ≤ p.latest) × ((v : Valued) × Memᴰ v p.rides × (lands_by v.ride ≡ p.latest))
    latest_minute = plan_last t timely q p (plan_made t q p is_plan)

    -- of two of its rides from one stop the earlier gains at least the margin
    pub each_gains : (v u : Valued) → Memᴰ v p.rides → Memᴰ u p.rides → v.ride.from ≡ u.ride.from
        → v.ride.departs < u.ride.departs → v.worth + q.margin ≤ u.worth
    each_gains = plan_gains t timely q p (plan_made t q p is_plan)

    -- against any safe plan within the same bound it loses less than the margin a ride, along that plan's longest way
    pub loss :
        (rides : List Ride) → SafePlan t q p.bound rides → (x : ℕ) → expected_of q rides ≡ some x
        → p.expected ≤ x + (q.margin - 1) * longest_way q (sorted rides)
    loss = plan_loss t timely q p (plan_made t q p is_plan)

    -- so with margin 1 none has a smaller expected arrival
    pub minimum :
        q.margin ≡ least_margin → (rides : List Ride) → SafePlan t q p.bound rides → (x : ℕ) → expected_of q rides ≡ some x → p.expected ≤ x
    minimum one rides safe x e =
        omega (arith, loss rides safe x e, ap (λ m. (m - 1) * longest_way q (sorted rides)) one, zero-mul (longest_way q (sorted rides)))

  module _ (bound : ℕ) (rides : List Ride) (safe : SafePlan t q bound rides) where
    -- a set of rides in any order is a list by boarding row rising
    pub any_order : SafePlan t q bound (sorted rides) × ByBoardingRow (sorted rides) × ((r : Ride) → Memᴰ r (sorted rides) ↔ Memᴰ r rides)
    any_order = safe_sorted t q bound rides safe

    -- every safe plan has an expected arrival
    pub has_expected : (x : ℕ) × (expected_of q rides ≡ some x)
    has_expected = expected_stands t q bound rides safe

    -- its worths are of these rides
    pub its_worths : rides_of (worths_of q rides) ≡ sorted rides
    its_worths = valued_rides q.gate q.target (sorted rides)

    -- each ride of it is worth what the rides caught after it give, whichever of the plan's rides these are
    pub worth_in_plan : (v : Valued) → Memᴰ v (worths_of q rides) → v.worth ≡ land_worth q.gate q.target v.ride (worths_of q rides)
    worth_in_plan = worth_in_whole q.gate q.target (sorted rides) (safe_timed timely q bound rides safe)

    -- and the ride caught is the first to depart of those that can be
    pub caught_first :
        (s m : ℕ) (v u : Valued) → first_open (worths_of q rides) s m ≡ some v → Memᴰ u (worths_of q rides) → boards u.ride s m ≡ true
        → v.ride.departs ≤ u.ride.departs
    caught_first = caught_departs q.gate q.target (sorted rides) (safe_timed timely q bound rides safe)

    -- whoever lands by a + M short of the target finds a ride of the plan to go on with
    pub caught_there :
        (v : Valued) → Memᴰ v (worths_of q rides) → v.ride.to ≢ q.target → (m : ℕ) → m ≤ lands_by v.ride
        → (u : Valued) × (first_open (worths_of q rides) v.ride.to (ready q.gate m) ≡ some u)
    caught_there v among away m in_time =
        let next = any_order.0.goes_on v.ride (valued_ride q.gate q.target (sorted rides) among) away in
        let found = ride_valued q.gate q.target (sorted rides) next.1 in
        finds (worths_of q rides) v.ride.to (ready q.gate m) found.1
        (boards_earlier found.0.ride v.ride.to (ready q.gate (lands_by v.ride)) (ready q.gate m) (omega arith)
        (subst (λ (r : Ride). boards r v.ride.to (ready q.gate (lands_by v.ride)) ≡ true) (sym found.2) (T_true next.2)))

  -- a safe plan as written, by boarding row rising: worths that the rides caught after each ride give are its own
  pub written_worths :
      (bound : ℕ) (vs : List Valued) → SafePlan t q bound (rides_of vs) → ByBoardingRow (rides_of vs)
      → ((v : Valued) → Memᴰ v vs → v.worth ≡ land_worth q.gate q.target v.ride vs) → worths_of q (rides_of vs) ≡ vs
  written_worths bound vs safe rising agree =
      let as_listed = sorted_same rising in
      ap (valued q.gate q.target) as_listed
      ∙ own_in_whole q.gate q.target vs (subst (AllTimed q.target) as_listed (safe_timed timely q bound (rides_of vs) safe)) agree
