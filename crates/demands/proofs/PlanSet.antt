-- The plan's rides are exactly document 01's set. Uses all that a sound timetable keeps.
use Prim.Native.Nat.{ℕ, ◌≤◌, ◌<◌}
use native.Mathlib.Nat.{le_refl, le_of_eq}
use native.Mathlib.Omega.{arith}
use mathlib.Core.Bool.{true}
use mathlib.Core.List.{List, [], ◌∷◌, ◌++◌, Memᴰ}
use mathlib.Core.Logic.{⊎_elim, ◌≢◌, ◌↔◌}
use mathlib.Core.Option.{some}
use mathlib.Core.Path.{◌≡◌, refl, sym, ap, subst, ◌∙◌}
use Rattle.laws.proofs.Options.{same_thing}
use Rattle.laws.proofs.Tests.{T_true, true_T}
use Rattle.laws.proofs.Members.{head_or_later}
use Rattle.timetable.specs.Timetable.{Timetable}
use Rattle.plans.specs.Journeys.{goal_of, ready_at}
use Rattle.plans.specs.Sound.{Timely}
use Rattle.query.specs.declared.Query.{Query}
use Rattle.plans.specs.Rides.{lands_by, ready, boards}
use Rattle.plans.specs.Worth.{Valued, first_open}
use Rattle.plans.specs.Plan.{Window, in_window, wanted, up_to, windows_of, extract, rides_from, Plan, chosen_for}
use Rattle.demands.specs.Words.{InPlan}
use Rattle.demands.specs.Words as words
use Rattle.plans.proofs.Open.{boards_minute, boards_stop, too_late, first_further, found_member, found_boards}
use Rattle.plans.proofs.Order.{Ordered, ahead, first_before}
use Rattle.plans.proofs.OwnWorth.{Moves}
use Rattle.plans.proofs.ChosenWorth.{ride_moves}
use Rattle.plans.proofs.PlanRides.{for_ordered, for_ride}
use Rattle.plans.proofs.Made.{Made}
use Rattle.demands.proofs.EveryRide.{wanted_in, up_to_is, window_opened}
use Rattle.plans.proofs.Extracted.{window_boards, window_until, up_to_wants, on_taking, extract_member, extract_wanted, extract_first, windows_want}

module _ (q : Query) (whole : List Valued) where
  -- a list that ends the chosen rows: who lands after a ride of it finds there what they find among all
  Ends : List Valued → Type 0
  Ends vs = (v : Valued) → Memᴰ v vs → (s m : ℕ) → v.ride.departs < m → first_open vs s m ≡ first_open whole s m

  -- windows that want rides of the plan alone
  Wants : List Window → Type 0
  Wants ws = (x : Valued) → Memᴰ x whole → (w : Window) → Memᴰ w ws → in_window w x.ride ≡ true → InPlan q whole x

  -- each ride that they take out is in the plan
  extract_in_plan :
      (vs : List Valued) → Ordered vs → ((x : Valued) → Memᴰ x vs → Moves x.ride) → ((x : Valued) → Memᴰ x vs → Memᴰ x whole)
      → Ends vs → (ws : List Window) → Wants ws → (x : Valued) → Memᴰ x (extract q.gate q.target ws vs) → InPlan q whole x
  unfolding extract Ends Wants
  extract_in_plan [] o moves sub ends ws given x m = absurd (mathlib.Core.List.Memᴰ.not-nil m)
  extract_in_plan (v ∷ vs) (ahead before o) moves sub ends ws given x m =
      let further : Ends vs = λ u n s k late.
      sym (first_further v vs s k (too_late v.ride s k (let z : v.ride.departs < k = omega (arith, (before u n).minutes) in z)))
      ∙ ends u (mathlib.Core.List.Memᴰ.tail n) s k late in
      let gone : v.ride.departs < ready q.gate (lands_by v.ride) = omega (arith, (moves v (mathlib.Core.List.Memᴰ.head refl)).forward) in
      let go = extract_in_plan vs o (λ y n. moves y (mathlib.Core.List.Memᴰ.tail n)) (λ y n. sub y (mathlib.Core.List.Memᴰ.tail n)) further in
      on_taking q.gate q.target (InPlan q whole x) ws v vs
      (λ wants h. let w = wanted_in ws v.ride wants in
      let here = given v (sub v (mathlib.Core.List.Memᴰ.head refl)) w.0 w.1 w.2 in
      head_or_later (InPlan q whole x) (subst (λ (l : List Valued). Memᴰ x l) h m) (λ e. subst (λ (y : Valued). InPlan q whole y) (sym e) here)
      (λ n. go (windows_of q.gate q.target v.ride vs ++ ws)
      (λ y k u among e. ⊎_elim (λ own. let opened = window_opened q.gate q.target v.ride vs own in
      words.next here opened.away
      (sym (ends v (mathlib.Core.List.Memᴰ.head refl) v.ride.to (ready q.gate (lands_by v.ride)) gone) ∙ first_further v vs _ _ (too_late v.ride _ _ gone)
      ∙ opened.is_first) k
      (true_T (subst (λ (w : Window). boards y.ride w.stop w.minute ≡ true) opened.is (window_boards u y.ride e)))
      (subst (λ (w : Window). y.ride.departs ≤ w.until) opened.is (window_until u y.ride e)))
      (λ older. given y k u older e) (mathlib.Core.List.Memᴰ.append_cases (windows_of q.gate q.target v.ride vs) among)) x n))
      (λ _ h. go ws given x (subst (λ (l : List Valued). Memᴰ x l) h m))

-- for each ride that is taken out, so are those that its window wants
window_taken :
    (gate target : ℕ) (vs : List Valued) → Ordered vs → ((x : Valued) → Memᴰ x vs → Moves x.ride) → (ws : List Window) (u x safe : Valued)
    → Memᴰ u (extract gate target ws vs) → u.ride.to ≢ target → first_open vs u.ride.to (ready gate (lands_by u.ride)) ≡ some safe → Memᴰ x vs
    → boards x.ride u.ride.to (ready gate u.ride.arrives) ≡ true → x.ride.departs ≤ safe.ride.departs → Memᴰ x (extract gate target ws vs)
unfolding extract
window_taken gate target [] o moves ws u x safe m away e k b h = absurd (mathlib.Core.List.Memᴰ.not-nil m)
window_taken gate target (v ∷ vs) (ahead before o) moves ws u x safe m away e k b h =
    let quick : u.ride.departs < u.ride.arrives = (moves u (extract_member gate target (v ∷ vs) ws m)).forward in
    let late : ready gate u.ride.arrives ≤ x.ride.departs = boards_minute x.ride u.ride.to (ready gate u.ride.arrives) b in
    -- x leaves later than what leaves no later than u
    let behind : v.ride.departs ≤ u.ride.departs → Memᴰ x vs = λ no_later.
    head_or_later (Memᴰ x vs) k
    (λ q. absurd (let same : x.ride.departs ≡ v.ride.departs = ap (λ (y : Valued). y.ride.departs) q in let z : ⊥ = omega arith in z))
    (λ n. n) in
    let skip : v.ride.departs ≤ u.ride.departs → first_open vs u.ride.to (ready gate (lands_by u.ride)) ≡ some safe = λ no_later.
    sym (first_further v vs u.ride.to (ready gate (lands_by u.ride)) (too_late v.ride u.ride.to (ready gate (lands_by u.ride)) (omega arith))) ∙ e in
    let further : (us : List Window) → Memᴰ u (extract gate target us vs) → Memᴰ x (extract gate target us vs) = λ us n.
    let no_later : v.ride.departs ≤ u.ride.departs = (before u (extract_member gate target vs us n)).minutes in
    window_taken gate target vs o (λ y l. moves y (mathlib.Core.List.Memᴰ.tail l)) us u x safe n away (skip no_later) (behind no_later) b h in
    on_taking gate target (Memᴰ x (extract gate target ws (v ∷ vs))) ws v vs
    (λ _ t. subst (λ (l : List Valued). Memᴰ x l) (sym t)
    (head_or_later (Memᴰ x (v ∷ extract gate target (windows_of gate target v.ride vs ++ ws) vs)) (subst (λ (l : List Valued). Memᴰ u l) t m)
    (λ q. let no_later : v.ride.departs ≤ u.ride.departs = le_of_eq (ap (λ (y : Valued). y.ride.departs) (sym q)) in
    mathlib.Core.List.Memᴰ.tail (extract_wanted gate target vs (windows_of gate target v.ride vs ++ ws) (behind no_later)
    (subst (λ (y : Valued). wanted (windows_of gate target y.ride vs ++ ws) x.ride ≡ true) q
    (windows_want gate target u.ride vs ws away (skip no_later) x.ride b h))))
    (λ n. mathlib.Core.List.Memᴰ.tail (further (windows_of gate target v.ride vs ++ ws) n))))
    (λ _ t. subst (λ (l : List Valued). Memᴰ x l) (sym t) (further ws (subst (λ (l : List Valued). Memᴰ u l) t m)))

module _ (q : Query) (chosen : List Valued) (o : Ordered chosen) (moves : (x : Valued) → Memᴰ x chosen → Moves x.ride) where
  -- the window at the source wants the first chosen row alone
  first_alone :
      (x : Valued) → Memᴰ x chosen → (w : Window) → Memᴰ w (up_to q.source (ready_at q) (first_open chosen q.source (ready_at q)))
      → in_window w x.ride ≡ true → InPlan q chosen x
  first_alone x m w among e =
      let last = up_to_is q.source (ready_at q) (first_open chosen q.source (ready_at q)) among in
      let caught : boards x.ride q.source (ready_at q) ≡ true =
      subst (λ (u : Window). boards x.ride u.stop u.minute ≡ true) last.2 (window_boards w x.ride e) in
      let no_later : x.ride.departs ≤ last.0.ride.departs =
      subst (λ (u : Window). x.ride.departs ≤ u.until) last.2 (window_until w x.ride e) in
      let found = first_before chosen o q.source (ready_at q) x m caught in
      ⊎_elim (λ same. words.first (found.1 ∙ ap some same))
      (λ b. let same : last.0 ≡ found.0 = same_thing (sym last.1 ∙ found.1) in
      let there = boards_stop found.0.ride q.source (ready_at q) (found_boards chosen q.source (ready_at q) found.1) in
      let sooner : found.0.ride.departs < x.ride.departs = b.apart (there ∙ sym (boards_stop x.ride q.source (ready_at q) caught)) in
      let then : last.0.ride.departs ≡ found.0.ride.departs = ap (λ (y : Valued). y.ride.departs) same in
      absurd (let z : ⊥ = omega arith in z)) found.2

  pub rides_in_plan : (v : Valued) → Memᴰ v (rides_from q chosen) → InPlan q chosen v
  unfolding rides_from Ends Wants
  rides_in_plan v m = extract_in_plan q chosen chosen o moves (λ _ n. n) (λ _ _ s k _. refl) _ first_alone v m

  pub in_plan_rides : (v : Valued) → InPlan q chosen v → Memᴰ v (rides_from q chosen)
  unfolding rides_from
  in_plan_rides v (words.first e) =
      found_member _ q.source (ready_at q)
      (extract_first q.gate q.target chosen _ q.source (ready_at q) e
      (up_to_wants q.source (ready_at q) v e v.ride (found_boards chosen q.source (ready_at q) e) (le_refl v.ride.departs)))
  in_plan_rides v (words.next {u} {v = x} {safe} before away e m b h) =
      window_taken q.gate q.target chosen o moves _ u x safe (in_plan_rides u before) away e m (T_true b) h

-- so the plan's rides are those of document 01 and nothing else
pub plan_set :
    (t : Timetable) → Timely t → (q : Query) (p : Plan) → Made t q p → (v : Valued)
    → Memᴰ v p.rides ↔ InPlan q (chosen_for t (goal_of q p.bound)) v
plan_set t timely q p made v = (
  λ m. rides_in_plan q chosen order moves v (subst (λ (l : List Valued). Memᴰ v l) made.holds m),
  λ i. subst (λ (l : List Valued). Memᴰ v l) (sym made.holds) (in_plan_rides q chosen order moves v i),
)
  where
    chosen : List Valued
    chosen = chosen_for t (goal_of q p.bound)

    order : Ordered chosen
    order = for_ordered t timely (goal_of q p.bound)

    moves : (x : Valued) → Memᴰ x chosen → Moves x.ride
    moves x m = ride_moves t timely x.ride (for_ride t timely (goal_of q p.bound) x m)
