-- Demand 2 fixes the plan: of one timetable and query no two plans are demanded. Assumes nothing.
use Prim.Native.Nat.{ℕ, ◌≤◌, ◌<◌}
use native.Mathlib.Omega.{arith}
use mathlib.Core.List.Memᴰ
use mathlib.Core.List.{List, [], ◌∷◌, Memᴰ}
use mathlib.Core.Path.{◌≡◌, refl, sym, ap, subst, ◌∙◌}
use Rattle.laws.proofs.Members.{head_or_later, mapped}
use Rattle.laws.proofs.Options.{same_thing}
use Rattle.timetable.specs.Timetable.{Timetable}
use Rattle.query.specs.declared.Query.{Query}
use Rattle.plans.specs.Rides.{Ride, lands_by}
use Rattle.plans.specs.Journeys.{IsEarliest, bound_of, goal_of}
use Rattle.plans.specs.Worth.{Valued, rides_of}
use Rattle.plans.specs.Plan.{chosen_for}
use Rattle.demands.specs.SafePlan.{ByBoardingRow, before_all, expected_of}
use Rattle.demands.specs.Words.{InPlan}
use Rattle.demands.specs.Demanded.{Demanded}

-- there is one earliest safe arrival
pub one_earliest : {t : Timetable} {q : Query} {e e' : ℕ} → IsEarliest t q e → IsEarliest t q e' → e ≡ e'
one_earliest {e = e} {e'} a b = omega (arith, a.least e' b.reached, b.least e a.reached)

-- a head that is before all others is the other list's head too
heads_same :
    {v u : Valued} {vs us : List Valued} → ((next : Ride) → Memᴰ next (rides_of vs) → v.ride.board < next.board)
    → ((next : Ride) → Memᴰ next (rides_of us) → u.ride.board < next.board) → Memᴰ v (u ∷ us) → Memᴰ u (v ∷ vs) → v ≡ u
heads_same {v} {u} before before' m n =
    head_or_later (v ≡ u) m (λ e. e)
    (λ later. head_or_later (v ≡ u) n (λ e. sym e)
    (λ later'. absurd (let z : ⊥ =
    omega (arith, before u.ride (mapped (λ (x : Valued). x.ride) later'), before' v.ride (mapped (λ (x : Valued). x.ride) later)) in z)))

-- what stands behind a head is not the head
stays_behind :
    {v u w : Valued} {vs us : List Valued} → v ≡ u → ((next : Ride) → Memᴰ next (rides_of vs) → v.ride.board < next.board)
    → Memᴰ w vs → Memᴰ w (u ∷ us) → Memᴰ w us
stays_behind {v} {u} {w} {us = us} same before m n =
    head_or_later (Memᴰ w us) n
    (λ e. absurd (let z : ⊥ =
    omega (arith, before w.ride (mapped (λ (x : Valued). x.ride) m), ap (λ (x : Valued). x.ride.board) (e ∙ sym same)) in z)) (λ k. k)

-- rides by boarding row rising are one list if they are one set
pub one_list :
    (vs us : List Valued) → ByBoardingRow (rides_of vs) → ByBoardingRow (rides_of us) → ((v : Valued) → Memᴰ v vs → Memᴰ v us)
    → ((v : Valued) → Memᴰ v us → Memᴰ v vs) → vs ≡ us
one_list [] [] rising rising' to from = refl
one_list [] (u ∷ us) rising rising' to from = absurd (Memᴰ.not-nil (from u (Memᴰ.head refl)))
one_list (v ∷ vs) [] rising rising' to from = absurd (Memᴰ.not-nil (to v (Memᴰ.head refl)))
one_list (v ∷ vs) (u ∷ us) (before_all before rising) (before_all before' rising') to from =
    let same : v ≡ u = heads_same before before' (to v (Memᴰ.head refl)) (from u (Memᴰ.head refl)) in
    let rest : vs ≡ us =
    one_list vs us rising rising' (λ w m. stays_behind same before m (to w (Memᴰ.tail m)))
    (λ w m. stays_behind (sym same) before' m (from w (Memᴰ.tail m)))
    in cc

-- the largest a + M of one list of rides is one minute
one_latest :
    {rides : List Valued} {latest latest' : ℕ} → ((v : Valued) → Memᴰ v rides → lands_by v.ride ≤ latest)
    → ((v : Valued) × Memᴰ v rides × (lands_by v.ride ≡ latest')) → latest' ≤ latest
one_latest most reached = omega (arith, most reached.0 reached.1, reached.2)

-- two plans demanded of one timetable and query are one, with their expected ticks, latest minute and bound
pub one_plan : {t : Timetable} {q : Query} {rides others : List Valued} {expected latest bound expected' latest' bound' : ℕ}
    → Demanded t q rides expected latest bound → Demanded t q others expected' latest' bound'
    → (rides ≡ others) × (expected ≡ expected') × (latest ≡ latest') × (bound ≡ bound')
one_plan {t} {q} {rides} {others} {expected} {latest} {bound} {expected'} {latest'} {bound'} d d' =
    (same_rides, same_expected, same_latest, same_bound)
  where
    same_bound : bound ≡ bound'
    same_bound =
        d.bounded.2 ∙ ap (bound_of q) (one_earliest d.bounded.1 d'.bounded.1) ∙ sym d'.bounded.2

    in_other : (v : Valued) → Memᴰ v rides → Memᴰ v others
    in_other v m = (d'.its_rides v).1 (subst (λ b. InPlan q (chosen_for t (goal_of q b)) v) same_bound ((d.its_rides v).0 m))

    in_this : (v : Valued) → Memᴰ v others → Memᴰ v rides
    in_this v m = (d.its_rides v).1 (subst (λ b. InPlan q (chosen_for t (goal_of q b)) v) (sym same_bound) ((d'.its_rides v).0 m))

    same_rides : rides ≡ others
    same_rides = one_list rides others d.by_boarding_row d'.by_boarding_row in_other in_this

    same_expected : expected ≡ expected'
    same_expected = same_thing (sym d.expects ∙ ap (λ (l : List Valued). expected_of q (rides_of l)) same_rides ∙ d'.expects)

    same_latest : latest ≡ latest'
    same_latest =
        let other = subst (λ (l : List Valued). (v : Valued) × Memᴰ v l × (lands_by v.ride ≡ latest')) (sym same_rides)
        d'.latest_minute.1 in
        let this = subst (λ (l : List Valued). (v : Valued) × Memᴰ v l × (lands_by v.ride ≡ latest)) same_rides
        d.latest_minute.1 in
        omega (arith, one_latest d.latest_minute.0 other, one_latest d'.latest_minute.0 this)
