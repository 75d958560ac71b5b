-- In a plan by boarding row rising, who lands finds in the whole plan what stands behind the ride. Assumes nothing.
use Prim.Native.Nat.{ℕ, ◌≤◌, ◌<◌}
use native.Mathlib.Omega.{arith}
use mathlib.Core.Bool.{true, false≢true}
use mathlib.Core.List.Memᴰ
use mathlib.Core.List.{List, [], ◌∷◌, Memᴰ}
use mathlib.Core.Option.{some}
use mathlib.Core.Path.{◌≡◌, refl, sym, ap, subst, ◌∙◌}
use Rattle.laws.proofs.Options.{same_thing}
use Rattle.laws.proofs.Members.{head_or_later}
use Rattle.plans.specs.Rides.{Ride, boards}
use Rattle.plans.specs.Worth.{Valued, rides_of, first_open, land_worth, valued}
use Rattle.plans.proofs.Open.{too_late, first_further, on_head}
use Rattle.plans.proofs.Weighing.{land_same}
use Rattle.plans.proofs.RideMinutes.{shares_stand}
use Rattle.demands.proofs.Forward.{AllTimed, one}
use Rattle.demands.proofs.Expected.{valued_ride}

module _ (gate target : ℕ) (all : List Valued) where
  -- a list that ends the plan: who lands after a ride of it finds there what they find in the whole plan
  Ends : List Ride → Type 0
  Ends rides = (r : Ride) → Memᴰ r rides → (s m : ℕ) → r.departs < m → first_open (valued gate target rides) s m ≡ first_open all s m

  worths_whole :
      (rides : List Ride) → AllTimed target rides → Ends rides → (v : Valued) → Memᴰ v (valued gate target rides)
      → v.worth ≡ land_worth gate target v.ride all
  unfolding valued Ends
  worths_whole [] timed ends v m = absurd (Memᴰ.not-nil m)
  worths_whole (r ∷ rides) (one timed rest) ends v m =
      head_or_later (v.worth ≡ land_worth gate target v.ride all) m
      (λ q. subst (λ (x : Valued). x.worth ≡ land_worth gate target x.ride all) (sym q)
      (land_same gate target r behind all (shares_stand r.shares timed.full)
      (λ k late _. sym (passed r.to k (omega (arith, timed.forward))) ∙ ends r (Memᴰ.head refl) r.to k (omega (arith, timed.forward)))))
      (λ n. worths_whole rides rest
      (λ u k s m late. sym (passed s m (omega (arith, timed.in_order u k))) ∙ ends u (Memᴰ.tail k) s m late) v n)
    where
      behind : List Valued
      behind = valued gate target rides

      passed : (s m : ℕ) → r.departs < m → first_open (valued gate target (r ∷ rides)) s m ≡ first_open behind s m
      passed s m gone = first_further (record { ride = r; worth = land_worth gate target r behind }) behind s m (too_late r s m gone)

-- each ride is worth what the rides caught after it in the whole plan give
pub worth_in_whole :
    (gate target : ℕ) (rides : List Ride) → AllTimed target rides → (v : Valued) → Memᴰ v (valued gate target rides)
    → v.worth ≡ land_worth gate target v.ride (valued gate target rides)
unfolding Ends
worth_in_whole gate target rides timed = worths_whole gate target (valued gate target rides) rides timed (λ _ _ _ _ _. refl)

-- and worths that agree so with the whole plan are its own
own_from :
    (gate target : ℕ) (all vs : List Valued) → AllTimed target (rides_of vs)
    → ((v : Valued) → Memᴰ v vs → (s m : ℕ) → v.ride.departs < m → first_open vs s m ≡ first_open all s m)
    → ((v : Valued) → Memᴰ v vs → v.worth ≡ land_worth gate target v.ride all) → valued gate target (rides_of vs) ≡ vs
unfolding valued
own_from gate target all [] timed ends agree = refl
own_from gate target all (v ∷ vs) (one timed rest) ends agree =
    ap (λ (l : List Valued). record { ride = v.ride; worth = land_worth gate target v.ride l } ∷ l)
    (own_from gate target all vs rest
    (λ u n s m late. sym (passed s m (omega (arith, timed.in_order u.ride (Memᴰ.map (λ x. x.ride) n)))) ∙ ends u (Memᴰ.tail n) s m late)
    (λ u n. agree u (Memᴰ.tail n)))
    ∙ ap (λ w. record { ride = v.ride; worth = w } ∷ vs)
    (land_same gate target v.ride vs all (shares_stand v.ride.shares timed.full)
    (λ m late _. let gone : v.ride.departs < m = omega (arith, timed.forward) in
    sym (passed v.ride.to m gone) ∙ ends v (Memᴰ.head refl) v.ride.to m gone) ∙ sym (agree v (Memᴰ.head refl)))
  where
    passed : (s m : ℕ) → v.ride.departs < m → first_open (v ∷ vs) s m ≡ first_open vs s m
    passed s m gone = first_further v vs s m (too_late v.ride s m gone)

pub own_in_whole :
    (gate target : ℕ) (vs : List Valued) → AllTimed target (rides_of vs) → ((v : Valued) → Memᴰ v vs → v.worth ≡ land_worth gate target v.ride vs)
    → valued gate target (rides_of vs) ≡ vs
own_in_whole gate target vs timed = own_from gate target vs vs timed (λ _ _ _ _ _. refl)

-- the ride caught is the first to depart of those that can be
pub caught_departs :
    (gate target : ℕ) (rides : List Ride) → AllTimed target rides → (s m : ℕ) (v u : Valued) → first_open (valued gate target rides) s m ≡ some v
    → Memᴰ u (valued gate target rides) → boards u.ride s m ≡ true → v.ride.departs ≤ u.ride.departs
unfolding valued
caught_departs gate target [] timed s m v u e among opens = absurd (Memᴰ.not-nil among)
caught_departs gate target (r ∷ rides) (one timed rest) s m v u e among opens =
    let first : Valued = record { ride = r; worth = land_worth gate target r (valued gate target rides) } in
    on_head (v.ride.departs ≤ u.ride.departs) first (valued gate target rides) s m
    (λ _ h. let same : v ≡ first = same_thing (sym e ∙ h) in
    subst (λ (x : Valued). x.ride.departs ≤ u.ride.departs) (sym same)
    (head_or_later (r.departs ≤ u.ride.departs) among (λ q. omega (arith, ap (λ (x : Valued). x.ride.departs) q))
    (λ n. timed.in_order u.ride (valued_ride gate target rides n))))
    (λ shut h. caught_departs gate target rides rest s m v u (sym h ∙ e)
    (head_or_later (Memᴰ u (valued gate target rides)) among
    (λ q. absurd (false≢true (sym shut ∙ subst (λ (x : Valued). boards x.ride s m ≡ true) q opens))) (λ n. n)) opens)
