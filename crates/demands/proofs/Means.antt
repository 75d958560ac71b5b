-- Sums over delays, and that a ride is worth the mean of what its landings are worth, rounded up once. Assumes nothing.
use Prim.Native.Nat.{ℕ, suc, ◌+◌, ◌*◌, ◌≤◌, ◌<◌}
use mathlib.Core.Bool.{cond}
use mathlib.Core.List.{List, [], ◌∷◌}
use mathlib.Core.Path.{◌≡◌, refl, sym, ◌∙◌, ap}
use native.Mathlib.Nat.{add-zero}
use native.Mathlib.Omega.{arith}
use lib.Dec.{eqb}
use lib.ListN.{length}
use Rattle.laws.proofs.Tests.{ifb}
use Rattle.timetable.specs.Classes.{sum, share_total}
use Rattle.plans.specs.Rides.{Ride, ready}
use Rattle.timetable.specs.Ticks.{ticks_a_minute, quotient_up}
use Rattle.plans.proofs.Weighing.{weigh_less}
use Rattle.plans.specs.Worth.{weigh, Valued, caught, arrival_worth, change_worth, land_worth}

pub weigh_scale : (shares : List ℕ) (a k : ℕ) (f : ℕ → ℕ) → weigh shares a (λ m. k * f m) ≡ k * weigh shares a f
unfolding weigh
weigh_scale [] a k f = omega arith
weigh_scale (p ∷ shares) a k f = omega (arith, weigh_scale shares (suc a) k f)

weigh_add :
    (shares : List ℕ) (a : ℕ) (f g : ℕ → ℕ) → weigh shares a (λ m. f m + g m) ≡ weigh shares a f + weigh shares a g
unfolding weigh
weigh_add [] a f g = omega arith
weigh_add (p ∷ shares) a f g = omega (arith, weigh_add shares (suc a) f g)

-- the shares add up
pub weigh_constant : (shares : List ℕ) (a c : ℕ) → weigh shares a (λ m. c) ≡ sum shares * c
unfolding weigh sum
weigh_constant [] a c = omega arith
weigh_constant (p ∷ shares) a c = omega (arith, weigh_constant shares (suc a) c)

-- each term less by so much, the sum of 4,096 shares less by 4,096 times as much
pub weigh_within :
    (shares : List ℕ) (a : ℕ) (f g : ℕ → ℕ) (x y : ℕ) → sum shares ≡ share_total
    → ((m : ℕ) → a ≤ m → m < a + length shares → f m + x ≤ g m + y) → weigh shares a f + share_total * x ≤ weigh shares a g + share_total * y
weigh_within shares a f g x y full each =
    omega (
      arith,
      weigh_less shares a (λ m. f m + x) (λ m. g m + y) each,
      weigh_add shares a f (λ m. x),
      weigh_constant shares a x ∙ ap (λ n. n * x) full,
      weigh_add shares a g (λ m. y),
      weigh_constant shares a y ∙ ap (λ n. n * y) full,
    )

pub weigh_shift : (shares : List ℕ) (a v : ℕ) (f : ℕ → ℕ) → weigh shares (a + v) f ≡ weigh shares v (λ w. f (a + w))
unfolding weigh
weigh_shift [] a v f = refl
weigh_shift (p ∷ shares) a v f =
    ap (λ rest. p * f (a + v) + rest) (ap (λ m. weigh shares m f) (omega arith) ∙ weigh_shift shares a (suc v) f)

-- rounding up adds less than one
pub up_reaches : (n : ℕ) → n ≤ share_total * quotient_up share_total n
up_reaches n = omega arith

pub up_loses : (n : ℕ) → share_total * quotient_up share_total n ≤ n + 4095
up_loses n = omega arith

-- whole ticks pass through
pub up_within : (m n x y : ℕ) → m + share_total * x ≤ n + share_total * y → quotient_up share_total m + x ≤ quotient_up share_total n + y
up_within m n x y h = omega arith

-- at the target the minute itself counts, elsewhere the ride caught by one who is there from that minute on
unfoldable pub standing_worth : (gate target : ℕ) → List Valued → (stop minute : ℕ) → ℕ
standing_worth gate target behind stop minute = cond (eqb stop target) (ticks_a_minute * minute) (caught behind stop (ready gate minute))

-- the mean minute is the arrival and the mean delay
pub weigh_minutes :
    (shares : List ℕ) (a : ℕ) → weigh shares a (λ m. ticks_a_minute * m) ≡ ticks_a_minute * (sum shares * a + weigh shares 0 (λ v. v))
weigh_minutes shares a =
    weigh_scale shares a ticks_a_minute (λ m. m)
    ∙ ap (λ x. ticks_a_minute * x)
    (ap (λ m. weigh shares m (λ m. m)) (sym (add-zero a)) ∙ weigh_shift shares a 0 (λ m. m)
    ∙ weigh_add shares 0 (λ v. a) (λ v. v) ∙ ap (λ x. x + weigh shares 0 (λ v. v)) (weigh_constant shares 0 a))

-- 256a + (sum of delay × share)/16 is the sum of share × 256(a + delay), divided by 4,096 and rounded up
pub arrival_mean :
    (r : Ride) → sum r.shares ≡ share_total → arrival_worth r ≡ quotient_up share_total (weigh r.shares r.arrives (λ minute. ticks_a_minute * minute))
unfolding arrival_worth
arrival_mean r full =
    omega (
      arith,
      weigh_minutes r.shares r.arrives ∙ ap (λ n. ticks_a_minute * (n * r.arrives + weigh r.shares 0 (λ v. v))) full,
    )

-- every ride is worth the mean of what its landings are worth, rounded up once
pub land_mean :
    (gate target : ℕ) (r : Ride) (behind : List Valued) → sum r.shares ≡ share_total
    → land_worth gate target r behind ≡ quotient_up share_total (weigh r.shares r.arrives (standing_worth gate target behind r.to))
unfolding land_worth change_worth standing_worth
land_mean gate target r behind full =
    ifb (
    λ b.
    cond b (arrival_worth r) (change_worth gate r behind)
    ≡ quotient_up share_total (weigh r.shares r.arrives (λ m. cond b (ticks_a_minute * m) (caught behind r.to (ready gate m)))))
    (eqb r.to target) (λ ends. arrival_mean r full) (λ goes_on. refl)
