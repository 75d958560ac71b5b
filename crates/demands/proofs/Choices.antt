-- The choices of delays, one delay for each ride: which lists they are, and sums over all of them. Assumes nothing.
use Prim.Native.Nat.{ℕ, suc, ◌+◌, ◌*◌, ◌^◌, ◌≤◌, ◌<◌}
use mathlib.Core.List.Memᴰ
use mathlib.Core.List.{List, [], ◌∷◌, ◌++◌, map, Memᴰ}
use mathlib.Core.Logic.{◌⊎◌, inl, inr}
use mathlib.Core.Path.{◌≡◌, refl, sym, ◌∙◌, ap, ap₂, subst}
use native.Mathlib.Nat.{add-zero, pow-succ', mul-one, mul_assoc}
use native.Mathlib.Decide.{dec_le}
use native.Mathlib.Omega.{arith}
use lib.ListN.{length, get_or}
use Rattle.timetable.specs.Classes.{sum, share_total}
use Rattle.plans.specs.Rides.{Ride}
use Rattle.plans.specs.Worth.{weigh}
use Rattle.demands.specs.Walk.{Sailed, Delayed, undelayed, delay_first, with_delays, choices, weight}
use Rattle.plans.proofs.Weighing.{sum_append}
use Rattle.demands.proofs.Means.{weigh_constant}

abbrev pub late : Ride → ℕ → Sailed
late r v = record { ride = r; delay = v }

-- the choices of with_delays are a delay in range before a way to go on
delays_hold :
    (r : Ride) (v : ℕ) (shares : List ℕ) (ways : List (List Sailed)) (w : ℕ) (sailed : List Sailed)
    → v ≤ w → w < v + length shares → Memᴰ sailed ways → Memᴰ (late r w ∷ sailed) (with_delays r v shares ways)
unfolding with_delays
delays_hold r v [] ways w sailed from below way = absurd (let z : ⊥ = omega arith in z)
delays_hold r v (p ∷ shares) ways w sailed from below way =
    elim (dec_le (suc v) w) [
      | yes further ↦ Memᴰ.append_right (map (λ sailed. late r v ∷ sailed) ways)
          (delays_hold r (suc v) shares ways w sailed further (omega arith) way)
      | no here ↦ Memᴰ.append_left (with_delays r (suc v) shares ways)
          (Memᴰ.cast (ap (λ x. late r x ∷ sailed) (omega arith)) (Memᴰ.map (λ sailed. late r v ∷ sailed) way))
    ]

-- a choice of with_delays, taken apart
record Apart (r : Ride) (v : ℕ) (shares : List ℕ) (ways : List (List Sailed)) (sailed : List Sailed) : Type 0 where
  delay : ℕ
  onward : List Sailed
  from : v ≤ delay
  below : delay < v + length shares
  way : Memᴰ onward ways
  joined : late r delay ∷ onward ≡ sailed

delays_apart :
    (r : Ride) (v : ℕ) (shares : List ℕ) (ways : List (List Sailed)) (sailed : List Sailed)
    → Memᴰ sailed (with_delays r v shares ways) → Apart r v shares ways sailed
unfolding with_delays
delays_apart r v [] ways sailed there = absurd (Memᴰ.not-nil there)
delays_apart r v (p ∷ shares) ways sailed there =
    pick (Memᴰ.append_cases (map (λ sailed. late r v ∷ sailed) ways) there) (delays_apart r (suc v) shares ways sailed)
  where
    pick :
        Memᴰ sailed (map (λ sailed. late r v ∷ sailed) ways) ⊎ Memᴰ sailed (with_delays r (suc v) shares ways)
        → (Memᴰ sailed (with_delays r (suc v) shares ways) → Apart r (suc v) shares ways sailed) → Apart r v (p ∷ shares) ways sailed
    pick (inl here) later =
        let found = Memᴰ.of_map (λ sailed. late r v ∷ sailed) ways here in
        record {
          delay = v;
          onward = found.0;
          from = omega arith;
          below = omega arith;
          way = found.1;
          joined = found.2;
        }
    pick (inr further) later =
        let a = later further in
        record {
          delay = a.delay;
          onward = a.onward;
          from = omega (arith, a.from);
          below = omega (arith, a.below);
          way = a.way;
          joined = a.joined;
        }

-- the choices of a plan are its rides with delays in range, and all of these
pub choice_delayed : (rides : List Ride) (sailed : List Sailed) → Memᴰ sailed (choices rides) → Delayed rides sailed
unfolding choices
choice_delayed [] sailed there = subst (Delayed []) (sym (Memᴰ.eq_of_singleton there)) undelayed
choice_delayed (r ∷ rides) sailed there =
    let a = delays_apart r 0 r.shares (choices rides) sailed there in
    subst (Delayed (r ∷ rides)) a.joined
    (delay_first refl (omega (arith, a.below)) (choice_delayed rides a.onward a.way))

pub delayed_choice : {rides : List Ride} {sailed : List Sailed} → Delayed rides sailed → Memᴰ sailed (choices rides)
unfolding choices
delayed_choice undelayed = Memᴰ.head refl
delayed_choice (delay_first {r = r} {s = s} {rides = rides} {sailed = sailed} same below onward) =
    Memᴰ.cast (λ i. record { ride = same i; delay = s.delay } ∷ sailed)
    (delays_hold r 0 r.shares (choices rides) s.delay sailed (omega arith) (omega arith) (delayed_choice onward))

-- there is a choice: nobody is late
pub on_time :
    (rides : List Ride) → ((r : Ride) → Memᴰ r rides → 0 < length r.shares) → (sailed : List Sailed) × Delayed rides sailed
on_time [] some_share = ([], undelayed)
on_time (r ∷ rides) some_share =
    let behind = on_time rides (λ u there. some_share u (Memᴰ.tail there)) in
    (late r 0 ∷ behind.0, delay_first refl (some_share r (Memᴰ.head refl)) behind.1)

map_append : (f : List Sailed → ℕ) (xs ys : List (List Sailed)) → map f (xs ++ ys) ≡ map f xs ++ map f ys
map_append f [] ys = refl
map_append f (x ∷ xs) ys = ap (λ rest. f x ∷ rest) (map_append f xs ys)

sum_scale :
    (k : ℕ) (c : List Sailed → List Sailed) (g h : List Sailed → ℕ) (ways : List (List Sailed))
    → ((sailed : List Sailed) → g (c sailed) ≡ k * h sailed) → sum (map g (map c ways)) ≡ k * sum (map h ways)
unfolding sum
sum_scale k c g h [] each = omega arith
sum_scale k c g h (sailed ∷ ways) each = omega (arith, each sailed, sum_scale k c g h ways each)

-- the sum of weight × f over all choices
unfoldable pub total : (List Sailed → ℕ) → List Ride → ℕ
total f rides = sum (map (λ sailed. weight sailed * f sailed) (choices rides))

weight_late :
    (r : Ride) (v p : ℕ) (f : List Sailed → ℕ) (sailed : List Sailed) → get_or r.shares v 0 ≡ p
    → weight (late r v ∷ sailed) * f (late r v ∷ sailed) ≡ p * (weight sailed * f (late r v ∷ sailed))
unfolding weight
weight_late r v p f sailed share =
    ap (λ x. x * weight sailed * f (late r v ∷ sailed)) share ∙ mul_assoc p (weight sailed) (f (late r v ∷ sailed))

-- over the choices of with_delays, the sum over the delays
total_delays :
    (r : Ride) (v : ℕ) (shares : List ℕ) (ways : List (List Sailed)) (f : List Sailed → ℕ)
    → ((i : ℕ) → get_or r.shares (v + i) 0 ≡ get_or shares i 0)
    → sum (map (λ sailed. weight sailed * f sailed) (with_delays r v shares ways))
    ≡ weigh shares v (λ w. sum (map (λ sailed. weight sailed * f (late r w ∷ sailed)) ways))
unfolding with_delays weigh sum
total_delays r v [] ways f share = refl
total_delays r v (p ∷ shares) ways f share =
    let g : List Sailed → ℕ = λ sailed. weight sailed * f sailed in
    ap sum (map_append g (map (λ sailed. late r v ∷ sailed) ways) (with_delays r (suc v) shares ways))
    ∙ sum_append (map g (map (λ sailed. late r v ∷ sailed) ways)) (map g (with_delays r (suc v) shares ways))
    ∙ ap₂ (λ x y. x + y)
    (sum_scale p (λ sailed. late r v ∷ sailed) g (λ sailed. weight sailed * f (late r v ∷ sailed)) ways
    (λ sailed. weight_late r v p f sailed (ap (λ k. get_or r.shares k 0) (sym (add-zero v)) ∙ share 0)))
    (total_delays r (suc v) shares ways f (λ i. ap (λ k. get_or r.shares k 0) (omega arith) ∙ share (suc i)))

-- the first ride's delays, each with the sum over the rest
pub total_cons :
    (f : List Sailed → ℕ) (r : Ride) (rides : List Ride)
    → total f (r ∷ rides) ≡ weigh r.shares 0 (λ v. total (λ sailed. f (late r v ∷ sailed)) rides)
unfolding total choices
total_cons f r rides = total_delays r 0 r.shares (choices rides) f (λ i. ap (λ k. get_or r.shares k 0) (omega arith))

pub total_nil : (f : List Sailed → ℕ) → total f [] ≡ f []
unfolding total choices weight sum
total_nil f = omega arith

sum_same :
    (f g : List Sailed → ℕ) (ways : List (List Sailed)) → ((sailed : List Sailed) → Memᴰ sailed ways → f sailed ≡ g sailed)
    → sum (map f ways) ≡ sum (map g ways)
unfolding sum
sum_same f g [] each = refl
sum_same f g (sailed ∷ ways) each =
    ap₂ (λ x y. x + y) (each sailed (Memᴰ.head refl)) (sum_same f g ways (λ s there. each s (Memᴰ.tail there)))

-- what is the same for every choice sums to the same
pub total_same :
    (f g : List Sailed → ℕ) (rides : List Ride) → ((sailed : List Sailed) → Delayed rides sailed → f sailed ≡ g sailed)
    → total f rides ≡ total g rides
unfolding total
total_same f g rides each =
    sum_same (λ s. weight s * f s) (λ s. weight s * g s) (choices rides)
    (λ s there. ap (λ x. weight s * x) (each s (choice_delayed rides s there)))

-- a choice has the plan's rides, in their order, and each delay is in range
pub delayed_rides : {rides : List Ride} {sailed : List Sailed} → Delayed rides sailed → map (λ s. s.ride) sailed ≡ rides
delayed_rides undelayed = refl
delayed_rides (delay_first same below onward) = ap₂ (λ r rides. r ∷ rides) same (delayed_rides onward)

pub delayed_range :
    {rides : List Ride} {sailed : List Sailed} → Delayed rides sailed → (s : Sailed) → Memᴰ s sailed → s.delay < length s.ride.shares
delayed_range undelayed s m = elim m [ ]
delayed_range (delay_first {s = u} same below onward) s (Memᴰ.head here) =
    subst (λ (x : Sailed). x.delay < length x.ride.shares) (sym here)
    (subst (λ (r : Ride). u.delay < length r.shares) (sym same) below)
delayed_range (delay_first same below onward) s (Memᴰ.tail there) = delayed_range onward s there

total_constant :
    (c : ℕ) (rides : List Ride) → ((r : Ride) → Memᴰ r rides → sum r.shares ≡ share_total) → total (λ sailed. c) rides ≡ share_total ^ length rides * c
total_constant c [] full = omega (arith, total_nil (λ sailed. c))
total_constant c (r ∷ rides) full =
    total_cons (λ sailed. c) r rides ∙ weigh_constant r.shares 0 (total (λ sailed. c) rides)
    ∙ ap₂ (λ n m. n * m) (full r (Memᴰ.head refl)) (total_constant c rides (λ u there. full u (Memᴰ.tail there)))
    ∙ sym (mul_assoc share_total (share_total ^ length rides) c) ∙ ap (λ n. n * c) (sym (pow-succ' share_total (length rides)))

-- the weights of all choices add up to 4,096^R
pub weights_total :
    (rides : List Ride) → ((r : Ride) → Memᴰ r rides → sum r.shares ≡ share_total)
    → sum (map weight (choices rides)) ≡ share_total ^ length rides
unfolding total
weights_total rides full =
    sum_same weight (λ sailed. weight sailed * 1) (choices rides) (λ sailed there. sym (mul-one (weight sailed)))
    ∙ total_constant 1 rides full ∙ mul-one (share_total ^ length rides)
