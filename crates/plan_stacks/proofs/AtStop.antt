-- Laws of the chosen rides at one stop: they are all that one who stands there looks at. Assumes nothing.
use Prim.Native.Nat.{ℕ, zero, suc, ◌≤◌, ◌<◌}
use mathlib.Core.Bool.{Bool, true, false, cond, ◌&&◌}
use mathlib.Core.List.{List, [], ◌∷◌, Memᴰ}
use mathlib.Core.Option.{none, some}
use mathlib.Core.Path.{◌≡◌, refl, sym, ap, ◌∙◌}
use native.Mathlib.Omega.{arith}
use borrow.Author.Tests.{eq-eqb, ne_eqb, eqb-true, le-leb, lt-leb}
use lib.Dec.{eqb, leb}
use lib.ListN.{length, get_or}
use Rattle.laws.proofs.Tests.{ifb, both, cond_true, cond_false}
use Rattle.plans.specs.Rides.{boards}
use Rattle.plans.specs.Worth.{Valued, first_open, caught, worth_or}
use Rattle.plans.specs.Chosen.{when_safe}
use Rattle.plan_stacks.specs.Chosen.{at_stop}

-- a ride that boards there is one of them
pub at_stop_here : (s : ℕ) (v : Valued) (vs : List Valued) → v.ride.from ≡ s → at_stop s (v ∷ vs) ≡ v ∷ at_stop s vs
unfolding at_stop
at_stop_here s v vs e = cond_true (v ∷ at_stop s vs) (at_stop s vs) (eq-eqb v.ride.from s e)

-- a ride that boards elsewhere is not
pub at_stop_elsewhere : (s : ℕ) (v : Valued) (vs : List Valued) → (v.ride.from ≡ s → ⊥) → at_stop s (v ∷ vs) ≡ at_stop s vs
unfolding at_stop
at_stop_elsewhere s v vs e = cond_false (v ∷ at_stop s vs) (at_stop s vs) (ne_eqb v.ride.from s e)

-- what one can board first at the stop
pub first_open_at_stop : (vs : List Valued) (s m : ℕ) → first_open vs s m ≡ first_open (at_stop s vs) s m
unfolding first_open at_stop
first_open_at_stop [] s m = refl
first_open_at_stop (v ∷ vs) s m =
    ifb
    (λ b. cond (b && leb m v.ride.departs) (some v) (first_open vs s m) ≡ first_open (cond b (v ∷ at_stop s vs) (at_stop s vs)) s m)
    (eqb v.ride.from s)
    (λ here.
    ap (λ o. cond (leb m v.ride.departs) (some v) o) (first_open_at_stop vs s m)
    ∙ ap (λ b. cond (b && leb m v.ride.departs) (some v) (first_open (at_stop s vs) s m)) (sym here))
    (λ elsewhere. first_open_at_stop vs s m)

-- what the ride caught there is worth
pub caught_at_stop : (vs : List Valued) (s m : ℕ) → caught vs s m ≡ caught (at_stop s vs) s m
unfolding caught
caught_at_stop vs s m = ap (worth_or 0) (first_open_at_stop vs s m)

from_on : (s : ℕ) (v : Valued) (vs : List Valued) (d : Valued) → v.ride.from ≡ s
    → ((i : ℕ) → i < length vs → (get_or vs i d).ride.from ≡ s) → (i : ℕ) → i < suc (length vs) → (get_or (v ∷ vs) i d).ride.from ≡ s
from_on s v vs d here rest zero h = here
from_on s v vs d here rest (suc i) h = rest i (omega arith)

-- each of them boards there
pub at_stop_from : (s : ℕ) (vs : List Valued) (i : ℕ) (d : Valued) → i < length (at_stop s vs) → (get_or (at_stop s vs) i d).ride.from ≡ s
unfolding at_stop
at_stop_from s [] i d h = absurd (let z : ⊥ = omega arith in z)
at_stop_from s (v ∷ vs) i d h =
    ifb
    (λ b. i < length (cond b (v ∷ at_stop s vs) (at_stop s vs)) → (get_or (cond b (v ∷ at_stop s vs) (at_stop s vs)) i d).ride.from ≡ s)
    (eqb v.ride.from s) (λ here. from_on s v (at_stop s vs) d (eqb-true v.ride.from s here) (λ k. at_stop_from s vs k d) i)
    (λ elsewhere. at_stop_from s vs i d) h

member_on : {v w : Valued} {vs ws : List Valued} → (Memᴰ v vs → Memᴰ v ws) → Memᴰ v (w ∷ vs) → Memᴰ v (w ∷ ws)
member_on rest (Memᴰ.head e) = Memᴰ.head e
member_on rest (Memᴰ.tail m) = Memᴰ.tail (rest m)

-- each of them is one of the rides
pub at_stop_member : (s : ℕ) (vs : List Valued) (v : Valued) → Memᴰ v (at_stop s vs) → Memᴰ v vs
unfolding at_stop
at_stop_member s [] v m = m
at_stop_member s (w ∷ vs) v m =
    ifb (λ b. Memᴰ v (cond b (w ∷ at_stop s vs) (at_stop s vs)) → Memᴰ v (w ∷ vs)) (eqb w.ride.from s)
    (λ here. member_on (at_stop_member s vs v)) (λ elsewhere n. Memᴰ.tail (at_stop_member s vs v n)) m

never : (a : Bool) {b : Bool} → b ≡ false → (a && b) ≡ false
never true e = e
never false e = refl

-- the first that one can board, by its place: those ahead of it have left
pub first_open_at : (vs : List Valued) (s m i : ℕ) (d : Valued) → i < length vs → (get_or vs i d).ride.from ≡ s
    → m ≤ (get_or vs i d).ride.departs → ((k : ℕ) → k < i → (get_or vs k d).ride.departs < m) → first_open vs s m ≡ some (get_or vs i d)
unfolding first_open
first_open_at [] s m i d h from opened missed = absurd (let z : ⊥ = omega arith in z)
first_open_at (v ∷ vs) s m zero d h from opened missed =
    cond_true (some v) (first_open vs s m) (both (eq-eqb v.ride.from s from) (le-leb m v.ride.departs opened))
first_open_at (v ∷ vs) s m (suc i) d h from opened missed =
    cond_false (some v) (first_open vs s m)
    (never (eqb v.ride.from s) (lt-leb m v.ride.departs (missed 0 (omega arith))))
    ∙ first_open_at vs s m i d (omega arith) from opened (λ k l. missed (suc k) (omega arith))

-- all have left
pub first_open_none : (vs : List Valued) (s m : ℕ) (d : Valued) → ((k : ℕ) → k < length vs → (get_or vs k d).ride.departs < m)
    → first_open vs s m ≡ none
unfolding first_open
first_open_none [] s m d missed = refl
first_open_none (v ∷ vs) s m d missed =
    cond_false (some v) (first_open vs s m)
    (never (eqb v.ride.from s) (lt-leb m v.ride.departs (missed 0 (omega arith))))
    ∙ first_open_none vs s m d (λ k l. missed (suc k) (omega arith))

-- one that departs late enough makes a landing safe
pub safe_at : (vs : List Valued) (s m i worth : ℕ) (d : Valued) → i < length vs → (get_or vs i d).ride.from ≡ s
    → m ≤ (get_or vs i d).ride.departs → when_safe (first_open vs s m) worth ≡ some worth
unfolding first_open when_safe
safe_at [] s m i worth d h from late = absurd (let z : ⊥ = omega arith in z)
safe_at (v ∷ vs) s m zero worth d h from late =
    ap (λ b. when_safe (cond b (some v) (first_open vs s m)) worth)
    (both (eq-eqb v.ride.from s from) (le-leb m v.ride.departs late))
safe_at (v ∷ vs) s m (suc i) worth d h from late =
    ifb (λ b. when_safe (cond b (some v) (first_open vs s m)) worth ≡ some worth) (boards v.ride s m) (λ opened. refl)
    (λ missed. safe_at vs s m i worth d (omega arith) from late)
