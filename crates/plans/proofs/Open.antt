-- Laws on the first ride of a list that one who stands at a stop can board. Assumes nothing.
use Prim.Native.Nat.{ℕ, ◌≤◌, ◌<◌}
use native.Mathlib.Omega.{arith}
use mathlib.Core.Bool.{Bool, true, false, ◌&&◌, false≢true}
use mathlib.Core.List.Memᴰ
use mathlib.Core.List.{List, [], ◌∷◌, Memᴰ}
use mathlib.Core.Option.{some}
use mathlib.Core.Path.{◌≡◌, refl, sym, subst, ◌∙◌}
use lib.Dec.{leb, eqb}
use borrow.Author.Tests.{eqb-true, leb-true, eq-eqb, le-leb, lt-leb}
use Rattle.laws.proofs.Tests.{ifb, both, both_left, both_right, cond_true, cond_false}
use Rattle.laws.proofs.Options.{absent, same_thing}
use Rattle.laws.proofs.Members.{head_or_later}
use Rattle.plans.specs.Rides.{Ride, boards}
use Rattle.plans.specs.Worth.{Valued, first_open}

-- one can board at that stop, no earlier than the minute
pub boards_stop : (r : Ride) (s m : ℕ) → boards r s m ≡ true → r.from ≡ s
boards_stop r s m e = eqb-true r.from s (both_left (eqb r.from s) (leb m r.departs) e)

pub boards_minute : (r : Ride) (s m : ℕ) → boards r s m ≡ true → m ≤ r.departs
boards_minute r s m e = leb-true m r.departs (both_right (eqb r.from s) (leb m r.departs) e)

pub can_board : (r : Ride) (s m : ℕ) → r.from ≡ s → m ≤ r.departs → boards r s m ≡ true
can_board r s m there late = both (eq-eqb r.from s there) (le-leb m r.departs late)

-- what has left can't be boarded, nor what leaves another stop
pub too_late : (r : Ride) (s m : ℕ) → r.departs < m → boards r s m ≡ false
too_late r s m gone = no_right (eqb r.from s) (leb m r.departs) (lt-leb m r.departs gone)
  where
    no_right : (a b : Bool) → b ≡ false → (a && b) ≡ false
    no_right true b e = e
    no_right false b e = refl

-- one who can board at a minute can at an earlier one
pub boards_earlier : (r : Ride) (s m k : ℕ) → k ≤ m → boards r s m ≡ true → boards r s k ≡ true
boards_earlier r s m k before e = can_board r s k (boards_stop r s m e) (let h : m ≤ r.departs = boards_minute r s m e in omega arith)

-- the head is the first, or it is passed over
pub first_here : (v : Valued) (vs : List Valued) (s m : ℕ) → boards v.ride s m ≡ true → first_open (v ∷ vs) s m ≡ some v
unfolding first_open
first_here v vs s m e = cond_true (some v) (first_open vs s m) e

pub first_further : (v : Valued) (vs : List Valued) (s m : ℕ) → boards v.ride s m ≡ false → first_open (v ∷ vs) s m ≡ first_open vs s m
unfolding first_open
first_further v vs s m e = cond_false (some v) (first_open vs s m) e

-- splits on whether the head can be boarded
pub on_head {ℓ} : (P : Type ℓ) (v : Valued) (vs : List Valued) (s m : ℕ)
    → (boards v.ride s m ≡ true → first_open (v ∷ vs) s m ≡ some v → P)
    → (boards v.ride s m ≡ false → first_open (v ∷ vs) s m ≡ first_open vs s m → P) → P
on_head P v vs s m here further =
    ifb (λ b. boards v.ride s m ≡ b → P) (boards v.ride s m) (λ e _. here e (first_here v vs s m e))
    (λ e _. further e (first_further v vs s m e)) refl

-- what is found stands in the list and can be boarded
pub found_member : (vs : List Valued) (s m : ℕ) {v : Valued} → first_open vs s m ≡ some v → Memᴰ v vs
unfolding first_open
found_member [] s m e = absent e
found_member (x ∷ vs) s m {v} e =
    on_head (Memᴰ v (x ∷ vs)) x vs s m (λ _ h. Memᴰ.head (same_thing (sym e ∙ h)))
    (λ _ h. Memᴰ.tail (found_member vs s m (sym h ∙ e)))

pub found_boards : (vs : List Valued) (s m : ℕ) {v : Valued} → first_open vs s m ≡ some v → boards v.ride s m ≡ true
unfolding first_open
found_boards [] s m e = absent e
found_boards (x ∷ vs) s m {v} e =
    on_head (boards v.ride s m ≡ true) x vs s m (λ b h. subst (λ (u : Valued). boards u.ride s m ≡ true) (same_thing (sym h ∙ e)) b)
    (λ _ h. found_boards vs s m (sym h ∙ e))

-- where one can be boarded, a first is found
pub finds : (vs : List Valued) (s m : ℕ) {v : Valued} → Memᴰ v vs → boards v.ride s m ≡ true → (u : Valued) × (first_open vs s m ≡ some u)
finds [] s m k b = absurd (Memᴰ.not-nil k)
finds (x ∷ vs) s m {v} k b =
    on_head ((u : Valued) × (first_open (x ∷ vs) s m ≡ some u)) x vs s m (λ _ h. (x, h))
    (λ c h. head_or_later ((u : Valued) × (first_open (x ∷ vs) s m ≡ some u)) k
    (λ q. absurd (false≢true (sym c ∙ subst (λ (u : Valued). boards u.ride s m ≡ true) q b)))
    (λ n. let found = finds vs s m n b in (found.0, h ∙ found.1)))
