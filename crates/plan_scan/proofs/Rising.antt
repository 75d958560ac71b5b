-- Chosen rides of one stop depart one after the other. Assumes nothing.
use Prim.Native.Nat.{ℕ, zero, suc, ◌<◌}
use mathlib.Core.List.{List, [], ◌∷◌, Memᴰ}
use mathlib.Core.Path.{◌≡◌, refl, sym, subst, ◌∙◌}
use native.Mathlib.Omega.{arith}
use lib.ListN.{length, get_or}
use Rattle.laws.proofs.Places.{member_at}
use Rattle.plans.specs.Worth.{Valued}
use Rattle.plans.proofs.Order.{Ordered, nobody, ahead}
use Rattle.plan_stacks.specs.Chosen.{at_stop}
use Rattle.plan_stacks.proofs.AtStop.{at_stop_member}
use Rattle.plan_scan.proofs.ByStop.{at_head}

pub at_ordered : (s : ℕ) {vs : List Valued} → Ordered vs → Ordered (at_stop s vs)
unfolding at_stop
at_ordered s nobody = nobody
at_ordered s (ahead {v = v} {vs = vs} before o) =
    at_head (Ordered (at_stop s (v ∷ vs))) s v vs
    (λ _ e. subst (λ (l : List Valued). Ordered l) (sym e) (ahead (λ u m. before u (at_stop_member s vs u m)) (at_ordered s o)))
    (λ _ e. subst (λ (l : List Valued). Ordered l) (sym e) (at_ordered s o))

-- the rides behind the first depart later
pub departs_later :
    (s : ℕ) {v : Valued} {vs : List Valued} → Ordered (v ∷ vs) → ((x : Valued) → Memᴰ x (v ∷ vs) → x.ride.from ≡ s)
    → (x : Valued) → Memᴰ x vs → v.ride.departs < x.ride.departs
departs_later s {v = v} (ahead before o) there x m =
    (before x m).apart (there v (Memᴰ.head refl) ∙ sym (there x (Memᴰ.tail m)))

rest_ordered : {v : Valued} {vs : List Valued} → Ordered (v ∷ vs) → Ordered vs
rest_ordered (ahead before o) = o

-- by places
pub departures_rise :
    (s : ℕ) (vs : List Valued) → Ordered vs → ((x : Valued) → Memᴰ x vs → x.ride.from ≡ s)
    → (k l : ℕ) (d : Valued) → k < l → l < length vs → (get_or vs k d).ride.departs < (get_or vs l d).ride.departs
departures_rise s [] o there k l d h inside = absurd (let z : ⊥ = omega arith in z)
departures_rise s (v ∷ vs) o there k zero d h inside = absurd (let z : ⊥ = omega arith in z)
departures_rise s (v ∷ vs) o there zero (suc l) d h inside = departs_later s o there (get_or vs l d) (member_at vs l d (omega arith))
departures_rise s (v ∷ vs) o there (suc k) (suc l) d h inside =
    departures_rise s vs (rest_ordered o) (λ x m. there x (Memᴰ.tail m)) k l d (omega arith) (omega arith)
