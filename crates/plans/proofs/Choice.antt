-- Laws on choosing one more row: when it joins the chosen rows, and what stays of them. Assumes nothing.
use Prim.Native.Nat.{ℕ}
use mathlib.Core.Bool.{Bool, true, false, cond, not, ◌&&◌, false≢true}
use mathlib.Core.List.Memᴰ
use mathlib.Core.List.{List, [], ◌∷◌, Memᴰ}
use mathlib.Core.Logic.{◌≢◌}
use mathlib.Core.Option.{Option, none, some}
use mathlib.Core.Path.{◌≡◌, refl, sym, ap, ap₂, ◌∙◌}
use lib.Dec.{leb, eqb}
use borrow.Author.Tests.{eqb-true, eqb-false, eq-eqb}
use Rattle.laws.proofs.Tests.{ifb, both, both_left, both_right}
use Rattle.laws.proofs.Members.{head_or_later}
use Rattle.plans.specs.Rides.{Ride, boards}
use Rattle.plans.specs.Worth.{Valued, first_open}
use Rattle.plans.specs.Chosen.{Aim, leads, first_at, others, choose}
use Rattle.plans.proofs.Open.{first_here, first_further, on_head}

-- the ways of choosing: what was chosen before, what is best at this row, what is chosen then
pub data Choice (aim : Aim) (chosen : List Valued) : Option Valued → List Valued → Type 0 where
  worthless : Choice aim chosen none chosen
  at_target : {v : Valued} → v.ride.from ≡ aim.target → Choice aim chosen (some v) chosen
  behind : {v : Valued} → leads aim.margin v.worth (first_at chosen v.ride.from) ≡ false → Choice aim chosen (some v) chosen
  added :
      {v : Valued} → v.ride.from ≢ aim.target → leads aim.margin v.worth (first_at chosen v.ride.from) ≡ true
      → Choice aim chosen (some v) (v ∷ others v.ride chosen)

pub choice : (aim : Aim) (best : Option Valued) (chosen : List Valued) → Choice aim chosen best (choose aim best chosen)
unfolding choose
choice aim none chosen = worthless
choice aim (some v) chosen =
    ifb (λ b. Choice aim chosen (some v) (cond (not b && lead) (v ∷ others v.ride chosen) chosen)) (eqb v.ride.from aim.target)
    (λ e. at_target (eqb-true v.ride.from aim.target e))
    (λ e. ifb (λ b. lead ≡ b → Choice aim chosen (some v) (cond b (v ∷ others v.ride chosen) chosen)) lead
    (λ yes' _. added (eqb-false v.ride.from aim.target e) yes') (λ no' _. behind no') refl)
  where
    lead : Bool
    lead = leads aim.margin v.worth (first_at chosen v.ride.from)

-- the test by which one row replaces another
abbrev pub same_minute : Ride → Ride → Bool
same_minute v r = eqb v.from r.from && eqb v.departs r.departs

same_stop : (v r : Ride) → same_minute v r ≡ true → v.from ≡ r.from
same_stop v r e = eqb-true v.from r.from (both_left (eqb v.from r.from) (eqb v.departs r.departs) e)

same_departure : (v r : Ride) → same_minute v r ≡ true → v.departs ≡ r.departs
same_departure v r e = eqb-true v.departs r.departs (both_right (eqb v.from r.from) (eqb v.departs r.departs) e)

pub others_member : (r : Ride) (vs : List Valued) {x : Valued} → Memᴰ x (others r vs) → Memᴰ x vs
unfolding others
others_member r [] m = m
others_member r (v ∷ vs) {x} m =
    ifb (λ b. Memᴰ x (cond b (others r vs) (v ∷ others r vs)) → Memᴰ x (v ∷ vs)) (same_minute v.ride r)
    (λ _ k. Memᴰ.tail (others_member r vs k))
    (λ _ k. head_or_later (Memᴰ x (v ∷ vs)) k (λ e. Memᴰ.head e) (λ n. Memᴰ.tail (others_member r vs n))) m

pub others_apart : (r : Ride) (vs : List Valued) {x : Valued} → Memᴰ x (others r vs) → x.ride.from ≡ r.from → x.ride.departs ≢ r.departs
unfolding others
others_apart r [] m there = absurd (Memᴰ.not-nil m)
others_apart r (v ∷ vs) {x} m there =
    ifb (λ b. same_minute v.ride r ≡ b → Memᴰ x (cond b (others r vs) (v ∷ others r vs)) → x.ride.departs ≢ r.departs)
    (same_minute v.ride r) (λ _ _ k. others_apart r vs k there)
    (λ e _ k. head_or_later (x.ride.departs ≢ r.departs) k
    (λ q then. false≢true (sym e ∙ both (eq-eqb v.ride.from r.from (ap (λ (u : Valued). u.ride.from) (sym q) ∙ there))
    (eq-eqb v.ride.departs r.departs (ap (λ (u : Valued). u.ride.departs) (sym q) ∙ then))))
    (λ n. others_apart r vs n there)) refl m

pub others_kept :
    (r : Ride) (vs : List Valued) {x : Valued} → Memᴰ x vs → (x.ride.from ≡ r.from → x.ride.departs ≢ r.departs)
    → Memᴰ x (others r vs)
unfolding others
others_kept r [] m apart = m
others_kept r (v ∷ vs) {x} m apart =
    ifb (λ b. same_minute v.ride r ≡ b → Memᴰ x (cond b (others r vs) (v ∷ others r vs))) (same_minute v.ride r)
    (λ e _. head_or_later (Memᴰ x (others r vs)) m
    (λ q. absurd (apart (ap (λ (u : Valued). u.ride.from) q ∙ same_stop v.ride r e)
    (ap (λ (u : Valued). u.ride.departs) q ∙ same_departure v.ride r e)))
    (λ n. others_kept r vs n apart))
    (λ _ _. head_or_later (Memᴰ x (v ∷ others r vs)) m (λ q. Memᴰ.head q) (λ n. Memᴰ.tail (others_kept r vs n apart))) refl

-- where the new ride can't be boarded, its coming changes nothing
pub others_first : (r : Ride) (vs : List Valued) (s m : ℕ) → boards r s m ≡ false → first_open (others r vs) s m ≡ first_open vs s m
unfolding others
others_first r [] s m shut = refl
others_first r (v ∷ vs) s m shut =
    ifb (λ b. same_minute v.ride r ≡ b → first_open (cond b (others r vs) (v ∷ others r vs)) s m ≡ first_open (v ∷ vs) s m) (same_minute v.ride r)
    (λ e _. others_first r vs s m shut ∙ sym (first_further v vs s m (gone e)))
    (λ _ _. on_head (first_open (v ∷ others r vs) s m ≡ first_open (v ∷ vs) s m) v vs s m
    (λ b h. first_here v (others r vs) s m b ∙ sym h) (λ b h. first_further v (others r vs) s m b ∙ others_first r vs s m shut ∙ sym h)) refl
  where
    gone : same_minute v.ride r ≡ true → boards v.ride s m ≡ false
    gone e =
        ap₂ (λ (a b : ℕ). eqb a s && leb m b) (same_stop v.ride r e)
        (same_departure v.ride r e) ∙ shut
