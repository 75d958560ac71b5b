-- The chosen rides of one stop: what choosing one more row does to them. Assumes nothing.
use Prim.Native.Nat.{ℕ, ◌≤◌, ◌<◌}
use mathlib.Core.Bool.{true, false, cond, not, ◌&&◌}
use mathlib.Core.List.Memᴰ
use mathlib.Core.List.{List, [], ◌∷◌, Memᴰ}
use mathlib.Core.Logic.{◌≢◌}
use mathlib.Core.Option.{Option, none, some}
use mathlib.Core.Path.{◌≡◌, refl, sym, ap, subst, ◌∙◌}
use native.Mathlib.Omega.{arith}
use lib.Dec.{eqb}
use borrow.Author.Tests.{eqb-true, eqb-false, eq-eqb, ne_eqb}
use Rattle.laws.proofs.Members.{head_or_later}
use Rattle.laws.proofs.Tests.{ifb, both_left, both_right, cond_true, cond_false}
use Rattle.plans.specs.Rides.{Ride}
use Rattle.plans.specs.Worth.{Valued}
use Rattle.plans.specs.Chosen.{Aim, first_at, leads, others, choose}
use Rattle.plans.proofs.Choice.{Choice, worthless, at_target, behind, added, choice, same_minute}
use Rattle.plan_stacks.specs.Chosen.{at_stop}
use Rattle.plan_stacks.proofs.AtStop.{at_stop_here, at_stop_elsewhere}

-- at the stop or elsewhere
pub at_head {ℓ} : (P : Type ℓ) (s : ℕ) (v : Valued) (vs : List Valued) → (v.ride.from ≡ s → at_stop s (v ∷ vs) ≡ v ∷ at_stop s vs → P)
    → (v.ride.from ≢ s → at_stop s (v ∷ vs) ≡ at_stop s vs → P) → P
at_head P s v vs here elsewhere =
    ifb (λ b. eqb v.ride.from s ≡ b → P) (eqb v.ride.from s)
    (λ e _. here (eqb-true v.ride.from s e) (at_stop_here s v vs (eqb-true v.ride.from s e)))
    (λ e _. elsewhere (eqb-false v.ride.from s e) (at_stop_elsewhere s v vs (eqb-false v.ride.from s e))) refl

-- a member of the stop's list boards there
pub at_from : (s : ℕ) (vs : List Valued) {x : Valued} → Memᴰ x (at_stop s vs) → x.ride.from ≡ s
unfolding at_stop
at_from s [] m = absurd (Memᴰ.not-nil m)
at_from s (v ∷ vs) {x} m =
    at_head (x.ride.from ≡ s) s v vs
    (λ here e. head_or_later (x.ride.from ≡ s) (subst (λ (l : List Valued). Memᴰ x l) e m)
    (λ q. ap (λ (u : Valued). u.ride.from) q ∙ here) (λ n. at_from s vs n))
    (λ _ e. at_from s vs (subst (λ (l : List Valued). Memᴰ x l) e m))

others_gone : (r : Ride) (v : Valued) (vs : List Valued) → same_minute v.ride r ≡ true → others r (v ∷ vs) ≡ others r vs
unfolding others
others_gone r v vs e = cond_true (others r vs) (v ∷ others r vs) e

others_stay : (r : Ride) (v : Valued) (vs : List Valued) → same_minute v.ride r ≡ false → others r (v ∷ vs) ≡ v ∷ others r vs
unfolding others
others_stay r v vs e = cond_false (others r vs) (v ∷ others r vs) e

none_gone : (r : Ride) → others r [] ≡ []
unfolding others
none_gone r = refl

nobody_at : (s : ℕ) → at_stop s [] ≡ []
unfolding at_stop
nobody_at s = refl

-- what is removed is removed stop by stop
at_others : (r : Ride) (vs : List Valued) (s : ℕ) → at_stop s (others r vs) ≡ others r (at_stop s vs)
at_others r [] s = ap (at_stop s) (none_gone r) ∙ nobody_at s ∙ sym (none_gone r) ∙ sym (ap (others r) (nobody_at s))
at_others r (v ∷ vs) s =
    ifb (λ b. same_minute v.ride r ≡ b → at_stop s (others r (v ∷ vs)) ≡ others r (at_stop s (v ∷ vs))) (same_minute v.ride r)
    (λ e _. ap (at_stop s) (others_gone r v vs e) ∙ at_others r vs s
    ∙ at_head (others r (at_stop s vs) ≡ others r (at_stop s (v ∷ vs))) s v vs
    (λ _ h. sym (ap (others r) h ∙ others_gone r v (at_stop s vs) e)) (λ _ h. sym (ap (others r) h)))
    (λ e _. ap (at_stop s) (others_stay r v vs e)
    ∙ at_head (at_stop s (v ∷ others r vs) ≡ others r (at_stop s (v ∷ vs))) s v vs
    (λ here h. at_stop_here s v (others r vs) here ∙ ap (λ (l : List Valued). v ∷ l) (at_others r vs s)
    ∙ sym (ap (others r) h ∙ others_stay r v (at_stop s vs) e))
    (λ away h. at_stop_elsewhere s v (others r vs) away ∙ at_others r vs s ∙ sym (ap (others r) h))) refl

others_absent :
    (r : Ride) (vs : List Valued) → ((x : Valued) → Memᴰ x vs → x.ride.from ≡ r.from → x.ride.departs ≢ r.departs) → others r vs ≡ vs
others_absent r [] apart = none_gone r
others_absent r (v ∷ vs) apart =
    ifb (λ b. same_minute v.ride r ≡ b → others r (v ∷ vs) ≡ v ∷ vs) (same_minute v.ride r)
    (λ e _. absurd (apart v (Memᴰ.head refl)
    (eqb-true v.ride.from r.from (both_left (eqb v.ride.from r.from) (eqb v.ride.departs r.departs) e))
    (eqb-true v.ride.departs r.departs (both_right (eqb v.ride.from r.from) (eqb v.ride.departs r.departs) e))))
    (λ e _. others_stay r v vs e ∙ ap (λ (l : List Valued). v ∷ l) (others_absent r vs (λ x m. apart x (Memᴰ.tail m)))) refl

abbrev pub head_of : List Valued → Option Valued
head_of [] = none
head_of (v ∷ vs) = some v

pub first_at_lem : (vs : List Valued) (s : ℕ) → first_at vs s ≡ head_of (at_stop s vs)
unfolding first_at at_stop
first_at_lem [] s = refl
first_at_lem (v ∷ vs) s =
    ifb (λ b. cond b (some v) (first_at vs s) ≡ head_of (cond b (v ∷ at_stop s vs) (at_stop s vs))) (eqb v.ride.from s) (λ _. refl) (λ _. first_at_lem vs s)

-- ---- one more row

elsewhere_by :
    (aim : Aim) (s : ℕ) {chosen new : List Valued} {best : Option Valued} → Choice aim chosen best new → ((v : Valued) → best ≡ some v → v.ride.from ≢ s)
    → at_stop s new ≡ at_stop s chosen
elsewhere_by aim s worthless away = refl
elsewhere_by aim s (at_target p) away = refl
elsewhere_by aim s (behind p) away = refl
elsewhere_by aim s {chosen = chosen} (added {v = v} apart lead) away =
    at_stop_elsewhere s v (others v.ride chosen) (away v refl) ∙ at_others v.ride chosen s
    ∙ others_absent v.ride (at_stop s chosen) (λ x m there. absurd (away v refl (sym there ∙ at_from s chosen m)))

-- other stops keep their chosen rides
pub choose_elsewhere :
    (aim : Aim) (best : Option Valued) (chosen : List Valued) (s : ℕ) → ((v : Valued) → best ≡ some v → v.ride.from ≢ s)
    → at_stop s (choose aim best chosen) ≡ at_stop s chosen
choose_elsewhere aim best chosen s away = elsewhere_by aim s (choice aim best chosen) away

pub first_elsewhere :
    (aim : Aim) (best : Option Valued) (chosen : List Valued) (s : ℕ) → ((v : Valued) → best ≡ some v → v.ride.from ≢ s)
    → first_at (choose aim best chosen) s ≡ first_at chosen s
first_elsewhere aim best chosen s away =
    first_at_lem (choose aim best chosen) s ∙ ap head_of (choose_elsewhere aim best chosen s away) ∙ sym (first_at_lem chosen s)

target_by :
    (aim : Aim) {chosen new : List Valued} {best : Option Valued} → Choice aim chosen best new → ((v : Valued) → best ≡ some v → v.ride.from ≡ aim.target)
    → new ≡ chosen
target_by aim worthless there = refl
target_by aim (at_target p) there = refl
target_by aim (behind p) there = refl
target_by aim (added {v = v} apart lead) there = absurd (apart (there v refl))

pub choose_target :
    (aim : Aim) (best : Option Valued) (chosen : List Valued) → ((v : Valued) → best ≡ some v → v.ride.from ≡ aim.target) → choose aim best chosen ≡ chosen
choose_target aim best chosen there = target_by aim (choice aim best chosen) there

pub choose_none : (aim : Aim) (chosen : List Valued) → choose aim none chosen ≡ chosen
unfolding choose
choose_none aim chosen = refl

first_here : (v : Valued) (vs : List Valued) → first_at (v ∷ vs) v.ride.from ≡ some v
unfolding first_at
first_here v vs = cond_true (some v) (first_at vs v.ride.from) (eq-eqb v.ride.from v.ride.from refl)

module _ (aim : Aim) (chosen : List Valued) (v : Valued) (away : v.ride.from ≢ aim.target) where
  by_lead :
      choose aim (some v) chosen
      ≡ cond (leads aim.margin v.worth (first_at chosen v.ride.from)) (v ∷ others v.ride chosen) chosen
  unfolding choose
  by_lead =
      ap (λ b. cond (not b && leads aim.margin v.worth (first_at chosen v.ride.from)) (v ∷ others v.ride chosen) chosen)
      (ne_eqb v.ride.from aim.target away)

  pub not_led : leads aim.margin v.worth (first_at chosen v.ride.from) ≡ false → choose aim (some v) chosen ≡ chosen
  not_led e = by_lead ∙ cond_false (v ∷ others v.ride chosen) chosen e

  module _ (lead : leads aim.margin v.worth (first_at chosen v.ride.from) ≡ true) where
    led : choose aim (some v) chosen ≡ v ∷ others v.ride chosen
    led = by_lead ∙ cond_true (v ∷ others v.ride chosen) chosen lead

    -- it is its stop's first chosen ride
    pub own_first : first_at (choose aim (some v) chosen) v.ride.from ≡ some v
    own_first = ap (λ (l : List Valued). first_at l v.ride.from) led ∙ first_here v (others v.ride chosen)

    own_joined : (l : List Valued) → at_stop v.ride.from chosen ≡ l → at_stop v.ride.from (choose aim (some v) chosen) ≡ v ∷ others v.ride l
    own_joined l e =
        ap (at_stop v.ride.from) led ∙ at_stop_here v.ride.from v (others v.ride chosen) refl
        ∙ ap (λ (k : List Valued). v ∷ k) (at_others v.ride chosen v.ride.from ∙ ap (others v.ride) e)

    -- the stop has no chosen ride yet
    pub own_alone : at_stop v.ride.from chosen ≡ [] → at_stop v.ride.from (choose aim (some v) chosen) ≡ v ∷ []
    own_alone e = own_joined [] e ∙ ap (λ (k : List Valued). v ∷ k) (none_gone v.ride)

    module _ (u : Valued) (rest : List Valued) (e : at_stop v.ride.from chosen ≡ u ∷ rest)
        (later : (x : Valued) → Memᴰ x rest → u.ride.departs < x.ride.departs) (rising : v.ride.departs ≤ u.ride.departs) where
      rest_stays : others v.ride rest ≡ rest
      rest_stays =
          others_absent v.ride rest (λ x m _ q. let behind' : u.ride.departs < x.ride.departs = later x m in omega arith)

      -- in the same minute it replaces that ride
      pub own_replaces : u.ride.from ≡ v.ride.from → u.ride.departs ≡ v.ride.departs
          → at_stop v.ride.from (choose aim (some v) chosen) ≡ v ∷ rest
      own_replaces there then =
          own_joined (u ∷ rest) e
          ∙ ap (λ (k : List Valued). v ∷ k) (others_gone v.ride u rest
          (ap (λ b. b && eqb u.ride.departs v.ride.departs) (eq-eqb u.ride.from v.ride.from there) ∙ eq-eqb u.ride.departs v.ride.departs then)
          ∙ rest_stays)

      pub own_ahead : u.ride.departs ≢ v.ride.departs → at_stop v.ride.from (choose aim (some v) chosen) ≡ v ∷ (u ∷ rest)
      own_ahead then =
          own_joined (u ∷ rest) e
          ∙ ap (λ (k : List Valued). v ∷ k) (others_absent v.ride (u ∷ rest)
          (λ x m _. head_or_later (x.ride.departs ≢ v.ride.departs) m
          (λ q d. then (ap (λ (y : Valued). y.ride.departs) (sym q) ∙ d))
          (λ n d. let behind' : u.ride.departs < x.ride.departs = later x n in omega arith)))
