-- The rides that windows take out of a list, and what they are worth there. Assumes nothing.
use Prim.Native.Nat.{ℕ, ◌≤◌}
use native.Mathlib.Nat.{le_of_eq}
use native.Mathlib.Omega.{arith}
use mathlib.Core.Bool.{true, false, false≢true}
use mathlib.Core.List.{List, [], ◌∷◌, ◌++◌, Memᴰ}
use mathlib.Core.Logic.{◌⊎◌, inl, inr, ◌≢◌}
use mathlib.Core.Option.{Option, some}
use mathlib.Core.Path.{◌≡◌, refl, sym, ap, subst, ◌∙◌}
use lib.Dec.{eqb, leb}
use borrow.Author.Tests.{eqb-false, ne_eqb, le-leb, leb-true}
use Rattle.laws.proofs.Options.{same_thing}
use Rattle.laws.proofs.Tests.{ifb, both, both_left, both_right, cond_true, cond_false}
use Rattle.laws.proofs.Members.{head_or_later}
use Rattle.laws.proofs.Alternatives.{or_left, or_right, or_map}
use Rattle.plans.specs.Rides.{Ride, lands_by, ready, boards}
use Rattle.plans.specs.Worth.{Valued, first_open, land_worth, arrival_worth}
use Rattle.plans.specs.Plan.{Window, in_window, wanted, up_to, windows_of, extract}
use Rattle.plans.proofs.Open.{boards_earlier, first_here, first_further, on_head, found_member, found_boards}
use Rattle.plans.proofs.Order.{Before, Ordered, nobody, ahead, first_before}
use Rattle.plans.proofs.Weighing.{land_same}
use Rattle.plans.proofs.OwnWorth.{Moves, OwnWorth}
use Rattle.plans.proofs.OwnWorth as own

-- a ride in a window boards at its stop, from its minute on, and departs no later than its end
pub window_boards : (w : Window) (r : Ride) → in_window w r ≡ true → boards r w.stop w.minute ≡ true
unfolding in_window
window_boards w r e = both_left (boards r w.stop w.minute) (leb r.departs w.until) e

pub window_until : (w : Window) (r : Ride) → in_window w r ≡ true → r.departs ≤ w.until
unfolding in_window
window_until w r e = leb-true r.departs w.until (both_right (boards r w.stop w.minute) (leb r.departs w.until) e)

-- a window more takes nothing away
wanted_more : (ws us : List Window) (r : Ride) → wanted us r ≡ true → wanted (ws ++ us) r ≡ true
unfolding wanted
wanted_more [] us r e = e
wanted_more (w ∷ ws) us r e = or_right (in_window w r) (wanted (ws ++ us) r) (wanted_more ws us r e)

wanted_first : (ws us : List Window) (r : Ride) → wanted ws r ≡ true → wanted (ws ++ us) r ≡ true
unfolding wanted
wanted_first [] us r e = absurd (false≢true e)
wanted_first (w ∷ ws) us r e = or_map (in_window w r) (wanted ws r) (wanted (ws ++ us) r) (λ k. wanted_first ws us r k) e

-- up to and including the one that departs last
pub up_to_wants :
    (stop minute : ℕ) {o : Option Valued} (last : Valued) → o ≡ some last → (r : Ride) → boards r stop minute ≡ true
    → r.departs ≤ last.ride.departs
    → wanted (up_to stop minute o) r ≡ true
unfolding up_to wanted in_window
up_to_wants stop minute last e r b h =
    subst (λ (o : Option Valued). wanted (up_to stop minute o) r ≡ true) (sym e)
    (or_left _ false (both b (le-leb r.departs last.ride.departs h)))

module _ (gate target : ℕ) where
  -- the head is taken, or it is passed over
  pub on_taking {ℓ} :
      (P : Type ℓ) (ws : List Window) (v : Valued) (vs : List Valued)
      → (wanted ws v.ride ≡ true → extract gate target ws (v ∷ vs) ≡ v ∷ extract gate target (windows_of gate target v.ride vs ++ ws) vs → P)
      → (wanted ws v.ride ≡ false → extract gate target ws (v ∷ vs) ≡ extract gate target ws vs → P) → P
  unfolding extract
  on_taking P ws v vs taken passed =
      ifb (λ b. wanted ws v.ride ≡ b → P) (wanted ws v.ride) (λ e _. taken e (cond_true _ _ e)) (λ e _. passed e (cond_false _ _ e)) refl

  pub extract_member : (vs : List Valued) (ws : List Window) {x : Valued} → Memᴰ x (extract gate target ws vs) → Memᴰ x vs
  unfolding extract
  extract_member [] ws m = m
  extract_member (v ∷ vs) ws {x} m =
      on_taking (Memᴰ x (v ∷ vs)) ws v vs
      (λ _ h. head_or_later (Memᴰ x (v ∷ vs)) (subst (λ (l : List Valued). Memᴰ x l) h m) (λ q. Memᴰ.head q)
      (λ n. Memᴰ.tail (extract_member vs _ n)))
      (λ _ h. Memᴰ.tail (extract_member vs ws (subst (λ (l : List Valued). Memᴰ x l) h m)))

  pub extract_ordered : {vs : List Valued} → Ordered vs → (ws : List Window) → Ordered (extract gate target ws vs)
  unfolding extract
  extract_ordered nobody ws = nobody
  extract_ordered (ahead {v} {vs} before o) ws =
      on_taking (Ordered (extract gate target ws (v ∷ vs))) ws v vs
      (λ _ h. subst (λ (l : List Valued). Ordered l) (sym h) (ahead (λ u m. before u (extract_member vs _ m)) (extract_ordered o _)))
      (λ _ h. subst (λ (l : List Valued). Ordered l) (sym h) (extract_ordered o ws))

  -- what a window wants is taken
  pub extract_wanted : (vs : List Valued) (ws : List Window) {x : Valued} → Memᴰ x vs → wanted ws x.ride ≡ true
      → Memᴰ x (extract gate target ws vs)
  unfolding extract
  extract_wanted [] ws m e = m
  extract_wanted (v ∷ vs) ws {x} m e =
      on_taking (Memᴰ x (extract gate target ws (v ∷ vs))) ws v vs
      (λ _ h. subst (λ (l : List Valued). Memᴰ x l) (sym h)
      (head_or_later (Memᴰ x (v ∷ extract gate target (windows_of gate target v.ride vs ++ ws) vs)) m (λ q. Memᴰ.head q)
      (λ n. Memᴰ.tail (extract_wanted vs _ n (wanted_more (windows_of gate target v.ride vs) ws x.ride e)))))
      (λ c h. subst (λ (l : List Valued). Memᴰ x l) (sym h)
      (head_or_later (Memᴰ x (extract gate target ws vs)) m
      (λ q. absurd (false≢true (sym c ∙ subst (λ (u : Valued). wanted ws u.ride ≡ true) q e)))
      (λ n. extract_wanted vs ws n e)))

  -- and is the first to be boarded, if it was so
  pub extract_first :
      (vs : List Valued) (ws : List Window) (s m : ℕ) {u : Valued} → first_open vs s m ≡ some u → wanted ws u.ride ≡ true
      → first_open (extract gate target ws vs) s m ≡ some u
  unfolding extract
  extract_first [] ws s m e w = e
  extract_first (v ∷ vs) ws s m {u} e w =
      on_head (first_open (extract gate target ws (v ∷ vs)) s m ≡ some u) v vs s m
      (λ b h. let same : u ≡ v = same_thing (sym e ∙ h) in
      on_taking (first_open (extract gate target ws (v ∷ vs)) s m ≡ some u) ws v vs
      (λ _ k. ap (λ (l : List Valued). first_open l s m) k ∙ first_here v _ s m b ∙ ap some (sym same))
      (λ c _. absurd (false≢true (sym c ∙ subst (λ (x : Valued). wanted ws x.ride ≡ true) same w))))
      (λ b h. on_taking (first_open (extract gate target ws (v ∷ vs)) s m ≡ some u) ws v vs
      (λ _ k. ap (λ (l : List Valued). first_open l s m) k ∙ first_further v _ s m b
      ∙ extract_first vs _ s m (sym h ∙ e) (wanted_more (windows_of gate target v.ride vs) ws u.ride w))
      (λ _ k. ap (λ (l : List Valued). first_open l s m) k ∙ extract_first vs ws s m (sym h ∙ e) w))

  -- the window of a ride wants each that may be caught after it
  pub windows_want :
      (r : Ride) (vs : List Valued) (ws : List Window) → r.to ≢ target → {safe : Valued} → first_open vs r.to (ready gate (lands_by r)) ≡ some safe → (x : Ride)
      → boards x r.to (ready gate r.arrives) ≡ true → x.departs ≤ safe.ride.departs → wanted (windows_of gate target r vs ++ ws) x ≡ true
  unfolding windows_of
  windows_want r vs ws away {safe} e x b h =
      wanted_first (windows_of gate target r vs) ws x
      (subst (λ (l : List Window). wanted l x ≡ true)
      (sym (cond_false [] (up_to r.to (ready gate r.arrives) (first_open vs r.to (ready gate (lands_by r)))) (ne_eqb r.to target away)))
      (up_to_wants r.to (ready gate r.arrives) safe e x b h))

  -- who lands after a ride finds among those taken the ride that is first in the whole list
  landing_taken :
      (r : Ride) (vs : List Valued) → Ordered vs → (ws : List Window) → r.to ≢ target → (safe : Valued) → first_open vs r.to (ready gate (lands_by r)) ≡ some safe
      → (m : ℕ)
      → ready gate r.arrives ≤ m → m ≤ ready gate (lands_by r) → first_open (extract gate target (windows_of gate target r vs ++ ws) vs) r.to m ≡ first_open vs r.to m
  landing_taken r vs o ws away safe e m late early =
      let found = first_before vs o r.to m safe (found_member vs r.to (ready gate (lands_by r)) e)
      (boards_earlier safe.ride r.to (ready gate (lands_by r)) m early (found_boards vs r.to (ready gate (lands_by r)) e)) in
      extract_first vs _ r.to m found.1
      (windows_want r vs ws away e found.0.ride
      (boards_earlier found.0.ride r.to m (ready gate r.arrives) late (found_boards vs r.to m found.1)) (no_later found.0 found.2))
      ∙ sym found.1
    where
      no_later : (u : Valued) → (u ≡ safe) ⊎ Before u safe → u.ride.departs ≤ safe.ride.departs
      no_later u (inl q) = le_of_eq (ap (λ (x : Valued). x.ride.departs) q)
      no_later u (inr b) = b.minutes

  -- so a ride is worth the same among those taken
  worth_taken :
      (r : Ride) (vs : List Valued) → Ordered vs → (ws : List Window) → Moves r
      → (r.to ≢ target → (safe : Valued) × (first_open vs r.to (ready gate (lands_by r)) ≡ some safe))
      → land_worth gate target r vs ≡ land_worth gate target r (extract gate target (windows_of gate target r vs ++ ws) vs)
  unfolding land_worth
  worth_taken r vs o ws moves on =
      ifb (λ b. eqb r.to target ≡ b → land_worth gate target r vs ≡ land_worth gate target r (extract gate target (windows_of gate target r vs ++ ws) vs))
      (eqb r.to target)
      (λ e _. cond_true (arrival_worth r) _ e ∙ sym (cond_true (arrival_worth r) _ e))
      (λ e _. let found = on (eqb-false r.to target e) in
      land_same gate target r vs _ moves.delays
      (λ m late early. sym (landing_taken r vs o ws (eqb-false r.to target e) found.0 found.1 m late early))) refl

  -- those taken are worth what those taken behind them give
  pub extract_own : {vs : List Valued} → OwnWorth gate target vs → Ordered vs → (ws : List Window) → OwnWorth gate target (extract gate target ws vs)
  unfolding extract
  extract_own own.nobody o ws = own.nobody
  extract_own (own.ahead {v} {vs} moves worth on rest) (ahead before o) ws =
      on_taking (OwnWorth gate target (extract gate target ws (v ∷ vs))) ws v vs
      (λ _ h. subst (λ (l : List Valued). OwnWorth gate target l) (sym h)
      (own.ahead moves (worth ∙ worth_taken v.ride vs o ws moves on)
      (λ away. let found = on away in
      (found.0, landing_taken v.ride vs o ws away found.0 found.1 (ready gate (lands_by v.ride)) (omega arith) (omega arith) ∙ found.1))
      (extract_own rest o (windows_of gate target v.ride vs ++ ws))))
      (λ _ h. subst (λ (l : List Valued). OwnWorth gate target l) (sym h) (extract_own rest o ws))
