-- Rows that have left by minute T change nothing for one who boards at or after T, nor for the rides that follow. Assumes nothing.
use Prim.Native.Nat.{ℕ, ◌≤◌, ◌<◌}
use native.Mathlib.Omega.{arith}
use mathlib.Core.Bool.{Bool, true, false, cond, ◌&&◌, ◌||◌}
use mathlib.Core.List.{List, [], ◌∷◌, ◌++◌, Memᴰ}
use mathlib.Core.Option.{Option, none, some}
use mathlib.Core.Path.{◌≡◌, refl, sym, ap, ap₂, subst, ◌∙◌}
use lib.Dec.{leb, eqb}
use borrow.Author.Tests.{leb-true, leb-false, eqb-true, lt-leb}
use Rattle.laws.proofs.Tests.{ifb, both_right, cond_false}
use Rattle.plans.specs.Rides.{Ride, lands_by, ready, boards}
use Rattle.plans.specs.Worth.{Valued, first_open}
use Rattle.plans.specs.Chosen.{Aim, others}
use Rattle.plans.specs.Plan.{Window, in_window, wanted, up_to, windows_of, extract}
use Rattle.plans.proofs.Open.{too_late, first_further, first_here, on_head}
use Rattle.plans.proofs.Choice.{Choice, worthless, at_target, behind, added, same_minute}

-- those that depart at or after minute m
unfoldable pub not_left : ℕ → List Valued → List Valued
not_left m [] = []
not_left m (v ∷ vs) = let rest = not_left m vs in cond (leb m v.ride.departs) (v ∷ rest) rest

left_out : (m : ℕ) (v : Valued) (vs : List Valued) → v.ride.departs < m → not_left m (v ∷ vs) ≡ not_left m vs
unfolding not_left
left_out m v vs gone = cond_false (v ∷ not_left m vs) (not_left m vs) (lt-leb m v.ride.departs gone)

-- a choice among those that have left changes none of the others
others_left : (m : ℕ) (r : Ride) (vs : List Valued) → r.departs < m → not_left m (others r vs) ≡ not_left m vs
unfolding others not_left
others_left m r [] gone = refl
others_left m r (v ∷ vs) gone =
    ifb (λ b. same_minute v.ride r ≡ b → not_left m (cond b (others r vs) (v ∷ others r vs)) ≡ not_left m (v ∷ vs)) (same_minute v.ride r)
    (λ e _. others_left m r vs gone ∙ sym (left_out m v vs (subst (λ d. d < m) (sym (same_departure e)) gone)))
    (λ _ _. ap (λ (l : List Valued). cond (leb m v.ride.departs) (v ∷ l) l) (others_left m r vs gone)) refl
  where
    same_departure : same_minute v.ride r ≡ true → v.ride.departs ≡ r.departs
    same_departure e =
        eqb-true v.ride.departs r.departs (both_right (eqb v.ride.from r.from) (eqb v.ride.departs r.departs) e)

pub choice_left : (m : ℕ) (aim : Aim) {best : Option Valued} {old new : List Valued} → Choice aim old best new
    → ((v : Valued) → best ≡ some v → v.ride.departs < m) → not_left m new ≡ not_left m old
choice_left m aim worthless gone = refl
choice_left m aim (at_target p) gone = refl
choice_left m aim (behind p) gone = refl
choice_left m aim {old = old} (added {v = v} apart lead) gone =
    left_out m v (others v.ride old) (gone v refl) ∙ others_left m v.ride old (gone v refl)

-- who comes at or after m finds the same first ride
pub first_left : (m : ℕ) (vs : List Valued) (stop minute : ℕ) → m ≤ minute → first_open (not_left m vs) stop minute ≡ first_open vs stop minute
unfolding not_left
first_left m [] stop minute late = refl
first_left m (v ∷ vs) stop minute late =
    ifb (λ b. leb m v.ride.departs ≡ b → first_open (cond b (v ∷ not_left m vs) (not_left m vs)) stop minute ≡ first_open (v ∷ vs) stop minute)
    (leb m v.ride.departs)
    (λ _ _. on_head (first_open (v ∷ not_left m vs) stop minute ≡ first_open (v ∷ vs) stop minute) v vs stop minute
    (λ b h. first_here v (not_left m vs) stop minute b ∙ sym h)
    (λ b h. first_further v (not_left m vs) stop minute b ∙ first_left m vs stop minute late ∙ sym h))
    (λ e _. first_left m vs stop minute late
    ∙ sym (first_further v vs stop minute
    (too_late v.ride stop minute (let z : v.ride.departs < minute = omega (arith, leb-false m v.ride.departs e) in z))))
    refl

-- windows that open at or after m
abbrev pub Late : ℕ → List Window → Type 0
Late m [] = Unit {0}
Late m (w ∷ ws) = (m ≤ w.minute) × Late m ws

late_more : (m : ℕ) (ws us : List Window) → Late m ws → Late m us → Late m (ws ++ us)
late_more m [] us l k = k
late_more m (w ∷ ws) us l k = (l.0, late_more m ws us l.1 k)

pub late_up_to : (m stop minute : ℕ) (o : Option Valued) → m ≤ minute → Late m (up_to stop minute o)
unfolding up_to
late_up_to m stop minute none late = tt
late_up_to m stop minute (some v) late = (late, tt)

late_windows : (m gate target : ℕ) (r : Ride) (vs : List Valued) → m ≤ r.arrives → Late m (windows_of gate target r vs)
unfolding windows_of
late_windows m gate target r vs late =
    ifb (λ b. Late m (cond b [] (up_to r.to (ready gate r.arrives) (first_open vs r.to (ready gate (lands_by r)))))) (eqb r.to target) (λ _. tt)
    (λ _. late_up_to m r.to (ready gate r.arrives) (first_open vs r.to (ready gate (lands_by r))) (omega arith))

-- want none that has left
unwanted : (m : ℕ) (ws : List Window) → Late m ws → (r : Ride) → r.departs < m → wanted ws r ≡ false
unfolding wanted in_window
unwanted m [] l r gone = refl
unwanted m (w ∷ ws) l r gone =
    let shut : boards r w.stop w.minute ≡ false = too_late r w.stop w.minute (omega (arith, l.0)) in
    ap₂ (λ (a b : Bool). a && leb r.departs w.until || b) shut (unwanted m ws l.1 r gone)

-- so the rides taken are the same
module _ (m gate target : ℕ) where
  taken_same : (ws : List Window) (v : Valued) (vs us : List Valued)
      → first_open vs v.ride.to (ready gate (lands_by v.ride)) ≡ first_open us v.ride.to (ready gate (lands_by v.ride))
      → ((ws' : List Window) → Late m ws' → extract gate target ws' vs ≡ extract gate target ws' us) → Late m ws → m ≤ v.ride.arrives
      → extract gate target ws (v ∷ vs) ≡ extract gate target ws (v ∷ us)
  unfolding extract windows_of
  taken_same ws v vs us first rest late lands =
      ap₂ (λ (a b : List Valued). cond (wanted ws v.ride) (v ∷ a) b)
      (rest (windows_of gate target v.ride vs ++ ws) (late_more m (windows_of gate target v.ride vs) ws (late_windows m gate target v.ride vs lands) late)
      ∙ ap (λ (o : Option Valued). extract gate target (cond (eqb v.ride.to target) [] (up_to v.ride.to (ready gate v.ride.arrives) o) ++ ws) us) first)
      (rest ws late)

  pub extract_left : (vs : List Valued) → ((v : Valued) → Memᴰ v vs → v.ride.departs < v.ride.arrives) → (ws : List Window) → Late m ws
      → extract gate target ws vs ≡ extract gate target ws (not_left m vs)
  unfolding not_left extract
  extract_left [] forward ws late = refl
  extract_left (v ∷ vs) forward ws late =
      ifb (λ b. leb m v.ride.departs ≡ b → extract gate target ws (v ∷ vs) ≡ extract gate target ws (cond b (v ∷ not_left m vs) (not_left m vs)))
      (leb m v.ride.departs)
      (λ e _. taken_same ws v vs (not_left m vs)
      (sym (first_left m vs v.ride.to (ready gate (lands_by v.ride))
      (let z : m ≤ ready gate (lands_by v.ride) = omega (arith, leb-true m v.ride.departs e, forward v (Memᴰ.head refl)) in z)))
      (λ ws' l. extract_left vs (λ u k. forward u (Memᴰ.tail k)) ws' l) late
      (let z : m ≤ v.ride.arrives = omega (arith, leb-true m v.ride.departs e, forward v (Memᴰ.head refl)) in z))
      (λ e _. passed (leb-false m v.ride.departs e) ∙ extract_left vs (λ u k. forward u (Memᴰ.tail k)) ws late) refl
    where
      passed : v.ride.departs < m → extract gate target ws (v ∷ vs) ≡ extract gate target ws vs
      passed gone = cond_false _ _ (unwanted m ws late v.ride gone)
