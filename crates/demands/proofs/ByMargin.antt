-- The chosen rows are exactly those that document 02's words choose, whatever the margin. Assumes nothing.
use Prim.Native.Nat.{ℕ, suc, zero-le, ◌+◌, ◌≤◌, ◌<◌}
use native.Mathlib.Nat.{lt_of_not-le, eq-or-lt_of_le}
use native.Mathlib.Omega.{arith}
use mathlib.Core.Bool.{true, cond, false≢true}
use mathlib.Core.List.{List, [], ◌∷◌, Memᴰ}
use mathlib.Core.Logic.{⊎_elim, ◌≢◌, ◌↔◌}
use mathlib.Core.Option.{Option, none, some}
use mathlib.Core.Path.{◌≡◌, refl, sym, ap, subst, ◌∙◌}
use lib.Dec.{leb, eqb}
use lib.ListN.{length}
use borrow.Author.Tests.{eqb-true, leb-true, le-leb}
use Rattle.laws.proofs.Options.{absent, same_thing}
use Rattle.laws.proofs.Tests.{ifb}
use Rattle.laws.proofs.Members.{head_or_later}
use Rattle.laws.proofs.Downward.{downward}
use Rattle.timetable.specs.Timetable.{Timetable}
use Rattle.plans.specs.declared.Goal.{Goal}
use Rattle.plans.specs.Worth.{Valued}
use Rattle.plans.specs.Chosen.{Aim, in_ticks, leads, first_at, others, choose}
use Rattle.plans.specs.Plan.{chosen_for}
use Rattle.demands.specs.MarginWords.{Gains, ChosenBy}
use Rattle.plans.proofs.FromRow.{chosen_row, chosen_end}
use Rattle.plans.proofs.Choice.{Choice, worthless, at_target, behind, added, choice, others_member, others_apart, others_kept}
use Rattle.plans.proofs.BestRides.{best_boards, Picked, picked_here, chosen_picked}
use Rattle.plans.proofs.InTicks.{chosen_in_ticks, best_in_ticks}
use Rattle.plans.proofs.Made.{chosen_for_lem}
use Rattle.demands.proofs.BestRide.{best_ride_lem, best_past}

-- to lead is to gain the margin on the stop's current first chosen row, if it has one
leads_gains : (margin w : ℕ) (o : Option Valued) → leads margin w o ≡ true → (current : Valued) → o ≡ some current → w + margin ≤ current.worth
unfolding leads
leads_gains margin w none lead current e = absent e
leads_gains margin w (some first) lead current e =
    subst (λ (x : Valued). w + margin ≤ x.worth) (same_thing e) (leb-true (w + margin) first.worth lead)

gains_leads : (margin w : ℕ) (o : Option Valued) → ((current : Valued) → o ≡ some current → w + margin ≤ current.worth) → leads margin w o ≡ true
unfolding leads
gains_leads margin w none gained = refl
gains_leads margin w (some first) gained = le-leb (w + margin) first.worth (gained first refl)

-- the stop's first chosen row is a chosen row of that stop
pub first_at_member : (vs : List Valued) (s : ℕ) {x : Valued} → first_at vs s ≡ some x → Memᴰ x vs × (x.ride.from ≡ s)
unfolding first_at
first_at_member [] s e = absent e
first_at_member (v ∷ vs) s {x} e =
    ifb (λ b. eqb v.ride.from s ≡ b → cond b (some v) (first_at vs s) ≡ some x → Memᴰ x (v ∷ vs) × (x.ride.from ≡ s)) (eqb v.ride.from s)
    (λ here _ q. (
      mathlib.Core.List.Memᴰ.head (sym (same_thing q)),
      subst (λ (u : Valued). u.ride.from ≡ s) (same_thing q) (eqb-true v.ride.from s here),
    ))
    (λ _ _ q. let found = first_at_member vs s q in (mathlib.Core.List.Memᴰ.tail found.0, found.1)) refl e

-- a row that leads joins the chosen rows, and all stay but those of its stop and minute
choice_adds :
    (aim : Aim) {old new : List Valued} {v : Valued} → Choice aim old (some v) new → v.ride.from ≢ aim.target
    → leads aim.margin v.worth (first_at old v.ride.from) ≡ true → new ≡ v ∷ others v.ride old
choice_adds aim (at_target p) elsewhere lead = absurd (elsewhere p)
choice_adds aim (behind led) elsewhere lead = absurd (false≢true (sym led ∙ lead))
choice_adds aim (added apart lead') elsewhere lead = refl

-- a chosen row stays so unless another of its stop and minute replaces it
choice_keeps :
    (aim : Aim) {best : Option Valued} {old new : List Valued} → Choice aim old best new → (v : Valued) → Memᴰ v old
    → ((u : Valued) → best ≡ some u → u.ride.from ≢ aim.target → leads aim.margin u.worth (first_at old u.ride.from) ≡ true
    → v.ride.from ≡ u.ride.from → v.ride.departs ≢ u.ride.departs)
    → Memᴰ v new
choice_keeps aim worthless v m alone = m
choice_keeps aim (at_target p) v m alone = m
choice_keeps aim (behind p) v m alone = m
choice_keeps aim {old = old} (added {v = u} apart lead) v m alone = mathlib.Core.List.Memᴰ.tail (others_kept u.ride old m (alone u refl apart lead))

-- a chosen row that is not the new one was chosen before
choice_came :
    (aim : Aim) {best : Option Valued} {old new : List Valued} → Choice aim old best new → (v : Valued) → Memᴰ v new
    → ((u : Valued) → best ≡ some u → v ≢ u) → Memᴰ v old
choice_came aim worthless v m other = m
choice_came aim (at_target p) v m other = m
choice_came aim (behind p) v m other = m
choice_came aim {old = old} (added {v = u} apart lead) v m other =
    head_or_later (Memᴰ v old) m (λ q. absurd (other u refl q)) (λ n. others_member u.ride old n)

module _ (t : Timetable) (goal : Goal) where
  abbrev aim : Aim
  aim = in_ticks goal

  abbrev chosen : ℕ → List Valued
  chosen i = chosen_in_ticks t goal i

  pub picked_gains : {i : ℕ} (v : Valued) → Picked aim t i v → Gains t goal v
  picked_gains v p =
      record {
        its_ride = best_ride_lem t goal v.ride.board p.inside ∙ p.best;
        not_at_target = p.elsewhere;
        gained = leads_gains goal.margin v.worth _ p.leading;
      }

  module _ (v : Valued) (g : Gains t goal v) where
    pub gains_inside : v.ride.board < length t.rows
    gains_inside = lt_of_not-le (λ past. absent (sym (best_past t goal v.ride.board past) ∙ g.its_ride))

    pub gains_best : best_in_ticks t goal v.ride.board ≡ some v
    gains_best = sym (best_ride_lem t goal v.ride.board gains_inside) ∙ g.its_ride

    pub gains_lead : leads goal.margin v.worth (first_at (chosen (suc v.ride.board)) v.ride.from) ≡ true
    gains_lead = gains_leads goal.margin v.worth _ g.gained

    -- at its turn it joins the chosen rows, in place of those of its stop and minute
    joins : chosen v.ride.board ≡ v ∷ others v.ride (chosen (suc v.ride.board))
    joins =
        chosen_row aim t v.ride.board gains_inside
        ∙ choice_adds aim
        (subst (λ (o : Option Valued). Choice aim later o (choose aim (best_in_ticks t goal v.ride.board) later)) gains_best
        (choice aim (best_in_ticks t goal v.ride.board) later)) g.not_at_target gains_lead
      where
        later : List Valued
        later = chosen (suc v.ride.board)

  -- a row that gains is chosen, unless another of its stop and minute comes that gains too
  pub kept :
      (v : Valued) → Gains t goal v
      → ((u : Valued) → Gains t goal u → u.ride.board < v.ride.board → Memᴰ v (chosen (suc u.ride.board))
      → u.ride.from ≡ v.ride.from → u.ride.departs ≢ v.ride.departs)
      → Memᴰ v (chosen 0)
  kept v g alone =
      downward (λ k. Memᴰ v (chosen k)) v.ride.board
      (subst (λ (l : List Valued). Memᴰ v l) (sym (joins v g)) (mathlib.Core.List.Memᴰ.head refl)) stays 0 zero-le
    where
      stays : (k : ℕ) → k < v.ride.board → Memᴰ v (chosen (suc k)) → Memᴰ v (chosen k)
      stays k before m =
          let row : k < length t.rows = omega (arith, gains_inside v g) in
          subst (λ (l : List Valued). Memᴰ v l) (sym (chosen_row aim t k row))
          (choice_keeps aim (choice aim (best_in_ticks t goal k) (chosen (suc k))) v m
          (λ u e apart lead there then. let at = (best_boards aim t k row u e).row in
          alone u (picked_gains u (picked_here aim t k row u e apart lead)) (let z : u.ride.board < v.ride.board = omega arith in z)
          (subst (λ (i : ℕ). Memᴰ v (chosen (suc i))) (sym at) m) (sym there) (sym then)))

  -- a chosen row was not replaced: no row of its stop and minute that was taken after it gains
  unreplaced :
      (i : ℕ) → i ≤ length t.rows → (v : Valued) → Memᴰ v (chosen i) → (u : Valued) → Gains t goal u → i ≤ u.ride.board
      → u.ride.board < v.ride.board → u.ride.from ≡ v.ride.from → u.ride.departs ≢ v.ride.departs
  unreplaced = downward Alone (length t.rows)
      (λ v m. absurd (mathlib.Core.List.Memᴰ.not-nil (subst (λ (l : List Valued). Memᴰ v l) (chosen_end aim t) m))) back
    where
      Alone : ℕ → Type 0
      Alone i =
          (v : Valued) → Memᴰ v (chosen i) → (u : Valued) → Gains t goal u → i ≤ u.ride.board
          → u.ride.board < v.ride.board → u.ride.from ≡ v.ride.from → u.ride.departs ≢ v.ride.departs

      back : (i : ℕ) → i < length t.rows → Alone (suc i) → Alone i
      back i h later v m u g a before there =
          ⊎_elim
          (λ at. let n : Memᴰ v (u ∷ others u.ride (chosen (suc u.ride.board))) =
          subst (λ (l : List Valued). Memᴰ v l) (ap chosen at ∙ joins u g) m in
          head_or_later (u.ride.departs ≢ v.ride.departs) n
          (λ q. absurd (let b : v.ride.board ≡ u.ride.board = ap (λ (x : Valued). x.ride.board) q in let z : ⊥ = omega arith in z))
          (λ k then. others_apart u.ride (chosen (suc u.ride.board)) k (sym there) (sym then)))
          (λ further. later v
          (choice_came aim (choice aim (best_in_ticks t goal i) (chosen (suc i))) v
          (subst (λ (l : List Valued). Memᴰ v l) (chosen_row aim t i h) m)
          (λ x e q. let at = (best_boards aim t i h x e).row in
          let b : v.ride.board ≡ x.ride.board = ap (λ (y : Valued). y.ride.board) q in let z : ⊥ = omega arith in z))
          u g further before there)
          (eq-or-lt_of_le a)

  pub chosen_by_margin : (v : Valued) → Memᴰ v (chosen_for t goal) ↔ ChosenBy t goal v
  chosen_by_margin v = (
    λ m. let there = subst (λ (l : List Valued). Memᴰ v l) (chosen_for_lem t goal) m in
        record {
          gains = picked_gains v (chosen_picked aim t 0 zero-le v there);
          not_replaced = λ u g before. unreplaced 0 zero-le v there u g zero-le before;
        },
    λ c. subst (λ (l : List Valued). Memᴰ v l) (sym (chosen_for_lem t goal))
        (kept v c.gains (λ u g before _. c.not_replaced u g before)),
  )
