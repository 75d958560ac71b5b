-- The first chosen row that can be boarded is worth less than the margin more than the least that can be. Uses rising departures.
use Prim.Native.Nat.{ℕ, suc, ◌+◌, ◌-◌, ◌≤◌, ◌<◌}
use native.Mathlib.Nat.{eq-or-lt_of_le}
use native.Mathlib.Omega.{arith}
use mathlib.Core.Bool.{cond}
use mathlib.Core.List.Memᴰ
use mathlib.Core.List.{List, [], ◌∷◌, Memᴰ}
use mathlib.Core.Logic.{◌⊎◌, inl, inr, ◌≢◌}
use mathlib.Core.Option.{Option, some}
use mathlib.Core.Path.{◌≡◌, refl, sym, ap, subst, ◌∙◌}
use lib.ListN.{length}
use Rattle.laws.proofs.Tests.{ifb}
use Rattle.laws.proofs.Members.{head_or_later}
use Rattle.laws.proofs.Downward.{downward}
use Rattle.timetable.specs.Timetable.{Timetable, row_of}
use Rattle.plans.specs.Sound.{Timely}
use Rattle.plans.specs.Rides.{Ride}
use Rattle.plans.specs.Worth.{Valued, first_open}
use Rattle.plans.specs.Chosen.{Aim, others, choose}
use Rattle.plans.proofs.Open.{can_board, boards_stop, first_here, on_head, found_member, found_boards}
use Rattle.plans.proofs.AtMost.{AtMost, is_at_most, found_at_most}
use Rattle.plans.specs.FromRow.{chosen_from, best_at}
use Rattle.plans.proofs.FromRow.{chosen_row, chosen_end}
use Rattle.plans.proofs.Choice.{Choice, same_minute, worthless, at_target, behind, added, choice, others_member, others_apart, others_first}
use Rattle.plans.proofs.Order.{Before, Ordered, nobody, ahead}
use Rattle.plans.proofs.Gaining.{Gaining, leads_each, led_by_first}
use Rattle.plans.proofs.BestRides.{best_boards, chosen_picked}

pub others_ordered : (r : Ride) (vs : List Valued) → Ordered vs → Ordered (others r vs)
unfolding others
others_ordered r [] o = o
others_ordered r (v ∷ vs) (ahead before o) =
    ifb (λ b. Ordered (cond b (others r vs) (v ∷ others r vs))) (same_minute v.ride r) (λ _. others_ordered r vs o)
    (λ _. ahead (λ u m. before u (others_member r vs m)) (others_ordered r vs o))

-- choosing one more row raises no worth of a first chosen row
pub choice_lowers :
    (aim : Aim) {best : Option Valued} {old new : List Valued} → Ordered old → Gaining aim.margin old → Choice aim old best new → (s m w : ℕ)
    → AtMost (first_open old s m) w → AtMost (first_open new s m) w
choice_lowers aim o gain worthless s m w a = a
choice_lowers aim o gain (at_target p) s m w a = a
choice_lowers aim o gain (behind p) s m w a = a
choice_lowers aim {old = old} o gain (added {v = v} apart lead) s m w a =
    on_head (AtMost (first_open (v ∷ others v.ride old) s m) w) v (others v.ride old) s m
    (λ b h. found_at_most (AtMost (first_open (v ∷ others v.ride old) s m) w) a
    (λ u e k. let below : v.worth + aim.margin ≤ u.worth = leads_each aim.margin old o gain v.worth v.ride.from lead u (found_member old s m e)
    (boards_stop u.ride s m (found_boards old s m e) ∙ sym (boards_stop v.ride s m b)) in
    is_at_most {v = v} h (omega arith)))
    (λ b h. subst (λ (x : Option Valued). AtMost x w) (sym (h ∙ others_first v.ride old s m b)) a)

-- and the new row finds one that is worth more by less than the margin
pub choice_finds :
    (aim : Aim) {old new : List Valued} {v : Valued} → Choice aim old (some v) new → v.ride.from ≢ aim.target
    → ((x : Valued) → Memᴰ x old → v.ride.departs ≤ x.ride.departs) → (m : ℕ) → m ≤ v.ride.departs
    → AtMost (first_open new v.ride.from m) (v.worth + (aim.margin - 1))
choice_finds aim (at_target p) elsewhere rising m h = absurd (elsewhere p)
choice_finds aim {old = old} {v = v} (behind led) elsewhere rising m h =
    led_by_first aim.margin old v.worth v.ride.from m led (λ x k. let z : v.ride.departs ≤ x.ride.departs = rising x k in omega arith)
choice_finds aim {old = old} {v = v} (added apart lead) elsewhere rising m h =
    is_at_most (first_here v (others v.ride old) v.ride.from m (can_board v.ride v.ride.from m refl h))
    (let z : v.worth ≤ v.worth + (aim.margin - 1) = omega arith in z)

module _ (aim : Aim) (t : Timetable) (timely : Timely t) where
  -- a chosen ride departs no earlier than the rows before its own
  pub chosen_rising :
      (i j : ℕ) → i ≤ j → j ≤ length t.rows → (x : Valued) → Memᴰ x (chosen_from aim t j)
      → (row_of t.rows i).departure ≤ x.ride.departs
  chosen_rising i j a b x m =
      let p = chosen_picked aim t j b x m in
      let z : (row_of t.rows i).departure ≤ (row_of t.rows x.ride.board).departure = timely.rising i x.ride.board (omega (arith, p.here))
      p.inside in
      subst (λ k. (row_of t.rows i).departure ≤ k) (sym (best_boards aim t x.ride.board p.inside x p.best).minute) z

  best_rising :
      (i : ℕ) → i < length t.rows → (v : Valued) → best_at aim t i ≡ some v → (x : Valued) → Memᴰ x (chosen_from aim t (suc i))
      → v.ride.departs ≤ x.ride.departs
  best_rising i h v e x m =
      subst (λ k. k ≤ x.ride.departs) (sym (best_boards aim t i h v e).minute)
      (chosen_rising i (suc i) (let z : i ≤ suc i = omega arith in z) h x m)

  ordered_by :
      (i : ℕ) → i < length t.rows → Ordered (chosen_from aim t (suc i)) → (best : Option Valued) (chosen : List Valued)
      → best_at aim t i ≡ best
      → Choice aim (chosen_from aim t (suc i)) best chosen → Ordered chosen
  ordered_by i h o best chosen e worthless = o
  ordered_by i h o best chosen e (at_target p) = o
  ordered_by i h o best chosen e (behind p) = o
  ordered_by i h o best chosen e (added {v = v} apart lead) = ahead first (others_ordered v.ride later o)
    where
      later : List Valued
      later = chosen_from aim t (suc i)

      first : (u : Valued) → Memᴰ u (others v.ride later) → Before v u
      first u m =
          let there = others_member v.ride later m in
          let p = chosen_picked aim t (suc i) h u there in
          let row = (best_boards aim t i h v e).row in
          let rise : v.ride.departs ≤ u.ride.departs = best_rising i h v e u there in
          record {
            rows = (let z : v.ride.board < u.ride.board = omega (arith, p.here) in z);
            minutes = rise;
            apart = (λ s. let d : u.ride.departs ≢ v.ride.departs = others_apart v.ride later m (sym s) in omega arith);
          }

  pub chosen_ordered : (i : ℕ) → i ≤ length t.rows → Ordered (chosen_from aim t i)
  chosen_ordered =
      downward (λ i. Ordered (chosen_from aim t i)) (length t.rows)
      (subst (λ (l : List Valued). Ordered l) (sym (chosen_end aim t)) nobody)
      (λ i h o. subst (λ (l : List Valued). Ordered l) (sym (chosen_row aim t i h))
      (ordered_by i h o _ _ refl (choice aim (best_at aim t i) (chosen_from aim t (suc i)))))

  gaining_by :
      (i : ℕ) → i < length t.rows → Gaining aim.margin (chosen_from aim t (suc i)) → (best : Option Valued) (chosen : List Valued)
      → best_at aim t i ≡ best → Choice aim (chosen_from aim t (suc i)) best chosen → Gaining aim.margin chosen
  gaining_by i h gain best chosen e worthless = gain
  gaining_by i h gain best chosen e (at_target p) = gain
  gaining_by i h gain best chosen e (behind p) = gain
  gaining_by i h gain best chosen e (added {v = v} apart lead) = first
    where
      later : List Valued
      later = chosen_from aim t (suc i)

      first : Gaining aim.margin (v ∷ others v.ride later)
      first a b m n there before =
          head_or_later (a.worth + aim.margin ≤ b.worth) m
          (λ p. head_or_later (a.worth + aim.margin ≤ b.worth) n
          (λ q. absurd (let z : ⊥ = omega (arith, ap (λ (x : Valued). x.ride.departs) p, ap (λ (x : Valued). x.ride.departs) q) in z))
          (λ k. subst (λ (x : Valued). x.worth + aim.margin ≤ b.worth) (sym p)
          (leads_each aim.margin later (chosen_ordered (suc i) h) gain v.worth v.ride.from lead b (others_member v.ride later k)
          (sym there ∙ ap (λ (x : Valued). x.ride.from) p))))
          (λ l. head_or_later (a.worth + aim.margin ≤ b.worth) n
          (λ q. absurd (let z : ⊥ =
          omega (arith, ap (λ (x : Valued). x.ride.departs) q, best_rising i h v e a (others_member v.ride later l)) in z))
          (λ k. gain a b (others_member v.ride later l) (others_member v.ride later k) there before))

  pub chosen_gaining : (i : ℕ) → i ≤ length t.rows → Gaining aim.margin (chosen_from aim t i)
  chosen_gaining =
      downward (λ i. Gaining aim.margin (chosen_from aim t i)) (length t.rows)
      (λ a b m. absurd (Memᴰ.not-nil (subst (λ (l : List Valued). Memᴰ a l) (chosen_end aim t) m)))
      (λ i h gain. subst (λ (l : List Valued). Gaining aim.margin l) (sym (chosen_row aim t i h))
      (gaining_by i h gain _ _ refl (choice aim (best_at aim t i) (chosen_from aim t (suc i)))))

  -- every row from row i on that can be boarded at a minute finds a first chosen row that is worth more by less than the margin
  pub first_least :
      (i : ℕ) → i ≤ length t.rows → (j : ℕ) → i ≤ j → j < length t.rows → (v : Valued) → best_at aim t j ≡ some v → v.ride.from ≢ aim.target
      → (m : ℕ)
      → m ≤ v.ride.departs → AtMost (first_open (chosen_from aim t i) v.ride.from m) (v.worth + (aim.margin - 1))
  first_least = downward Least (length t.rows) (λ j a b. absurd (let z : ⊥ = omega arith in z)) back
    where
      Least : ℕ → Type 0
      Least i =
          (j : ℕ) → i ≤ j → j < length t.rows → (v : Valued) → best_at aim t j ≡ some v → v.ride.from ≢ aim.target → (m : ℕ)
          → m ≤ v.ride.departs → AtMost (first_open (chosen_from aim t i) v.ride.from m) (v.worth + (aim.margin - 1))

      back : (i : ℕ) → i < length t.rows → Least (suc i) → Least i
      back i h later j a b v e elsewhere m k =
          subst (λ (l : List Valued). AtMost (first_open l v.ride.from m) (v.worth + (aim.margin - 1))) (sym (chosen_row aim t i h)) (step (eq-or-lt_of_le a))
        where
          step : (i ≡ j) ⊎ (i < j)
              → AtMost (first_open (choose aim (best_at aim t i) (chosen_from aim t (suc i))) v.ride.from m) (v.worth + (aim.margin - 1))
          step (inl q) =
              let here : best_at aim t i ≡ some v = subst (λ x. best_at aim t x ≡ some v) (sym q) e in
              choice_finds aim
              (subst (λ (o : Option Valued). Choice aim (chosen_from aim t (suc i)) o
              (choose aim (best_at aim t i) (chosen_from aim t (suc i)))) here
              (choice aim (best_at aim t i) (chosen_from aim t (suc i)))) elsewhere (best_rising i h v here) m k
          step (inr c) =
              choice_lowers aim (chosen_ordered (suc i) h) (chosen_gaining (suc i) h) (choice aim (best_at aim t i) (chosen_from aim t (suc i)))
              v.ride.from m (v.worth + (aim.margin - 1))
              (later j c b v e elsewhere m k)
