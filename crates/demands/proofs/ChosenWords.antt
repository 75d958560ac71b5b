-- The chosen rows are exactly those that document 01's words choose, with margin 1. Uses rising departures.
use Prim.Native.Nat.{ℕ, suc, zero-le, ◌+◌, ◌-◌, ◌≤◌, ◌<◌}
use native.Mathlib.Nat.{lt_of_not-le, eq-or-lt_of_le}
use native.Mathlib.Omega.{arith}
use mathlib.Core.Bool.{true}
use mathlib.Core.List.{List, Memᴰ}
use mathlib.Core.Logic.{⊎_elim, ◌≢◌, ◌↔◌}
use mathlib.Core.Option.{some}
use mathlib.Core.Path.{◌≡◌, sym, ap, ap₂, subst, ◌∙◌}
use lib.ListN.{length}
use Rattle.laws.proofs.Options.{absent, same_thing}
use Rattle.timetable.specs.Timetable.{Timetable, row_of}
use Rattle.query.specs.Query.{least_margin}
use Rattle.plans.specs.declared.Goal.{Goal}
use Rattle.plans.specs.Sound.{Timely}
use Rattle.plans.specs.Rides.{opens, boards}
use Rattle.plans.specs.Worth.{Valued, first_open}
use Rattle.plans.specs.Chosen.{in_ticks}
use Rattle.plans.specs.Plan.{chosen_for}
use Rattle.demands.specs.Words.{best_ride, HasWorth, Chosen}
use Rattle.demands.specs.MarginWords.{Gains}
use Rattle.plans.proofs.Open.{can_board, boards_stop, boards_minute, found_member, found_boards}
use Rattle.plans.proofs.AtMost.{found_at_most}
use Rattle.plans.proofs.Order.{Ordered, first_before}
use Rattle.plans.proofs.Gaining.{Gaining, leads_each}
use Rattle.plans.proofs.BestRides.{Boards, best_boards, Picked, chosen_picked}
use Rattle.plans.proofs.FirstLeast.{chosen_ordered, chosen_gaining, first_least}
use Rattle.plans.proofs.InTicks.{chosen_in_ticks, best_in_ticks}
use Rattle.plans.proofs.Made.{chosen_for_lem}
use Rattle.demands.proofs.BestRide.{best_ride_lem, best_past, weighs, has_worth}
use Rattle.demands.proofs.ByMargin.{first_at_member, gains_inside, gains_best, gains_lead, kept}

module _ (t : Timetable) (goal : Goal) (timely : Timely t) where
  -- who can board a row finds a first chosen row that is worth less than the margin more
  pub first_chosen_least :
      (i w s m : ℕ) → HasWorth t goal i w → opens (row_of t.rows i).board (row_of t.rows i).departure s m ≡ true → s ≢ goal.target
      → (v : Valued) × (first_open (chosen_for t goal) s m ≡ some v) × (v.worth ≤ w + (goal.margin - 1))
  first_chosen_least i w s m h open' elsewhere =
      let u = weighs t goal i w h in
      let here : boards u.ride.ride s m ≡ true = ap₂ (λ (a b : ℕ). opens a b s m) u.at.stop u.at.minute ∙ open' in
      let there : u.ride.ride.from ≡ s = boards_stop u.ride.ride s m here in
      let first = first_least (in_ticks goal) t timely 0 zero-le i zero-le u.inside u.ride u.best
      (λ e. elsewhere (sym there ∙ e)) m
      (boards_minute u.ride.ride s m here) in
      found_at_most ((v : Valued) × (first_open (chosen_for t goal) s m ≡ some v) × (v.worth ≤ w + (goal.margin - 1))) first
      (λ v e c. (
        v,
        ap₂ (λ (l : List Valued) (x : ℕ). first_open l x m) (chosen_for_lem t goal) (sym there) ∙ e,
        (let z : v.worth ≤ w + (goal.margin - 1) = omega (arith, c, u.worth) in z),
      ))

  -- with margin 1
  module _ (one : goal.margin ≡ least_margin) where
    -- among the chosen rows from row k on, a row with a worth finds one at its stop, at its minute or later, that is worth no more
    record Finds (k : ℕ) (u : Valued) : Type 0 where
      first : Valued
      is_first : first_open (chosen_in_ticks t goal k) u.ride.from u.ride.departs ≡ some first
      member : Memᴰ first (chosen_in_ticks t goal k)
      there : first.ride.from ≡ u.ride.from
      then : u.ride.departs ≤ first.ride.departs
      cheap : first.worth ≤ u.worth

    row_finds :
        (k j : ℕ) → k ≤ j → j < length t.rows → (u : Valued) → best_in_ticks t goal j ≡ some u → u.ride.from ≢ goal.target → Finds k u
    row_finds k j a b u e elsewhere =
        found_at_most (Finds k u)
        (first_least (in_ticks goal) t timely k (let z : k ≤ length t.rows = omega arith in z) j a b u e elsewhere
        u.ride.departs
        (let z : u.ride.departs ≤ u.ride.departs = omega arith in z))
        (λ x q h. let opens = found_boards _ u.ride.from u.ride.departs q in
        record {
          first = x;
          is_first = q;
          member = found_member _ u.ride.from u.ride.departs q;
          there = boards_stop x.ride u.ride.from u.ride.departs opens;
          then = boards_minute x.ride u.ride.from u.ride.departs opens;
          cheap = (let z : x.worth ≤ u.worth = omega (arith, h, one) in z);
        })

    module _ (v : Valued) (member : Memᴰ v (chosen_in_ticks t goal 0)) where
      picked : Picked (in_ticks goal) t 0 v
      picked = chosen_picked (in_ticks goal) t 0 zero-le v member

      here : Boards (in_ticks goal) t v.ride.board v
      here = best_boards (in_ticks goal) t v.ride.board picked.inside v picked.best

      order : Ordered (chosen_in_ticks t goal 0)
      order = chosen_ordered (in_ticks goal) t timely 0 zero-le

      gain : Gaining goal.margin (chosen_in_ticks t goal 0)
      gain = chosen_gaining (in_ticks goal) t timely 0 zero-le

      -- below every later-minute row at its stop
      below :
          (j w : ℕ) → HasWorth t goal j w → (row_of t.rows j).board ≡ (row_of t.rows v.ride.board).board
          → (row_of t.rows v.ride.board).departure < (row_of t.rows j).departure → v.worth < w
      below j w h stop later =
          let u = weighs t goal j w h in
          let same : u.ride.ride.from ≡ v.ride.from = u.at.stop ∙ stop ∙ sym here.stop in
          let f = row_finds 0 j zero-le u.inside u.ride u.best (λ e. picked.elsewhere (sym same ∙ e)) in
          let late : v.ride.departs < f.first.ride.departs = omega (arith, f.then, u.at.minute, here.minute) in
          omega (arith, gain v f.first member f.member (sym (f.there ∙ same)) late, f.cheap, u.worth, one)

      -- the least of its own minute
      least_then :
          (j w : ℕ) → HasWorth t goal j w → (row_of t.rows j).board ≡ (row_of t.rows v.ride.board).board
          → (row_of t.rows j).departure ≡ (row_of t.rows v.ride.board).departure → v.worth ≤ w
      least_then j w h stop minute =
          let u = weighs t goal j w h in
          let same : u.ride.ride.from ≡ v.ride.from = u.at.stop ∙ stop ∙ sym here.stop in
          let then : u.ride.ride.departs ≡ v.ride.departs = u.at.minute ∙ minute ∙ sym here.minute in
          let f = row_finds 0 j zero-le u.inside u.ride u.best (λ e. picked.elsewhere (sym same ∙ e)) in
          let g = first_before (chosen_in_ticks t goal 0) order u.ride.ride.from u.ride.ride.departs v member
          (can_board v.ride u.ride.ride.from u.ride.ride.departs (sym same)
          (let z : u.ride.ride.departs ≤ v.ride.departs = omega arith in z)) in
          let one : g.0 ≡ f.first = same_thing (sym g.1 ∙ f.is_first) in
          ⊎_elim (λ e. let c : v.worth ≡ f.first.worth = ap (λ (x : Valued). x.worth) (sym e ∙ one) in omega (arith, f.cheap, u.worth))
          (λ b. absurd (let c : g.0.ride.departs < v.ride.departs = b.apart (ap (λ (x : Valued). x.ride.from) one ∙ f.there ∙ same) in
          let d : g.0.ride.departs ≡ f.first.ride.departs = ap (λ (x : Valued). x.ride.departs) one in
          let z : ⊥ = omega (arith, f.then) in z)) g.2

      -- the highest row number deciding among equals
      highest : (j w : ℕ) → HasWorth t goal j w → (row_of t.rows j).board ≡ (row_of t.rows v.ride.board).board → v.worth ≡ w
          → j ≤ v.ride.board
      highest j w h stop equal =
          let back : j < suc v.ride.board = lt_of_not-le
          (λ later. let u = weighs t goal j w h in
          let same : u.ride.ride.from ≡ v.ride.from = u.at.stop ∙ stop ∙ sym here.stop in
          let f = row_finds (suc v.ride.board) j later u.inside u.ride u.best (λ e. picked.elsewhere (sym same ∙ e)) in
          let c : v.worth + goal.margin ≤ f.first.worth = leads_each goal.margin (chosen_in_ticks t goal (suc v.ride.board))
          (chosen_ordered (in_ticks goal) t timely (suc v.ride.board) picked.inside)
          (chosen_gaining (in_ticks goal) t timely (suc v.ride.board) picked.inside) v.worth v.ride.from
          picked.leading f.first f.member
          (f.there ∙ same) in
          let z : ⊥ = omega (arith, f.cheap, u.worth, one) in z) in
          omega arith

      pub is_chosen : Chosen t goal v.ride.board
      is_chosen =
          record {
            worth = v.worth;
            has_worth = has_worth t goal v.ride.board picked.inside v picked.best;
            not_at_target = λ e. picked.elsewhere (here.stop ∙ e);
            below_later = below;
            least_of_minute = λ j w h stop minute. (least_then j w h stop minute, highest j w h stop);
          }

    module _ (v : Valued) (inside : v.ride.board < length t.rows) (best : best_in_ticks t goal v.ride.board ≡ some v)
        (words : Chosen t goal v.ride.board) where
      own_worth : words.worth ≡ v.worth
      own_worth = same_thing (sym words.has_worth ∙ has_worth t goal v.ride.board inside v best)

      stands : Boards (in_ticks goal) t v.ride.board v
      stands = best_boards (in_ticks goal) t v.ride.board inside v best

      -- it is worth less than each chosen row at its stop behind it
      below_behind : (x : Valued) → Memᴰ x (chosen_in_ticks t goal (suc v.ride.board)) → x.ride.from ≡ v.ride.from → v.worth < x.worth
      below_behind x m there =
          let p = chosen_picked (in_ticks goal) t (suc v.ride.board) inside x m in
          let at = best_boards (in_ticks goal) t x.ride.board p.inside x p.best in
          let h = has_worth t goal x.ride.board p.inside x p.best in
          let stop : (row_of t.rows x.ride.board).board ≡ (row_of t.rows v.ride.board).board = sym at.stop ∙ there ∙ stands.stop in
          let before : v.ride.board ≤ x.ride.board = omega (arith, p.here) in
          ⊎_elim
          (λ minute. let c = words.least_of_minute x.ride.board x.worth h stop (sym minute) in
          below_unless x.worth c.0 (λ e. let d : x.ride.board ≤ v.ride.board = c.1 e in let z : ⊥ = omega (arith, p.here) in z))
          (λ later. let c : words.worth < x.worth = words.below_later x.ride.board x.worth h stop later in omega (arith, own_worth))
          (eq-or-lt_of_le (timely.rising v.ride.board x.ride.board before p.inside))
        where
          below_unless : (w : ℕ) → words.worth ≤ w → (words.worth ≡ w → ⊥) → v.worth < w
          below_unless w h no_tie = omega (arith, own_worth)

      gains : Gains t goal v
      gains =
          record {
            its_ride = best_ride_lem t goal v.ride.board inside ∙ best;
            not_at_target = λ e. words.not_at_target (sym stands.stop ∙ e);
            gained =
                λ current first. let found = first_at_member (chosen_in_ticks t goal (suc v.ride.board)) v.ride.from first in
                let z : v.worth + goal.margin ≤ current.worth = omega (arith, below_behind current found.0 found.1, one) in z;
          }

      -- and no row of its minute replaces it
      pub chosen_is : Memᴰ v (chosen_in_ticks t goal 0)
      chosen_is =
          kept t goal v gains
          (λ u g before m there then. let row = gains_inside t goal u g in
          let e = gains_best t goal u g in
          let at = best_boards (in_ticks goal) t u.ride.board row u e in
          let c : words.worth ≤ u.worth = (words.least_of_minute u.ride.board u.worth (has_worth t goal u.ride.board row u e)
          (sym at.stop ∙ there ∙ stands.stop) (sym at.minute ∙ then ∙ stands.minute)).0 in
          let d : u.worth + goal.margin ≤ v.worth = leads_each goal.margin (chosen_in_ticks t goal (suc u.ride.board))
          (chosen_ordered (in_ticks goal) t timely (suc u.ride.board) row)
          (chosen_gaining (in_ticks goal) t timely (suc u.ride.board) row) u.worth u.ride.from (gains_lead t goal u g) v m (sym there) in
          let z : ⊥ = omega (arith, own_worth, one) in z)

    pub chosen_in_words :
        (v : Valued) → Memᴰ v (chosen_for t goal) ↔
        (Chosen t goal v.ride.board × (best_ride t goal v.ride.board ≡ some v))
    chosen_in_words v = (
      λ m. let there = subst (λ (l : List Valued). Memᴰ v l) (chosen_for_lem t goal) m in
          let p = picked v there in (is_chosen v there, best_ride_lem t goal v.ride.board p.inside ∙ p.best),
      λ w. let inside : v.ride.board < length t.rows = lt_of_not-le (λ past. absent (sym (best_past t goal v.ride.board past) ∙ w.1)) in
          subst (λ (l : List Valued). Memᴰ v l) (sym (chosen_for_lem t goal))
          (chosen_is v inside (sym (best_ride_lem t goal v.ride.board inside) ∙ w.1) w.0),
    )
