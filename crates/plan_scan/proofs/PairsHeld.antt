-- Worths, leaving rows and next rows: what weighing one more row leaves of them. Assumes nothing.
use Prim.Native.Nat.{ℕ, suc, ◌+◌, ◌-◌, ◌≤◌, ◌<◌}
use mathlib.Core.Bool.{cond}
use mathlib.Core.List.{List, ◌∷◌}
use mathlib.Core.Option.{Option, none, some}
use mathlib.Core.Path.{◌≡◌, refl, sym, ap, subst, ◌∙◌}
use native.Mathlib.Omega.{arith}
use lib.Dec.{eqb}
use lib.ListN.{length, get_or, set, length-set}
use lib.Seq.{get_or-set_same, get_or-set_other}
use borrow.Author.Tests.{eqb-true, eqb-false, eq-eqb, ne_eqb, lt-ltb, le-ltb}
use Rattle.timetable.specs.Limits.{most_trips}
use Rattle.laws.proofs.Tests.{ifb, cond_true, cond_false}
use Rattle.timetable.specs.declared.Row.{Row}
use Rattle.plans.specs.Rides.{Ride}
use Rattle.plans.specs.Worth.{Valued}
use Rattle.plans.specs.Chosen.{Scan, least_of, get_off, stay_on, next_of, boarded_at}
use Rattle.plan_cells.specs.Cells.{pair_cells, trip_cells, stop_cells, used, missing, cell_of, pair_cell, paired}
use Rattle.plan_cells.specs.Outside.{SameOutside}
use Rattle.plan_cells.proofs.Outside.{outside_then, outside_set}
use Rattle.plan_scan.specs.Stores.{entered, next_pair, Weighs, gets_off, stays_on}
use Rattle.plan_scan.specs.Scanned.{best_in, PairHolds}
use Rattle.plan_scan.specs.Held.{NextHolds, PairsHeld}
use Rattle.plan_cells.proofs.TwoCells.{two_front, two_behind, two_other, outside_two}

-- two cells hold a best ride
abbrev pub Holds : (worth leave : ℕ) → Option Valued → Type 0
Holds worth leave none = worth ≡ missing
Holds worth leave (some v) = (worth ≡ v.worth) × (leave ≡ v.ride.leave) × (v.worth < missing)

pub holds_pair : (w : List ℕ) (j : ℕ) (best : Option Valued) (a b : ℕ) → get_or w (pair_cell j) 0 ≡ a → get_or w (pair_cell j + 1) 0 ≡ b → Holds a b best
    → PairHolds w j best
holds_pair w j none a b front behind h = front ∙ h
holds_pair w j (some v) a b front behind h = (front ∙ h.0, behind ∙ h.1, h.2)

pub pair_holds : (w : List ℕ) (j : ℕ) (best : Option Valued) → PairHolds w j best → Holds (get_or w (pair_cell j) 0) (get_or w (pair_cell j + 1) 0) best
pair_holds w j none h = h
pair_holds w j (some v) h = h

pub pair_same : (w w' : List ℕ) (j : ℕ) (best : Option Valued) → get_or w' (pair_cell j) 0 ≡ get_or w (pair_cell j) 0
    → get_or w' (pair_cell j + 1) 0 ≡ get_or w (pair_cell j + 1) 0 → PairHolds w j best → PairHolds w' j best
pair_same w w' j best front behind h =
    holds_pair w' j best (get_or w (pair_cell j) 0) (get_or w (pair_cell j + 1) 0) front behind (pair_holds w j best h)

-- at equal worth the ride stays aboard
module _ (i : ℕ) (row : Row) (r : Ride) (at_row : r.leave ≡ i) where
  pub least_off :
      (o : Option ℕ) (next : Option Valued) (on leave : ℕ) → ((x : ℕ) → o ≡ some x → x < missing) → Holds on leave next → cell_of o < on
      → Holds (cell_of o) i (least_of (get_off r o) (stay_on i row next))
  unfolding least_of get_off stay_on
  least_off none none on leave fits h below = absurd (let z : ⊥ = omega arith in z)
  least_off none (some v) on leave fits h below = absurd (let z : ⊥ = omega (arith, h.0, h.2) in z)
  least_off (some x) none on leave fits h below = (refl, sym at_row, fits x refl)
  least_off (some x) (some v) on leave fits h below =
      subst (λ b. Holds x i (cond b (some (record { ride = r; worth = x })) (some (record { ride = boarded_at i row v.ride; worth = v.worth }))))
      (sym (lt-ltb x v.worth (omega (arith, h.0)))) (refl, sym at_row, fits x refl)

  pub least_on :
      (o : Option ℕ) (next : Option Valued) (on leave : ℕ) → ((x : ℕ) → o ≡ some x → x < missing) → Holds on leave next → on ≤ cell_of o
      → Holds on leave (least_of (get_off r o) (stay_on i row next))
  unfolding least_of get_off stay_on
  least_on none none on leave fits h below = h
  least_on none (some v) on leave fits h below = h
  least_on (some x) none on leave fits h below = absurd (let fit : x < missing = fits x refl in let z : ⊥ = omega arith in z)
  least_on (some x) (some v) on leave fits h below =
      subst (λ b. Holds on leave (cond b (some (record { ride = r; worth = x })) (some (record { ride = boarded_at i row v.ride; worth = v.worth }))))
      (sym (le-ltb x v.worth (omega (arith, h.0)))) h

-- row i in front of the rows that have been weighed
abbrev pub in_front : Row → Option Valued → Scan → List Valued → Scan
in_front row best later chosen = record { weighed = record { trip = row.trip; best = best } ∷ later.weighed; chosen = chosen }

module _ (w : List ℕ) (n i end : ℕ) (row : Row) (trip : row.trip < most_trips) (below : i < end) (inside : end ≤ n) (room : used n ≤ length w) where
  -- the pair of row i and its trip's cell, after other stores at places that hold no pair of a later row
  entered_cell : (a b : ℕ) → get_or (paired (entered w row.trip i) i a b) (trip_cells + row.trip) 0 ≡ i
  entered_cell a b =
      two_other (entered w row.trip i) (pair_cell i) a b (trip_cells + row.trip) (λ e. omega arith) (λ e. omega arith)
      ∙ get_or-set_same w (trip_cells + row.trip) i 0 (omega arith)

  other_cell : (a b k : ℕ) → (k ≡ trip_cells + row.trip → ⊥) → (k ≡ pair_cell i → ⊥) → (k ≡ pair_cell i + 1 → ⊥)
      → get_or (paired (entered w row.trip i) i a b) k 0 ≡ get_or w k 0
  other_cell a b k p q r = two_other (entered w row.trip i) (pair_cell i) a b k q r ∙ get_or-set_other w (trip_cells + row.trip) k i 0 p

  later_pair : (a b j : ℕ) (best : Option Valued) → i < j → PairHolds w j best → PairHolds (paired (entered w row.trip i) i a b) j best
  later_pair a b j best h =
      pair_same w (paired (entered w row.trip i) i a b) j best (other_cell a b (pair_cell j) (λ e. omega arith) (λ e. omega arith) (λ e. omega arith))
      (other_cell a b (pair_cell j + 1) (λ e. omega arith) (λ e. omega arith) (λ e. omega arith))

  own_pair : (a b : ℕ) (best : Option Valued) → Holds a b best → PairHolds (paired (entered w row.trip i) i a b) i best
  own_pair a b best h =
      let fits : pair_cell i + 1 < length (entered w row.trip i) = omega (arith, length-set w (trip_cells + row.trip) i) in
      holds_pair (paired (entered w row.trip i) i a b) i best a b (two_front (entered w row.trip i) (pair_cell i) a b fits)
      (two_behind (entered w row.trip i) (pair_cell i) a b fits) h

  module _ (later : Scan) (held : PairsHeld w n (suc i) end later) (best : Option Valued) (chosen : List Valued) (a b : ℕ) (own : Holds a b best) where
    here_or_later :
        (j : ℕ) → i ≤ j → j < end → PairHolds (paired (entered w row.trip i) i a b) j (best_in (in_front row best later chosen) i j)
    here_or_later j low high =
        ifb (λ t. eqb i j ≡ t → PairHolds (paired (entered w row.trip i) i a b) j (best_in (in_front row best later chosen) i j)) (eqb i j)
        (λ e _. let same : i ≡ j = eqb-true i j e in
        let first : 0 ≡ j - i = omega arith in
        subst (λ k. PairHolds (paired (entered w row.trip i) i a b) j
        (get_or (in_front row best later chosen).weighed k (record { trip = 0; best = none })).best) first
        (subst (λ k. PairHolds (paired (entered w row.trip i) i a b) k best) same (own_pair a b best own)))
        (λ e _. let apart : i ≡ j → ⊥ = eqb-false i j e in
        let place : suc (j - suc i) ≡ j - i = omega arith in
        subst (λ k. PairHolds (paired (entered w row.trip i) i a b) j
        (get_or (in_front row best later chosen).weighed k (record { trip = 0; best = none })).best) place
        (later_pair a b j (best_in later (suc i) j) (omega arith) (held.weighed j (omega arith) high))) refl

    next_here : NextHolds (paired (entered w row.trip i) i a b) n i row.trip (next_of (in_front row best later chosen).weighed row.trip)
    unfolding next_of
    next_here =
        record {
          later = (let e = entered_cell a b in omega arith);
          inside = (let e = entered_cell a b in omega arith);
          holds = subst (λ k. PairHolds (paired (entered w row.trip i) i a b) k (next_of (in_front row best later chosen).weighed row.trip)) (sym (entered_cell a b))
              (subst (λ (o : Option Valued). PairHolds (paired (entered w row.trip i) i a b) i o)
              (sym (cond_true best (next_of later.weighed row.trip) (eq-eqb row.trip row.trip refl))) (own_pair a b best own));
        }

    next_elsewhere :
        (t : ℕ) → t < most_trips → (row.trip ≡ t → ⊥)
        → NextHolds (paired (entered w row.trip i) i a b) n i t (next_of (in_front row best later chosen).weighed t)
    unfolding next_of
    next_elsewhere t small apart =
        let kept : get_or (paired (entered w row.trip i) i a b) (trip_cells + t) 0 ≡ get_or w (trip_cells + t) 0 =
        other_cell a b (trip_cells + t) (λ e. apart (omega arith)) (λ e. omega arith) (λ e. omega arith) in
        let old = held.next t small in
        let low = old.later in
        let high = old.inside in
        record {
          later = omega arith;
          inside = omega arith;
          holds = subst (λ k. PairHolds (paired (entered w row.trip i) i a b) k (next_of (in_front row best later chosen).weighed t)) (sym kept)
              (subst (λ (o : Option Valued). PairHolds (paired (entered w row.trip i) i a b) (get_or w (trip_cells + t) 0) o)
              (sym (cond_false best (next_of later.weighed t) (ne_eqb row.trip t apart)))
              (later_pair a b (get_or w (trip_cells + t) 0) (next_of later.weighed t) low old.holds));
        }

    stored : PairsHeld (paired (entered w row.trip i) i a b) n i end (in_front row best later chosen)
    stored =
        record {
          weighed = here_or_later;
          last = other_cell a b (pair_cell n) (λ e. omega arith) (λ e. omega arith) (λ e. omega arith) ∙ held.last;
          next = λ t small.
              ifb (λ b'. eqb row.trip t ≡ b' → NextHolds (paired (entered w row.trip i) i a b) n i t (next_of (in_front row best later chosen).weighed t))
              (eqb row.trip t)
              (λ e _. subst (λ k. NextHolds (paired (entered w row.trip i) i a b) n i k (next_of (in_front row best later chosen).weighed k))
              (eqb-true row.trip t e) next_here)
              (λ e _. next_elsewhere t small (eqb-false row.trip t e)) refl;
        }

  -- the leaving row of the trip's next row is read after two stores that do not touch it
  leave_read : (on : ℕ) → suc i ≤ get_or w (trip_cells + row.trip) 0
      → get_or (set (entered w row.trip i) (pair_cell i) on) (next_pair w row.trip + 1) 0 ≡ get_or w (next_pair w row.trip + 1) 0
  leave_read on low =
      get_or-set_other (entered w row.trip i) (pair_cell i) (next_pair w row.trip + 1) on 0 (λ e. omega arith)
      ∙ get_or-set_other w (trip_cells + row.trip) (next_pair w row.trip + 1) i 0 (λ e. omega arith)

  -- a row that was weighed
  pub pairs_weighed :
      (w' : List ℕ) (r : Ride) (o : Option ℕ) (later : Scan) (chosen : List Valued) → r.leave ≡ i → ((x : ℕ) → o ≡ some x → x < missing)
      → PairsHeld w n (suc i) end later → Weighs row i (cell_of o) w w'
      → PairsHeld w' n i end (in_front row (least_of (get_off r o) (stay_on i row (next_of later.weighed row.trip))) later chosen)
  pairs_weighed w' r o later chosen at_row fits held (gets_off less e) =
      let next = held.next row.trip trip in
      let best = least_of (get_off r o) (stay_on i row (next_of later.weighed row.trip)) in
      subst (λ (l : List ℕ). PairsHeld l n i end (in_front row best later chosen)) (sym e)
      (stored later held best chosen (cell_of o) i
      (least_off i row r at_row o (next_of later.weighed row.trip) (get_or w (next_pair w row.trip) 0) (get_or w (next_pair w row.trip + 1) 0) fits
      (pair_holds w (get_or w (trip_cells + row.trip) 0) (next_of later.weighed row.trip) next.holds) less))
  pairs_weighed w' r o later chosen at_row fits held (stays_on less e) =
      let next = held.next row.trip trip in
      let best = least_of (get_off r o) (stay_on i row (next_of later.weighed row.trip)) in
      let on = get_or w (next_pair w row.trip) 0 in
      subst (λ (l : List ℕ). PairsHeld l n i end (in_front row best later chosen))
      (sym (e ∙ ap (λ leave. paired (entered w row.trip i) i on leave) (leave_read on next.later)))
      (stored later held best chosen on (get_or w (next_pair w row.trip + 1) 0)
      (least_on i row r at_row o (next_of later.weighed row.trip) on (get_or w (next_pair w row.trip + 1) 0) fits
      (pair_holds w (get_or w (trip_cells + row.trip) 0) (next_of later.weighed row.trip) next.holds) less))

  pub weighs_other :
      (w' : List ℕ) (off k : ℕ) → Weighs row i off w w' → stop_cells ≤ k → (k ≡ pair_cell i → ⊥) → (k ≡ pair_cell i + 1 → ⊥) → get_or w' k 0 ≡ get_or w k 0
  weighs_other w' off k (gets_off less e) low p q = ap (λ (l : List ℕ). get_or l k 0) e ∙ other_cell off i k (λ z. omega arith) p q
  weighs_other w' off k (stays_on less e) low p q =
      ap (λ (l : List ℕ). get_or l k 0) e
      ∙ other_cell (get_or w (next_pair w row.trip) 0)
      (get_or (set (entered w row.trip i) (pair_cell i) (get_or w (next_pair w row.trip) 0)) (next_pair w row.trip + 1) 0) k (λ z. omega arith) p q

-- the pairs up to pair n and the trips' cells are as they were
pub pairs_kept :
    (w w' : List ℕ) (n i end : ℕ) (sc : Scan) → end ≤ n → PairsHeld w n i end sc → ((k : ℕ) → k < stop_cells → get_or w' k 0 ≡ get_or w k 0)
    → ((k : ℕ) → pair_cells ≤ k → k < pair_cell (suc n) → get_or w' k 0 ≡ get_or w k 0) → PairsHeld w' n i end sc
pairs_kept w w' n i end sc inside held ahead behind =
    record {
      weighed = λ j low high. at j (best_in sc i j) (omega arith) (held.weighed j low high);
      last = behind (pair_cell n) (omega arith) (omega arith) ∙ held.last;
      next = λ trip small.
          let old = held.next trip small in
          let kept : get_or w' (trip_cells + trip) 0 ≡ get_or w (trip_cells + trip) 0 = ahead (trip_cells + trip) (omega arith) in
          record {
            later = (let low = old.later in omega arith);
            inside = (let high = old.inside in omega arith);
            holds = subst (λ k. PairHolds w' k (next_of sc.weighed trip)) (sym kept)
                (at (get_or w (trip_cells + trip) 0) (next_of sc.weighed trip) old.inside old.holds);
          };
    }
  where
    at : (j : ℕ) (best : Option Valued) → j ≤ n → PairHolds w j best → PairHolds w' j best
    at j best h = pair_same w w' j best (behind (pair_cell j) (omega arith) (omega arith)) (behind (pair_cell j + 1) (omega arith) (omega arith))

-- weighing stores in cells that planning uses
entered_stays : (n i trip a b : ℕ) (w : List ℕ) → trip < most_trips → i < n → SameOutside trip_cells (used n) w (paired (entered w trip i) i a b)
entered_stays n i trip a b w small h =
    outside_then (outside_set w (trip_cells + trip) i (omega arith) (omega arith)) (outside_two (entered w trip i) (pair_cell i) a b (omega arith) (omega arith))

pub weighs_stays : (n : ℕ) (row : Row) (i off : ℕ) (w w' : List ℕ) → row.trip < most_trips → i < n → Weighs row i off w w'
    → SameOutside trip_cells (used n) w w'
weighs_stays n row i off w w' small h (gets_off less e) =
    subst (λ (l : List ℕ). SameOutside trip_cells (used n) w l) (sym e) (entered_stays n i row.trip off i w small h)
weighs_stays n row i off w w' small h (stays_on less e) =
    subst (λ (l : List ℕ). SameOutside trip_cells (used n) w l) (sym e)
    (entered_stays n i row.trip (get_or w (next_pair w row.trip) 0)
    (get_or (set (entered w row.trip i) (pair_cell i) (get_or w (next_pair w row.trip) 0)) (next_pair w row.trip + 1) 0) w small h)
