-- Cells that stay: nothing is done, one thing after another, a wider part, one cell or many are written. Assumes nothing.
use Prim.Native.Nat.{ℕ, ◌+◌, ◌-◌, ◌≤◌, ◌<◌}
use mathlib.Core.List.{List}
use mathlib.Core.Path.{◌≡◌, refl, sym, ap, subst, ◌∙◌}
use native.Mathlib.Omega.{arith}
use lib.Dec.{eqb}
use lib.ListN.{length, get_or, set, drop, length-set, length-drop}
use lib.Seq.{ext_get_or, get_or-drop, get_or-set_same, get_or-set_other}
use borrow.Author.Tests.{eqb-true, eqb-false}
use Rattle.laws.proofs.Tests.{ifb}
use Rattle.plan_cells.specs.Cells.{filled}
use Rattle.plan_cells.specs.Outside.{SameOutside}
use Rattle.plan_cells.proofs.Filled.{length_filled, filled_ahead, filled_behind}

pub outside_same : (from to : ℕ) (w : List ℕ) → SameOutside from to w w
outside_same from to w = record { same_length = refl; ahead = λ i h. refl; behind = λ i h. refl }

pub outside_then : {from to : ℕ} {w w' w'' : List ℕ} → SameOutside from to w w' → SameOutside from to w' w'' → SameOutside from to w w''
outside_then a b =
    record {
      same_length = b.same_length ∙ a.same_length;
      ahead = λ i h. b.ahead i h ∙ a.ahead i h;
      behind = λ i h. b.behind i h ∙ a.behind i h;
    }

pub outside_wider : {from to from' to' : ℕ} {w w' : List ℕ} → from' ≤ from → to ≤ to' → SameOutside from to w w' → SameOutside from' to' w w'
outside_wider low high a =
    record { same_length = a.same_length; ahead = λ i h. a.ahead i (omega arith); behind = λ i h. a.behind i (omega arith) }

-- from a place behind on, the slices are one
pub outside_drop : {from to : ℕ} {w w' : List ℕ} → SameOutside from to w w' → (n : ℕ) → to ≤ n → drop n w' ≡ drop n w
outside_drop {w = w} {w' = w'} a n h =
    ext_get_or 0 (drop n w') (drop n w) (length-drop n w' ∙ ap (λ l. l - n) a.same_length ∙ sym (length-drop n w))
    (λ i below. get_or-drop n w' i 0 ∙ a.behind (n + i) (omega arith) ∙ sym (get_or-drop n w i 0))

pub outside_set : {from to : ℕ} (w : List ℕ) (k v : ℕ) → from ≤ k → k < to → SameOutside from to w (set w k v)
outside_set w k v low high =
    record {
      same_length = length-set w k v;
      ahead = λ i h. get_or-set_other w k i v 0 (λ e. let z : ⊥ = omega arith in z);
      behind = λ i h. get_or-set_other w k i v 0 (λ e. let z : ⊥ = omega arith in z);
    }

pub outside_filled : (w : List ℕ) (at count v : ℕ) → at + count ≤ length w → SameOutside at (at + count) w (filled w at count v)
outside_filled w at count v room =
    record {
      same_length = length_filled w at count v room;
      ahead = λ i h. filled_ahead w at count v i (omega arith) h;
      behind = λ i h.
          (let place : at + count + (i - (at + count)) ≡ i = omega arith in
          subst (λ k. get_or (filled w at count v) k 0 ≡ get_or w k 0) place (filled_behind w at count v (i - (at + count)) room));
    }

-- a cell that is set holds the value, the others what they held
pub set_cell {ℓ} : (P : ℕ → Type ℓ) (w : List ℕ) (k i v : ℕ) → k < length w → (k ≡ i → P v) → ((k ≡ i → ⊥) → P (get_or w i 0)) → P (get_or (set w k v) i 0)
set_cell P w k i v inside here elsewhere =
    ifb (λ b. P (get_or (set w k v) i 0)) (eqb k i)
    (λ e. let same : k ≡ i = eqb-true k i e in
    subst (λ j. P (get_or (set w k v) j 0)) same (subst P (sym (get_or-set_same w k v 0 inside)) (here same)))
    (λ e. let apart : k ≡ i → ⊥ = eqb-false k i e in subst P (sym (get_or-set_other w k i v 0 (λ q. apart (sym q)))) (elsewhere apart))
