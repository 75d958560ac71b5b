-- Parting the stacks: the stops below `stop` have their regions. Assumes nothing.
use Prim.Native.Nat.{ℕ, ◌+◌, ◌≤◌, ◌<◌}
use mathlib.Core.List.{List}
use mathlib.Core.Path.{◌≡◌, refl, sym, subst, ◌∙◌}
use native.Mathlib.Omega.{arith}
use lib.Dec.{eqb}
use lib.ListN.{length, get_or, set, length-set}
use lib.Seq.{get_or-set_same, get_or-set_other}
use borrow.Author.Tests.{eqb-true, eqb-false}
use Rattle.timetable.specs.Limits.{most_stops}
use Rattle.laws.proofs.Tests.{ifb}
use Rattle.plan_cells.specs.Cells.{stop_cells, size_cells, pair_cells}
use Rattle.plan_cells.specs.Outside.{SameOutside}
use Rattle.plan_cells.proofs.Outside.{outside_same, outside_then, outside_set}
use Rattle.plan_stacks.specs.Stacks.{start_pair, stack_size}
use Rattle.plan_stacks.specs.Regions.{below}

pub record Parting (from stop : ℕ) (w w' : List ℕ) : Type 0 where
  pub outside : SameOutside stop_cells pair_cells w w'
  pub starts : (k : ℕ) → k < stop → start_pair w' k ≡ from + below (stack_size w) k
  pub empty : (k : ℕ) → k < stop → stack_size w' k ≡ 0
  pub left : (k : ℕ) → stop ≤ k → k < most_stops → stack_size w' k ≡ stack_size w k

pub parting_begins : (from : ℕ) (w : List ℕ) → Parting from 0 w w
parting_begins from w =
    record {
      outside = outside_same stop_cells pair_cells w;
      starts = λ k h. absurd (let z : ⊥ = omega arith in z);
      empty = λ k h. absurd (let z : ⊥ = omega arith in z);
      left = λ k low high. refl;
    }

-- the next stop's size is as it was
pub size_left : {from : ℕ} {w w' : List ℕ} (stop start : ℕ) → Parting from stop w w' → stop < most_stops
    → get_or (set w' (stop_cells + stop) start) (size_cells + stop) 0 ≡ stack_size w stop
size_left {w' = w'} stop start p inside =
    get_or-set_other w' (stop_cells + stop) (size_cells + stop) start 0 (λ e. omega arith) ∙ p.left stop (omega arith) inside

-- the next stop's start and size
abbrev pub parted_next : (stop start : ℕ) → List ℕ → List ℕ
parted_next stop start w = set (set w (stop_cells + stop) start) (size_cells + stop) 0

module _ (from stop start : ℕ) (w w' : List ℕ) (room : pair_cells ≤ length w') (inside : stop < most_stops) where
  next_start : start_pair (parted_next stop start w') stop ≡ start
  next_start =
      get_or-set_other (set w' (stop_cells + stop) start) (size_cells + stop) (stop_cells + stop) 0 0 (λ e. omega arith)
      ∙ get_or-set_same w' (stop_cells + stop) start 0 (omega arith)

  next_size : stack_size (parted_next stop start w') stop ≡ 0
  next_size = get_or-set_same (set w' (stop_cells + stop) start) (size_cells + stop) 0 0 (omega (arith, length-set w' (stop_cells + stop) start))

  kept_start : (k : ℕ) → k < most_stops → (k ≡ stop → ⊥) → start_pair (parted_next stop start w') k ≡ start_pair w' k
  kept_start k h ne =
      get_or-set_other (set w' (stop_cells + stop) start) (size_cells + stop) (stop_cells + k) 0 0 (λ e. omega arith)
      ∙ get_or-set_other w' (stop_cells + stop) (stop_cells + k) start 0 (λ e. ne (omega arith))

  kept_size : (k : ℕ) → k < most_stops → (k ≡ stop → ⊥) → stack_size (parted_next stop start w') k ≡ stack_size w' k
  kept_size k h ne =
      get_or-set_other (set w' (stop_cells + stop) start) (size_cells + stop) (size_cells + k) 0 0 (λ e. ne (omega arith))
      ∙ get_or-set_other w' (stop_cells + stop) (size_cells + k) start 0 (λ e. omega arith)

  pub parting_on :
      start ≡ from + below (stack_size w) stop → Parting from stop w w' → Parting from (stop + 1) w (parted_next stop start w')
  parting_on here p =
      record {
        outside =
            outside_then p.outside
            (outside_then (outside_set w' (stop_cells + stop) start (omega arith) (omega arith))
            (outside_set (set w' (stop_cells + stop) start) (size_cells + stop) 0 (omega arith) (omega arith)));
        starts = λ k h. ifb (λ b. eqb k stop ≡ b → start_pair (parted_next stop start w') k ≡ from + below (stack_size w) k) (eqb k stop)
            (λ e _. subst (λ j. start_pair (parted_next stop start w') j ≡ from + below (stack_size w) j) (sym (eqb-true k stop e)) (next_start ∙ here))
            (λ e _. let ne : k ≡ stop → ⊥ = eqb-false k stop e in kept_start k (omega arith) ne ∙ p.starts k (omega arith)) refl;
        empty = λ k h. ifb (λ b. eqb k stop ≡ b → stack_size (parted_next stop start w') k ≡ 0) (eqb k stop)
            (λ e _. subst (λ j. stack_size (parted_next stop start w') j ≡ 0) (sym (eqb-true k stop e)) next_size)
            (λ e _. let ne : k ≡ stop → ⊥ = eqb-false k stop e in kept_size k (omega arith) ne ∙ p.empty k (omega arith)) refl;
        left = λ k low high. kept_size k high (λ e. omega arith) ∙ p.left k (omega arith) high;
      }
