-- Cells after two of them were stored. Assumes nothing.
use Prim.Native.Nat.{ℕ, ◌+◌, ◌≤◌, ◌<◌}
use mathlib.Core.List.{List}
use mathlib.Core.Path.{◌≡◌, ◌∙◌}
use native.Mathlib.Omega.{arith}
use lib.ListN.{length, get_or, set, length-set}
use lib.Seq.{get_or-set_same, get_or-set_other}
use Rattle.plan_cells.specs.Outside.{SameOutside}
use Rattle.plan_cells.proofs.Outside.{outside_then, outside_set}
use Rattle.plan_cells.specs.Cells.{two_at}

module _ (w : List ℕ) (at a b : ℕ) where
  pub length_two : length (two_at w at a b) ≡ length w
  length_two = simp length-set

  pub two_front : at + 1 < length w → get_or (two_at w at a b) at 0 ≡ a
  two_front h = get_or-set_other (set w at a) (at + 1) at b 0 (λ e. omega arith) ∙ get_or-set_same w at a 0 (omega arith)

  pub two_behind : at + 1 < length w → get_or (two_at w at a b) (at + 1) 0 ≡ b
  two_behind h = get_or-set_same (set w at a) (at + 1) b 0 (omega (arith, length-set w at a))

  pub two_other : (k : ℕ) → (k ≡ at → ⊥) → (k ≡ at + 1 → ⊥) → get_or (two_at w at a b) k 0 ≡ get_or w k 0
  two_other k front behind = get_or-set_other (set w at a) (at + 1) k b 0 behind ∙ get_or-set_other w at k a 0 front

  pub outside_two : {from to : ℕ} → from ≤ at → at + 1 < to → SameOutside from to w (two_at w at a b)
  outside_two low high = outside_then (outside_set w at a low (omega arith)) (outside_set (set w at a) (at + 1) b (omega arith) high)
