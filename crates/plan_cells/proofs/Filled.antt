-- Cells that were filled with one value: inside they hold it, elsewhere they are as they were. Assumes nothing.
use Prim.Native.Nat.{ℕ, ◌+◌, ◌≤◌, ◌<◌}
use mathlib.Core.List.{List, ◌++◌}
use mathlib.Core.Path.{◌≡◌, ap, subst, ◌∙◌}
use native.Mathlib.Omega.{arith}
use lib.ListN.{length, get_or, take, drop, replicate, length-append, length-drop, length-replicate, get_or-replicate, get_or-append}
use lib.Seq.{length-take-le, get_or-take, get_or-drop, get_or-append-add}
use Rattle.plan_cells.specs.Cells.{filled}

pub length_filled : (w : List ℕ) (at count v : ℕ) → at + count ≤ length w → length (filled w at count v) ≡ length w
length_filled w at count v h =
    simp (length-append, length-replicate, length-drop) (omega (arith, length-take-le at w (omega arith)))

-- ahead of the filled cells
pub filled_ahead : (w : List ℕ) (at count v i : ℕ) → at ≤ length w → i < at → get_or (filled w at count v) i 0 ≡ get_or w i 0
filled_ahead w at count v i h l =
    get_or-append (take at w) (replicate count v ++ drop (at + count) w) 0 i (omega (arith, length-take-le at w h))
    ∙ get_or-take at w i 0 l

-- one of the filled cells, by its place among them
pub filled_inside : (w : List ℕ) (at count v k : ℕ) → at ≤ length w → k < count → get_or (filled w at count v) (at + k) 0 ≡ v
filled_inside w at count v k h l =
    subst (λ n. get_or (filled w at count v) (n + k) 0 ≡ v) (length-take-le at w h)
    (get_or-append-add (take at w) (replicate count v ++ drop (at + count) w) k 0
    ∙ get_or-append (replicate count v) (drop (at + count) w) 0 k (omega (arith, length-replicate count v))
    ∙ get_or-replicate count k v 0 l)

-- behind the filled cells
pub filled_behind : (w : List ℕ) (at count v k : ℕ) → at + count ≤ length w → get_or (filled w at count v) (at + count + k) 0 ≡ get_or w (at + count + k) 0
filled_behind w at count v k h =
    ap (λ n. get_or (filled w at count v) n 0) (omega (arith, length-take-le at w (omega arith), length-replicate count v))
    ∙ get_or-append-add (take at w) (replicate count v ++ drop (at + count) w) (length (replicate count v) + k) 0
    ∙ get_or-append-add (replicate count v) (drop (at + count) w) k 0 ∙ get_or-drop (at + count) w k 0
