-- A row that departs in the minute of the latest landing is safe: none that departs later is wanted. Assumes nothing.
use Prim.Native.Nat.{◌<◌}
use mathlib.Core.List.{[], ◌∷◌}
use native.Mathlib.Omega.{arith}
use Rattle.plan_stacks.specs.Stacks.{key_of}
use Rattle.plan_extract.specs.Marks.{Caught}

pub safe_row_is_last : Caught (key_of 20 7 ∷ 900 ∷ key_of 10 3 ∷ 800 ∷ []) 0 2 5 10 0 → ⊥
safe_row_is_last c = let early : 10 < 10 = c.needed 1 (omega arith) (omega arith) in let z : ⊥ = omega arith in z
