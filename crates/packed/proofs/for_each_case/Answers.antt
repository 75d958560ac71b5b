-- `packed::for_each_case` is safe: what was read of a part is inside its room. Assumes nothing.
use native.Mathlib.Omega.{arith}
use Rattle.packed.proofs.for_each_case.Goals as goal

pub slice_bounds-sailings-end : goal.slice_bounds-sailings-end
slice_bounds-sailings-end g c = omega arith
