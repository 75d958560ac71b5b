-- The last two looks of a search in a stack. Assumes nothing.
use Prim.Native.Nat.{ℕ, ◌+◌, ◌*◌, ◌/◌}
use mathlib.Core.List.{List}
use mathlib.Core.Path.{◌≡◌}
use native.Mathlib.Omega.{arith}
use lib.ListN.{get_or}
use Rattle.plan_stacks.specs.Stacks.{key_step}
use Rattle.plan_stacks.specs.Search.{look, Narrowed, Searched}

-- in a span of three entries, at the cells of the middle and of the upper one
pub parted : {work : List ℕ} {start minute low left first second middle upper : ℕ} → Searched work start minute low left → left ≡ 3
    → first ≡ start + 2 * (low + 1) → second ≡ start + 2 * (low + 2)
    → middle ≡ look minute (get_or work first 0 / key_step) → upper ≡ look minute (get_or work second 0 / key_step)
    → Narrowed work start (low + left) minute (low + middle + upper) 1
parted {work} {start} {minute} {low} {left} span three one two seen above =
    let falls = span.falling.falls (low + 1) (low + 2) in
    record {
      some_entry = omega arith;
      inside = grind arith;
      opens = grind arith;
      missed = λ k behind below. grind arith;
    }
