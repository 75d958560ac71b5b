-- `numbers::put_numbers` meets its contract: one number more is put. Assumes nothing.
use Prim.Native.Nat.{◌*◌, ◌<◌}
use mathlib.Core.Path.{ap, ◌∙◌}
use native.Mathlib.Omega.{arith}
use lib.Seq.{sets, get_or-take, length-take-le}
use Rattle.numbers.specs.Numbers.{u32_bytes}
use Rattle.numbers.proofs.Put.{put_on}
use Rattle.numbers.proofs.put_numbers.Goals as goal

pub loop-i-preserved : goal.loop-i-preserved
loop-i-preserved c =
    let a = c.args in
    let now = c.loop-i in
    let inside : now.i < a.count = omega (arith, length-take-le a.count a.numbers.now (omega arith)) in
    c.put_u32.ensures
    ∙ ap (λ x. sets now.out (4 * now.i) (u32_bytes x)) (c.number-next.ensures.0 ∙ get_or-take a.count a.numbers.now now.i 0 inside)
    ∙ put_on a.numbers.now a.out.now now.out now.i (omega arith) (omega arith) now.invariant
