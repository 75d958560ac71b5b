-- `numbers::put_u32` meets its contract: four bytes, the lowest first. Assumes nothing.
use Prim.Native.Nat.{◌+◌, ◌-◌}
use native.Mathlib.Omega.{arith}
use mathlib.Core.Path.{◌∙◌}
use Rattle.laws.proofs.Lists.{copied_over}
use Rattle.numbers.specs.Numbers.{u32_bytes}
use Rattle.numbers.proofs.Put.{four_bytes, length_u32}
use Rattle.numbers.proofs.put_u32.Goals as goal

pub returns : goal.returns
returns c =
    let a = c.args in
    copied_over a.at (a.at + 4 - a.at) a.out.now c.copy_from_slice.new.self (u32_bytes a.number)
    (c.copy_from_slice.ensures.after ∙ c.to_le_bytes.ensures ∙ four_bytes a.number) (omega (arith, length_u32 a.number)) (omega (arith, length_u32 a.number))
