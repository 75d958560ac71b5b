-- `text::put_text` meets its contract: a copy is a run of stores. Assumes nothing.
use Prim.Native.Nat.{◌+◌, ◌-◌}
use mathlib.Core.Path.{◌≡◌, ap, ◌∙◌}
use native.Mathlib.Omega.{arith}
use lib.ListN.{length, take, drop, length-drop}
use Rattle.std.proofs.lemmas.Slice.{between_to_end}
use Rattle.laws.proofs.Lists.{copied_over}
use Rattle.text.proofs.put_text.Goals as goal

pub returns : goal.returns
returns c =
    let a = c.args in
    let rest = drop a.from a.text.now in
    let part = take (length a.text.now - a.from) rest in
    let all : part ≡ rest = between_to_end a.text.now a.from (length a.text.now) (omega arith) in
    let size : length part ≡ length rest = ap length all in
    let left : length rest ≡ length a.text.now - a.from = length-drop a.from a.text.now in (
      record {
        says = copied_over a.at (a.at + length part - a.at) a.out.now c.copy_from_slice.new.self rest (c.copy_from_slice.ensures.after ∙ all) (omega arith) (omega arith);
        ends = omega arith;
      },
      omega arith,
    )
