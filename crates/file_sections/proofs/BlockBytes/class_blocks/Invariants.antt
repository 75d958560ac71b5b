use Prim.Native.Nat.{◌-◌}
use mathlib.Core.Path.{◌≡◌}
use Rattle.file_sections.specs.Blocks.{blocks_read}
use Rattle.file_sections.proofs.BlockBytes.class_blocks.Given as goal

abbrev pub invariant-loop-class : goal.invariant-loop-class
invariant-loop-class l =
    let blocks = l.self in
    blocks_read blocks.f blocks.file.now blocks.end 0 l.start l.count ≡ blocks_read blocks.f blocks.file.now blocks.end l.class l.at (l.count - l.class)
