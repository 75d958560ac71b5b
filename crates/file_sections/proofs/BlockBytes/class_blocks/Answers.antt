-- `file_sections::BlockBytes::class_blocks` meets its contract: what all blocks answer is what the blocks from here on answer. Assumes nothing.
use mathlib.Core.Path.{sym, ◌∙◌}
use native.Mathlib.Omega.{arith}
use borrow.Author.Rules.{rules}
use Rattle.file_sections.proofs.ClassBlocks.{blocks_on, blocks_stop, blocks_end}
use Rattle.file_sections.proofs.BlockBytes.class_blocks.Goals as goal

pub returns-in_err-at : goal.returns-in_err-at
returns-in_err-at c =
    let stopped = c.loop-class.invariant ∙ blocks_stop _ _ _ _ _ _ _ (omega arith) c.in_err-at.ensures in
    search rules

pub loop-class-preserved : goal.loop-class-preserved
loop-class-preserved c =
    c.loop-class.invariant ∙ blocks_on _ _ _ _ _ _ _ (omega arith) c.in_ok-at.ensures

pub returns : goal.returns
returns c = sym (c.loop-class.invariant ∙ blocks_end _ _ _ _ _ _ (omega arith))
