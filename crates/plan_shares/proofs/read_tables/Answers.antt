-- `plan_shares::read_tables` meets its contract: so far the blocks of the first k classes are held. Assumes nothing.
use mathlib.Core.Path.{sym, ◌∙◌}
use native.Mathlib.Omega.{arith}
use Rattle.plan_shares.proofs.Held.{block_stands, read_none, read_more}
use Rattle.plan_shares.proofs.read_tables.Goals as goal

pub loop-k-init : goal.loop-k-init
loop-k-init c = read_none _ _ _ c.requires.1

pub read_table-block-requires : goal.read_table-block-requires
read_table-block-requires c =
    let l = c.loop-k in (
      rw l.invariant.next (block_stands _ _ c.requires.0 l.k (omega arith)),
      omega (arith, c.requires.0.few_classes),
      l.invariant.room,
    )

pub loop-k-preserved : goal.loop-k-preserved
loop-k-preserved c =
    let read = c.read_table-block.ensures in
    read_more _ _ c.requires.0 _ _ _ _ _ c.loop-k.invariant (omega arith) read.0 read.1 read.2

pub shape_of-tables : goal.shape_of-tables
shape_of-tables c = c.loop-k.invariant.room ∙ sym c.requires.1

pub returns : goal.returns
returns c =
    record { room = c.loop-k.invariant.room; held = λ k h. c.loop-k.invariant.held k (omega (arith, c.requires.0.tables_count)) }
