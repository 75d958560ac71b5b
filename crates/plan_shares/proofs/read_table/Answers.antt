-- `plan_shares::read_table` meets its contract: the running sums, then the two cells ahead of them. Assumes nothing.
use Prim.Native.Nat.{◌+◌, ◌/◌}
use mathlib.Core.Path.{◌≡◌, sym}
use native.Mathlib.Omega.{arith}
use Rattle.plan_shares.proofs.Block.{block_shares, late_small, block_ends, table_held}
use Rattle.plan_shares.proofs.read_table.Goals as goal

pub read_shares-late-requires : goal.read_shares-late-requires
read_shares-late-requires c =
    let stand = rw (sym c.u16_at-maximum.ensures.0) at (block_shares c.args.file.now c.args.at c.requires.0) in
    (stand, omega (arith, stand.few, c.requires.2))

pub cell-requires-2 : goal.cell-requires-2
cell-requires-2 c =
    omega (
      arith,
      late_small c.args.file.now c.args.at _ _ c.requires.0 c.u16_at-maximum.ensures.0 c.read_shares-late.ensures.0,
    )

pub returns : goal.returns
returns c =
    let file = c.args.file.now in
    let at = c.args.at in
    let read = c.u16_at-maximum.ensures.0 in
    let late = c.read_shares-late.ensures.0 in
    let up : c.cell-2.result ≡ (c.read_shares-late.result + 15) / 16 = omega arith in
    let held = table_held file at _ _ c.requires.0 read late c.args.tables.now c.read_shares-late.new.tables c.args.k _ _ c.requires.1 c.requires.2
    c.read_shares-late.ensures.1 c.cell.ensures up in
    (block_ends file at _ _ c.requires.0 read late, held.0, held.1)
