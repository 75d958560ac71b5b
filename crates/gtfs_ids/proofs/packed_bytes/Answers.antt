-- `gtfs_ids::packed_bytes` meets its contract: the bytes still left, behind the worth so far, make the whole. Assumes nothing.
use mathlib.Core.Path.{refl, sym, ◌∙◌}
use native.Mathlib.Omega.{arith}
use lib.ListN.{get_or}
use Rattle.gtfs_ids.specs.Keys.{packed}
use Rattle.gtfs_ids.proofs.Packing.{packed_on, packed_end, byte_more}
use Rattle.gtfs_ids.proofs.packed_bytes.Goals as goal

pub loop-byte-init : goal.loop-byte-init
unfolding packed
loop-byte-init c = record { fits = omega arith; left = refl }

pub loop-byte-preserved : goal.loop-byte-preserved
loop-byte-preserved c =
    let l = c.loop-byte in
    let bytes = c.args.bytes.now in
    let byte = get_or bytes l.byte-index 0 in
    record {
      fits = rw c.from.ensures (byte_more l.worth byte l.byte-index l.invariant.fits (omega (arith, c.type_inv.bytes l.byte-index)));
      left = rw c.from.ensures (l.invariant.left ∙ packed_on l.worth bytes l.byte-index (omega arith));
    }

pub returns : goal.returns
returns c =
    let l = c.loop-byte in
    sym (l.invariant.left ∙ packed_end l.worth c.args.bytes.now l.byte-index (omega arith))
