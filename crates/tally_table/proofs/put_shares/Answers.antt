-- `tally_table::put_shares` meets its contract: the whole is what stands and the rest of the shares from here. Assumes nothing.
use mathlib.Core.Path.{refl, sym}
use native.Mathlib.Nat.{zero-div}
use native.Mathlib.Numerals.{add-one}
use native.Mathlib.Omega.{arith}
use Rattle.timetable.specs.Classes.{sum}
use Rattle.tally_table.proofs.Shares.{sum_more, share_within, turn_fits, turn_keeps}
use Rattle.tally_table.proofs.put_shares.Goals as goal

pub loop-x-init : goal.loop-x-init
unfolding sum
loop-x-init c = record { late = refl; ahead = sym (zero-div c.args.landings); put = refl }

pub overflow_add-late : goal.overflow_add-late
overflow_add-late c =
    let fits = turn_fits _ _ _ _ _ _ c.requires c.loop-x-test.true c.loop-x.invariant.late c.number-late.ensures.0 in
    omega (arith, fits.among, fits.small)

pub share_of-share-requires : goal.share_of-share-requires
share_of-share-requires c = turn_fits _ _ _ _ _ _ c.requires c.loop-x-test.true c.loop-x.invariant.late c.number-late.ensures.0

pub cell-requires : goal.cell-requires
cell-requires c =
    let fits = turn_fits _ _ _ _ _ _ c.requires c.loop-x-test.true c.loop-x.invariant.late c.number-late.ensures.0 in
    omega (arith, c.share_of-share.ensures, share_within _ _ fits.some fits.among)

pub loop-x-preserved : goal.loop-x-preserved
loop-x-preserved c = record {
  late = rw (add-one c.loop-x.x) (omega (arith, c.loop-x.invariant.late, c.number-late.ensures.0, sum_more c.args.tally.now c.loop-x.x));
  ahead = c.share_of-share.ensures;
  put = grind (arith, turn_keeps);
}
