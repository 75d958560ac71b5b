-- `gtfs_stop_times::put_ids` meets its contract: so far the lines of the first `i` ids are put. Assumes nothing.
use Rattle.gtfs_stop_times.proofs.NameLines.{put_none, id_fits, put_more}
use Rattle.gtfs_stop_times.proofs.put_ids.Goals as goal

pub loop-i-init : goal.loop-i-init
loop-i-init c = put_none

pub put_id-next-requires : goal.put_id-next-requires
put_id-next-requires c =
    let pre = c.requires in
    id_fits c.loop-i.invariant _ _ c.loop-i-test.true pre.1 pre.2 c.place_of-from.ensures c.size_of-size.ensures pre.0.0 pre.0.1 pre.0.2

pub loop-i-preserved : goal.loop-i-preserved
loop-i-preserved c =
    put_more c.loop-i.invariant _ _ c.loop-i-test.true c.place_of-from.ensures c.size_of-size.ensures c.put_id-next.ensures
