-- `gtfs_stop_times::Notes::read_lines` meets its contract: what all lines come to is what those still to come come to. Assumes nothing.
use Rattle.gtfs_stop_times.proofs.AllLines.{lines_told, read_more_lines, lines_whole}
use Rattle.gtfs_stop_times.proofs.Notes.read_lines.Goals as goal

pub returns-in-Err : goal.returns-in-Err
returns-in-Err c =
    let known = c.loop-at.invariant in
    lines_told known c.loop-at-test.true _ _ (c.in-Err.ensures known.back known.held)

pub loop-at-preserved : goal.loop-at-preserved
loop-at-preserved c =
    let known = c.loop-at.invariant in
    read_more_lines known c.loop-at-test.true (c.in-Ok.ensures known.back known.held)

pub returns : goal.returns
returns c = lines_whole c.loop-at.invariant c.loop-at-test.false
