-- `gtfs_stop_times::is_too_many` meets its contract: only a new id can be one too many. Assumes nothing.
use Rattle.gtfs_stop_times.proofs.Entered.{known_fits, new_fits}
use Rattle.gtfs_stop_times.proofs.is_too_many.Goals as goal

pub returns-then-number-count : goal.returns-then-number-count
returns-then-number-count c = let a = c.args in known_fits a.number a.count a.most c.if-number-count.true c.requires.1

pub returns : goal.returns
returns c = let a = c.args in new_fits a.number a.count a.most c.if-number-count.false c.requires.0 c.requires.1
