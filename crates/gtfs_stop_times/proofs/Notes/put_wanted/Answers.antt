-- `gtfs_stop_times::Notes::put_wanted` meets its contract: rows in order, or the lines of stops and then of trips. Assumes nothing.
use native.Mathlib.Omega.{arith}
use Rattle.gtfs_stop_times.proofs.Written.{trips_for, trips_fit, rows_put, names_put}
use Rattle.gtfs_stop_times.proofs.Notes.put_wanted.Goals as goal

pub put_ids-requires : goal.put_ids-requires
put_ids-requires c = (
  trips_for c.requires.0,
  omega arith,
  trips_fit c.requires.0 c.args.out.now _ _ c.in-Names.is c.requires.1 c.put_ids-next.ensures (omega arith),
)

pub returns-in-Rows : goal.returns-in-Rows
returns-in-Rows c = rows_put c.args.out.now _ c.in-Rows.is c.put_in_order.ensures

pub returns-in-Names : goal.returns-in-Names
returns-in-Names c = names_put c.args.out.now _ _ _ _ c.in-Names.is c.requires.1 c.put_ids-next.ensures c.put_ids.ensures
