-- `gtfs_stop_times::Notes::none` meets its contract: before the first line the notes hold no call. Assumes nothing.
use Rattle.gtfs_stop_times.proofs.Answered.{held_none}
use Rattle.gtfs_stop_times.proofs.Notes.none.Goals as goal

pub returns : goal.returns
returns c = held_none
