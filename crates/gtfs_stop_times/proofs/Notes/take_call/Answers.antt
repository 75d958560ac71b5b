-- `gtfs_stop_times::Notes::take_call` meets its contract: the trip has a call, or this is its first. Assumes nothing.
use Rattle.gtfs_stop_times.proofs.Ready.{first_found}
use Rattle.gtfs_stop_times.proofs.Notes.take_call.Goals as goal

pub first_call-requires : goal.first_call-requires
first_call-requires c =
    (c.requires, first_found c.requires.3 c.requires.4 (record { trip_found = c.number_of-trip.ensures; stop_found = c.number_of-stop.ensures }) c.if-trip-self.false)
