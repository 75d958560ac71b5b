-- Where the text's first fault is, for the words of a program.
use Rattle.std.specs.Prelude.{ℕ, cond, List, Option, Some, None}
use Rattle.gtfs_stop_time.specs.StopTime.{day_start}
use Rattle.gtfs_calls.specs.Reading.{Reading, said, wrong, stop_times}
use Rattle.gtfs_import.specs.declared.Place.{Place}
use Rattle.gtfs_import.specs.Import.{day_rule}

-- a fault's line and the column that it is in
unfoldable pub fault_place : Reading → Option Place
fault_place (said calls) = None
fault_place (wrong number line column) = Some (record { line = line; column = column })

-- on a service day; a day that is none has no fault of the text
unfoldable pub place_for : (text : List ℕ) (day : ℕ) → Option Place
place_for text day = let place = fault_place (stop_times (day_start day) text) in cond (day_rule day) place None
