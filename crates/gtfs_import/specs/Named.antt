-- The ids by number, as a text in lent bytes: what the call answers, and the bytes afterwards.
use Rattle.std.specs.Prelude.{ℕ, cond, List, leb, length, Result, Ok, Err}
use Rattle.numbers.specs.Over.{over}
use Rattle.gtfs_stop_time.specs.StopTime.{day_start}
use Rattle.gtfs_calls.specs.Names.{names_text, names_room}
use Rattle.gtfs_calls.specs.Reading.{Reading, said, wrong, stop_times}
use Rattle.gtfs_import.specs.declared.Unnamed.{Unnamed}
use Rattle.gtfs_import.specs.declared.Unnamed.TheVariants.{Refused, NoRoom}
use Rattle.gtfs_import.specs.Import.{day_rule}

pub record NamesOutcome : Type 0 where
  pub answer : Result ℕ Unnamed
  pub out : List ℕ

-- the text's lines over the first bytes, and where they end; a fault by its number changes nothing
unfoldable pub names_by : Reading → List ℕ → NamesOutcome
names_by (said calls) out = record { answer = Ok (length (names_text calls)); out = over (names_text calls) out }
names_by (wrong number line column) out = record { answer = Err (Refused number); out = out }

-- the room first; then 6 for a day that is none; then what the text says
unfoldable pub names_outcome : (text : List ℕ) (day : ℕ) (out : List ℕ) → NamesOutcome
names_outcome text day out =
    let served = names_by (stop_times (day_start day) text) out in
    let tested = cond (day_rule day) served (record { answer = Err (Refused 6); out = out }) in
    cond (leb names_room (length out)) tested (record { answer = Err NoRoom; out = out })
