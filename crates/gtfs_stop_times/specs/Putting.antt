-- What is written of the calls that the notes hold.
use Rattle.std.specs.Prelude.{ℕ, ◌<◌, List, ◌≡◌, length}
use Rattle.numbers.specs.Over.{over}
use Rattle.text.specs.Put.{Put}
use Rattle.gtfs_ids.specs.Book.{HoldsIds}
use Rattle.gtfs_stop_time.specs.StopTime.{StopTime}
use Rattle.gtfs_stop_times.specs.declared.Notes.{Notes}
use Rattle.gtfs_stop_times.specs.declared.Wanted.{Wanted}
use Rattle.gtfs_calls.specs.Names.{id_lines}
use Rattle.gtfs_stop_times.specs.Answers.{written_of}
use Rattle.gtfs_stop_times.specs.Held.{Held}

-- a book of `count` ids, few enough for their numbers
abbrev pub IdsHeld : (text book : List ℕ) → (count : ℕ) → Type 0
IdsHeld text book count = (ids : List (List ℕ)) × HoldsIds text book ids × (count ≡ length ids) × (count < 65536)

-- whatever ids the book holds, their lines are written
abbrev pub IdsPut : (text book : List ℕ) → (count : ℕ) → (word out : List ℕ) → (at : ℕ) → (after : List ℕ) → (next : ℕ) → Type 0
IdsPut text book count word out at after next =
    (ids : List (List ℕ)) → HoldsIds text book ids → count ≡ length ids → Put out at (id_lines word ids) after next

-- whatever calls the notes hold, what is wanted of them is written
abbrev pub WantedPut : Wanted → (text : List ℕ) → Notes → (out after : List ℕ) → (bytes : ℕ) → Type 0
WantedPut wanted text notes out after bytes =
    (back : List StopTime) → Held text back notes
    → (after ≡ over (written_of wanted back) out) × (bytes ≡ length (written_of wanted back))
