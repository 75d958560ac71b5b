-- A text that was imported has names: with room for them, these are the ids of its calls by number. Assumes nothing.
use Prim.Native.Nat.{ℕ, ◌≤◌}
use mathlib.Core.List.{List}
use mathlib.Core.Path.{◌≡◌, refl, ap, ◌∙◌}
use lib.ListN.{length}
use Rattle.numbers.specs.Over.{over}
use Rattle.file_layout.specs.declared.Trailer.{Trailer}
use Rattle.gtfs_stop_time.specs.StopTime.{StopTime, day_start}
use Rattle.gtfs_calls.specs.Names.{names_text, names_room}
use Rattle.gtfs_calls.specs.Reading.{said}
use Rattle.std.specs.Prelude.{Ok}
use Rattle.gtfs_import.specs.Import.{imported, import_outcome}
use Rattle.gtfs_import.specs.Named.{names_by, names_outcome}
use Rattle.gtfs_import.specs.Returned.{read_on}
use Rattle.gtfs_import.proofs.Days.{served}
use Rattle.gtfs_import.proofs.Ended.{import_ends, file_of_lem}
use Rattle.gtfs_import.proofs.NamesTold.{names_served}

pub written_named : (text : List ℕ) (day : ℕ) (out names : List ℕ) (trailer : Trailer) (bytes : ℕ)
    → (import_outcome text day out).answer ≡ imported trailer bytes → names_room ≤ length names
    → (calls : List StopTime) × (read_on day text ≡ said calls)
    × (names_outcome text day names ≡ record { answer = Ok (length (names_text calls)); out = over (names_text calls) names })
unfolding names_by
written_named text day out names trailer bytes told room =
    let file = file_of_lem (import_ends text day out) told in (
      file.1.0,
      file.1.1,
      names_served text day names room (served day file.0.first file.0.last) (day_start day) refl
          ∙ ap (λ r. names_by r names) file.1.1,
    )
