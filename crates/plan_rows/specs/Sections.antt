-- Where the sections of a file of some version stand, by its trailer; and what planning asks of a version's numbers.
use Rattle.std.specs.Prelude.{◌+◌, ◌≤◌, ◌<◌}
use Rattle.file_layout.specs.declared.Format.{Format}
use Rattle.file_layout.specs.declared.Trailer.{Trailer}
use Rattle.file_layout.specs.Format.{Readable}
use Rattle.plan_rows.specs.declared.SectionPlaces.{SectionPlaces}

abbrev pub places_of : Format → Trailer → SectionPlaces
places_of f h =
    record { rows = h.rows; rowstart = h.rowstart; width = f.width; classes = h.classes; tablestart = h.tablestart }

-- a class's shares fit a block of 256 cells, and every last landing is a minute of 16 bits
pub record Plannable (f : Format) : Type 0 where
  pub readable : Readable f
  pub delays_fit : f.delay ≤ 253
  pub minutes_fit : f.lastminute + f.delay < 65536
