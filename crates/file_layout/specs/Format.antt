-- Document 01, "The sailing file": version 1 of the file.
use Rattle.std.specs.Prelude.{◌≤◌, ◌<◌}
use Rattle.file_layout.specs.declared.Format.{Format}

-- a row has six u16, the trailer has 16 bytes; lengths are 20 to 27,920, minutes 0 to 10,079, maximum delays 0 to 120
abbrev pub version_one : Format
version_one = record { version = 1; width = 12; trailer = 16; fewestbytes = 20; mostbytes = 27920; lastminute = 10079; delay = 120 }

-- what reading needs of a version's numbers: the trailer's 16 bytes and a row's 12 are there, and no offset wraps
pub record Readable (f : Format) : Type 0 where
  pub trailer_holds : 16 ≤ f.trailer
  pub file_holds_trailer : f.trailer ≤ f.fewestbytes
  pub width_holds_row : 12 ≤ f.width
  pub narrow : f.width < 65536
