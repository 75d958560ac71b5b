-- What the width of a number in the file bounds: a u16 below 65,536, a u32 below 4,294,967,296.
use Rattle.std.specs.Prelude.{◌<◌}
use Rattle.timetable.specs.declared.Row.{Row}
use Rattle.file_layout.specs.declared.Trailer.{Trailer}

pub record SmallRow (r : Row) : Type 0 where
  pub board : r.board < 65536
  pub land : r.land < 65536
  pub departure : r.departure < 65536
  pub arrival : r.arrival < 65536
  pub trip : r.trip < 65536
  pub class : r.class < 65536

pub record SmallTrailer (h : Trailer) : Type 0 where
  pub version : h.version < 65536
  pub stops : h.stops < 65536
  pub rows : h.rows < 65536
  pub classes : h.classes < 65536
  pub rowstart : h.rowstart < 4294967296
  pub tablestart : h.tablestart < 4294967296
