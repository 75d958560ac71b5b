-- One byte more than a sound file or a query can have still fits the room, so that it is seen. Assumes nothing.
use Prim.Native.Nat.{◌<◌}
use native.Mathlib.Omega.{arith}
use Rattle.file_layout.specs.Format.{version_one}
use Rattle.query.specs.Query.{gate_bytes}
use Rattle.rooms.specs.Rooms.{sailings_room, query_room}

pub longer_file_seen : version_one.mostbytes < sailings_room
longer_file_seen = omega arith

pub longer_query_seen : gate_bytes < query_room
longer_query_seen = omega arith
