use Prim.Native.Nat.{◌^◌, ◌<◌}
use mathlib.Core.Path.{◌≡◌}
use lib.ListN.{drop}
use Rattle.gtfs_ids.specs.Keys.{packed, packed_behind}
use Rattle.gtfs_ids.proofs.packed_bytes.Given as goal

abbrev pub invariant-loop-byte : goal.invariant-loop-byte
invariant-loop-byte l =
    record {
      fits : l.worth < 256 ^ l.byte-index;
      left : packed l.bytes ≡ packed_behind l.worth (drop l.byte-index l.bytes);
    }
