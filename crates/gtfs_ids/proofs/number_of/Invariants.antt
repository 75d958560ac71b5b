use Prim.Native.Nat.{◌<◌}
use Rattle.gtfs_ids.specs.Book.{Chained}
use Rattle.gtfs_ids.proofs.Search.{Searched}
use Rattle.gtfs_ids.proofs.number_of.Given as goal

abbrev pub invariant-loop-named : goal.invariant-loop-named
invariant-loop-named l = Chained l.book l.count × (l.count < 65536) × Searched l.book l.count l.key l.named

abbrev pub decreases-loop-named : goal.decreases-loop-named
decreases-loop-named l = l.named
