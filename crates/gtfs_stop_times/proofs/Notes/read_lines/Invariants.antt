use Prim.Native.Nat.{◌-◌}
use lib.ListN.{length}
use Rattle.gtfs_stop_times.proofs.AllLines.{ReadTo}
use Rattle.gtfs_stop_times.proofs.Notes.read_lines.Given as goal

abbrev pub invariant-loop-at : goal.invariant-loop-at
invariant-loop-at l =
    ReadTo l.text l.begin l.service l.self l.at l.behind

abbrev pub decreases-loop-at : goal.decreases-loop-at
decreases-loop-at l = length l.text - l.at
