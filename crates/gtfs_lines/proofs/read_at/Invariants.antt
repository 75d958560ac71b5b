use Prim.Native.Nat.{◌+◌, ◌-◌, ◌≤◌}
use mathlib.Core.Path.{◌≡◌}
use lib.ListN.{length, drop}
use Rattle.gtfs_lines.specs.Cut.{read_at, read_from}
use Rattle.gtfs_lines.proofs.Marked.{Marked}
use Rattle.gtfs_lines.proofs.read_at.Given as goal

abbrev pub invariant-loop-at : goal.invariant-loop-at
invariant-loop-at g l =
    let r = g.R.Reading in
    record {
      reads : read_at r.told (r.kept l.text) l.text l.start l.initial.read
          ≡ read_from r.told (r.kept l.text) l.text l.column l.from l.from l.read (drop l.from l.text);
      marked : Marked l.text l.from l.at;
      few : l.column ≤ l.from + 1;
    }

abbrev pub decreases-loop-at : goal.decreases-loop-at
decreases-loop-at g l = length l.text - l.from
