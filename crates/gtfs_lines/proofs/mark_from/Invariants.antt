use Prim.Native.Nat.{◌+◌}
use mathlib.Core.Path.{◌≡◌}
use lib.ListN.{drop}
use Rattle.gtfs_lines.specs.Marks.{plain_ahead}
use Rattle.gtfs_lines.proofs.mark_from.Given as goal

abbrev pub invariant-loop-at : goal.invariant-loop-at
invariant-loop-at l = l.from + plain_ahead (drop l.from l.text) ≡ l.at + plain_ahead (drop l.at l.text)
