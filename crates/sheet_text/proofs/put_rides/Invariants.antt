-- `sheet_text::put_rides` meets its contract: the lines of the rides that are left make the whole. Assumes nothing.
use Prim.Native.Nat.{◌+◌, ◌*◌, ◌≤◌}
use lib.ListN.{take, drop}
use Rattle.file_layout.specs.Decode.{decode}
use Rattle.plan_slice.specs.Slice.{rides_in}
use Rattle.text.proofs.Putting.{Left}
use Rattle.sheet_text.specs.Room.{line_width}
use Rattle.sheet_text.specs.Sheet.{rides_text}
use Rattle.sheet_text.proofs.put_rides.Given as goal

abbrev pub invariant-loop-i : goal.invariant-loop-i
invariant-loop-i l =
    Left l.initial.out l.at (rides_text (rides_in (decode l.f l.sailings) (take (3 * l.rides) l.plan))) l.out l.next
    (rides_text (drop l.i (rides_in (decode l.f l.sailings) (take (3 * l.rides) l.plan)))) × (l.next ≤ l.at + l.i * line_width)
