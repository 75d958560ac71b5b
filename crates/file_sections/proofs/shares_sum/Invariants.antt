use Prim.Native.Nat.{◌+◌, ◌*◌, ◌≤◌}
use mathlib.Core.Path.{◌≡◌}
use Rattle.timetable.specs.Classes.{sum}
use Rattle.file_layout.specs.Decode.{shares_from}
use Rattle.file_sections.proofs.Shares.{sum_behind}
use Rattle.file_sections.proofs.shares_sum.Given as goal

abbrev pub invariant-loop-i : goal.invariant-loop-i
invariant-loop-i l =
    (sum (shares_from l.file l.first l.count) ≡ l.total + sum_behind l.file l.first l.count l.i) × (l.total ≤ 65536 * l.i)
