use Rattle.std.proofs.Math.Seq.{slice}
use Rattle.plan_rows.specs.Sailings.{rows_of}
use Rattle.plan_scan.proofs.Counting.{Counting}
use Rattle.plan_scan.proofs.reach.Reach.count_boardings.Given as goal

abbrev pub invariant-loop-i : goal.invariant-loop-i
invariant-loop-i l =
    Counting (slice l.self.first l.self.end (rows_of l.self.sailings)) (slice l.i l.self.end (rows_of l.self.sailings)) l.initial.work l.work
