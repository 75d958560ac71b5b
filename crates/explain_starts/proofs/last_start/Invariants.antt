-- `explain_starts::last_start` meets its contract: one can start at `low`, and at no minute behind `high`. Assumes nothing.
use Prim.Native.Nat.{◌-◌}
use mathlib.Core.Path.{◌≡◌}
use lib.ListN.{length}
use Rattle.file_layout.specs.Decode.{decode}
use Rattle.planner.specs.Outcome.{work_after}
use Rattle.explain_starts.specs.Starts.{StartFits}
use Rattle.explain_starts.proofs.Closing.{Closing}
use Rattle.explain_starts.proofs.last_start.Given as goal

abbrev pub invariant-loop-low : goal.invariant-loop-low
invariant-loop-low l =
    StartFits l.f l.file l.trailer l.source l.target l.gate l.work × (l.work ≡ work_after l.f l.file l.initial.work) × (length l.work ≡ length l.initial.work)
    × Closing (decode l.f l.file) l.source l.target l.gate l.f.lastminute l.low l.high

abbrev pub decreases-loop-low : goal.decreases-loop-low
decreases-loop-low l = l.high - l.low
