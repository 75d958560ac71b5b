use Rattle.plan_shares.proofs.Running.{SoFar}
use Rattle.plan_shares.proofs.read_shares.Given as goal

abbrev pub invariant-loop-minute : goal.invariant-loop-minute
invariant-loop-minute l = SoFar l.file l.at l.maximum l.into l.initial.tables l.tables l.minute l.total l.late
