use Rattle.plan_shares.proofs.Held.{ReadSoFar}
use Rattle.plan_shares.proofs.read_tables.Given as goal

abbrev pub invariant-loop-k : goal.invariant-loop-k
invariant-loop-k l = ReadSoFar l.file l.fn.s l.tables l.k l.block
