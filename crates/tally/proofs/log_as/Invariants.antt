use Rattle.std.proofs.Common.{◌≡◌, ◌+◌, ◌/◌, length}
use Rattle.tally.specs.Tally.{counts_rule}
use Rattle.tally.specs.LogOutcome.{landings_in, log_outcome}
use Rattle.tally.proofs.log_as.Given as goal

abbrev pub invariant-loop-i : goal.invariant-loop-i
invariant-loop-i l = record {
  kept : l.kept ≡ counts_rule l.tally;
  four : l.i-iterator.iter.size ≡ 4;
  counted : l.i-iterator.count + length l.i-iterator.iter.rest.now / 4 ≡ length l.log / 4;
  outcome : log_outcome l.f l.i-iterator.count (landings_in l.i-iterator.iter.rest.now) l.tally ≡ log_outcome l.f 0 (landings_in l.log) l.fn.tally;
}
