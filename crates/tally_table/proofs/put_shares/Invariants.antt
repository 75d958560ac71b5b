use Rattle.std.proofs.Common.{◌≡◌, take}
use lib.Seq.{sets}
use Rattle.timetable.specs.Classes.{sum}
use Rattle.tally_table.specs.Table.{share_of}
use Rattle.tally_table.proofs.Shares.{rest}
use Rattle.tally_table.proofs.put_shares.Given as goal

abbrev pub invariant-loop-x : goal.invariant-loop-x
invariant-loop-x l = record {
  late : l.late ≡ sum (take l.x l.tally);
  ahead : l.ahead ≡ share_of l.landings l.late;
  put : sets l.shares l.x (rest l.tally l.landings l.delay l.x l.late) ≡ sets l.initial.shares 0 (rest l.tally l.landings l.delay 0 0);
}
