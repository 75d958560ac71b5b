use Rattle.gtfs_stop_times.proofs.NameLines.{LinesPut}
use Rattle.gtfs_stop_times.proofs.put_ids.Given as goal

abbrev pub invariant-loop-i : goal.invariant-loop-i
invariant-loop-i l =
    LinesPut l.text l.book l.count l.word l.initial.out l.at l.out l.next l.i
