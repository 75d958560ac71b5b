-- `gtfs_stop_times::wanted_behind` meets its contract: the lines are read into notes of its own, and what is wanted is written of these. Assumes nothing.
use borrow.Author.Rules.{rules}
use Rattle.gtfs_stop_times.proofs.Answered.{wanted_answered, fault_answered}
use Rattle.gtfs_stop_times.proofs.wanted_behind.Goals as goal

pub read_lines-requires : goal.read_lines-requires
read_lines-requires c = let pre = c.requires in (pre.0, pre.1, pre.2, c.none-notes.ensures c.args.text.now)

pub returns-in_err-read_lines : goal.returns-in_err-read_lines
returns-in_err-read_lines c =
    let told = fault_answered c.args.wanted c.args.out.now _ _ _ c.in_err-read_lines.ensures in
    search rules

pub returns : goal.returns
returns c = wanted_answered c.args.wanted c.args.out.now _ _ c.in_ok-read_lines.ensures c.put_wanted-bytes.ensures
