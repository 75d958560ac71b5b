use Rattle.file_check.proofs.Reading.{Reading}
use Rattle.file_check.proofs.RowBytes.check.Given as goal

abbrev pub invariant-loop-i : goal.invariant-loop-i
invariant-loop-i l =
    let rows = l.self in
    Reading l.ranges rows.width rows.file.now rows.start rows.count l.seen l.departure l.i
