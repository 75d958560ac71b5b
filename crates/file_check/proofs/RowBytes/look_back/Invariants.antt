use mathlib.Core.Path.{◌≡◌}
use Rattle.file_check.specs.Behind.{found_behind}
use Rattle.file_check.proofs.RowBytes.look_back.Given as goal

abbrev pub invariant-loop-place : goal.invariant-loop-place
invariant-loop-place l =
    let rows = l.self in
    found_behind l.trip rows.width rows.file.now rows.start l.count ≡ found_behind l.trip rows.width rows.file.now rows.start l.place
