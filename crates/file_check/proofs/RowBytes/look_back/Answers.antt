-- `file_check::RowBytes::look_back` meets its contract: the search goes on behind a row of another trip. Assumes nothing.
use mathlib.Core.Path.{◌∙◌}
use native.Mathlib.Omega.{arith}
use Rattle.file_check.proofs.Back.{found_further}
use Rattle.file_check.proofs.RowBytes.look_back.Goals as goal

pub loop-place-preserved : goal.loop-place-preserved
loop-place-preserved c =
    let rows = c.args.self.now in
    c.loop-place.invariant
    ∙ found_further rows.width rows.file.now rows.start c.args.trip c.loop-place.place (omega arith) _ c.nth-row.ensures.0 c.if-row-trip.false
