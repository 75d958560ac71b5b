-- `sheet_text::put_rides` meets its contract: the lines of the rides that are left make the whole. Assumes nothing.
use mathlib.Core.Path.{◌∙◌}
use native.Mathlib.Omega.{arith}
use Rattle.file_layout.specs.Decode.{decode}
use Rattle.sheet_text.proofs.Lines.{line_read, lines_on, lines_end}
use Rattle.sheet_text.proofs.put_rides.Goals as goal

pub loop-i-preserved : goal.loop-i-preserved
loop-i-preserved c =
    let a = c.args in
    let t = decode a.f a.sailings.now in
    let same = line_read t a.plan.now c.loop-i.i c.row_of-board.ensures.0 (c.number.ensures.0 ∙ c.ride_at-ride.ensures.0)
    c.row_of-leave.ensures.0 (c.number-in-loop-i.ensures.0 ∙ c.ride_at-ride.ensures.1) c.ride_at-ride.ensures.2 in (
      lines_on t a.plan.now a.rides c.requires.sound_file.2.room c.loop-i.i c.loop-i-test.true c.loop-i.invariant.0 same c.put_line-next.ensures.0,
      omega (arith, c.put_line-next.ensures.1, c.loop-i.invariant.1),
    )

pub returns : goal.returns
returns c =
    let a = c.args in (
      lines_end (decode a.f a.sailings.now) a.plan.now a.rides c.requires.sound_file.2.room c.loop-i.i (omega arith) c.loop-i.invariant.0,
      omega arith,
    )
