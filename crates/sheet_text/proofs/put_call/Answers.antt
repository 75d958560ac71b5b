-- `sheet_text::put_call` meets its contract: the stop, a blank, the time. Assumes nothing.
use mathlib.Core.Path.{ap}
use native.Mathlib.Omega.{arith}
use Rattle.clock.specs.Text.{time_text}
use Rattle.sheet_text.specs.Sheet.{call_text}
use Rattle.text.proofs.Putting.{put_more, put_as}
use Rattle.sheet_text.proofs.put_call.Goals as goal

pub returns : goal.returns
unfolding call_text
returns c =
    let time = c in
    let minute = c in
    let byte = c in
    let stop = c in (
      put_more stop.put_number-next.ensures.0
          (put_more byte.put_byte-next.ensures.0 (put_as (ap time_text minute.cell.ensures) time.put_time.ensures.0)),
      omega (arith, byte.put_byte-next.ensures.1, stop.put_number-next.ensures.1, time.put_time.ensures.1),
    )
