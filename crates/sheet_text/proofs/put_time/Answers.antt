-- `sheet_text::put_time` meets its contract. Assumes nothing.
use native.Mathlib.Omega.{arith}
use Rattle.text.proofs.Putting.{put_as}
use Rattle.sheet_text.proofs.Times.{printed_text}
use Rattle.sheet_text.proofs.put_time.Goals as goal

pub returns : goal.returns
returns c =
    let text = c.time_text-text in
    let minute = c.args.time.minute in (
      put_as (printed_text minute text.result text.ensures) c.put_text.ensures.0,
      omega (arith, text.ensures.wide, text.ensures.inside),
    )
