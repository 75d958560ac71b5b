-- `sheet_text::put_first` meets its contract: its texts one behind the other. Assumes nothing.
use native.Mathlib.Omega.{arith}
use Rattle.sheet_text.specs.Sheet.{first_text}
use Rattle.text.proofs.Putting.{put_more}
use Rattle.sheet_text.proofs.put_first.Goals as goal

pub returns : goal.returns
unfolding first_text
returns c =
    let end = c in
    let latest = c in
    let third = c in
    let expected = c in
    let second = c in
    let rides = c in
    let plan = c in (
      put_more plan.put_text-next.ensures.0
          (put_more rides.put_number-next.ensures.0
          (put_more second.put_byte-next.ensures.0
          (put_more expected.put_expected-next.ensures.0
          (put_more third.put_byte-next-2.ensures.0 (put_more latest.put_time-next.ensures.0 end.put_byte.ensures.0))))),
      omega (
        arith,
        plan.put_text-next.ensures.1,
        rides.put_number-next.ensures.1,
        second.put_byte-next.ensures.1,
        expected.put_expected-next.ensures.1,
        third.put_byte-next-2.ensures.1,
        latest.put_time-next.ensures.1,
        end.put_byte.ensures.1,
      ),
    )
