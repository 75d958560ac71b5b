-- `sheet_text::put_line` meets its contract: its texts one behind the other. Assumes nothing.
use native.Mathlib.Omega.{arith}
use Rattle.sheet_text.specs.Sheet.{line_text}
use Rattle.text.proofs.Putting.{put_more}
use Rattle.sheet_text.proofs.put_line.Goals as goal

pub returns : goal.returns
unfolding line_text
returns c =
    let end = c in
    let expected = c in
    let second = c in
    let lands = c in
    let first = c in
    let boards = c in (
      put_more boards.put_call-next.ensures.0
          (put_more first.put_byte-next.ensures.0
          (put_more lands.put_call-next-2.ensures.0
          (put_more second.put_byte-next-2.ensures.0 (put_more expected.put_expected-next.ensures.0 end.put_byte.ensures.0)))),
      omega (
        arith,
        boards.put_call-next.ensures.1,
        first.put_byte-next.ensures.1,
        lands.put_call-next-2.ensures.1,
        second.put_byte-next-2.ensures.1,
        expected.put_expected-next.ensures.1,
        end.put_byte.ensures.1,
      ),
    )
