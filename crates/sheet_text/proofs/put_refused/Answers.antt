-- `sheet_text::put_refused` meets its contract: its texts one behind the other. Assumes nothing.
use native.Mathlib.Omega.{arith}
use Rattle.sheet_text.specs.Sheet.{refused_text}
use Rattle.text.proofs.Putting.{put_more}
use Rattle.sheet_text.proofs.put_refused.Goals as goal

pub returns : goal.returns
unfolding refused_text
returns c =
    let end = c in
    let refusal = c in
    let word = c in (
      put_more word.put_text-next.ensures.0 (put_more refusal.put_number-next.ensures.0 end.put_byte.ensures.0),
      omega (
        arith,
        word.put_text-next.ensures.1,
        refusal.put_number-next.ensures.1,
        end.put_byte.ensures.1,
        word.requires,
      ),
    )
