-- `text::put_number` meets its contract: the last digit, and those ahead of it. Assumes nothing.
use Prim.Native.Nat.{◌/◌}
use mathlib.Core.List.{[], ◌∷◌}
use mathlib.Core.Path.{ap, ◌∙◌}
use native.Mathlib.Omega.{arith}
use Rattle.text.specs.Decimal.{decimal, number_text}
use Rattle.text.proofs.Digits.{ahead_from}
use Rattle.text.proofs.Putting.{put_as}
use Rattle.text.proofs.put_number.Goals as goal

pub returns : goal.returns
unfolding number_text
returns c =
    let text = c.put_ahead-start.ensures in (
      put_as (ahead_from (omega arith) text ∙ ap (λ d. decimal (c.args.n / 10) (d ∷ [])) c.digit.ensures) c.put_text.ensures.0,
      omega (arith, text.inside),
    )
