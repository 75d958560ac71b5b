-- Document 01, "What every contract settles": any two outcomes that `plan_landing::getting_off` permits coincide. Assumes nothing.
use mathlib.Core.Path.{sym, ◌∙◌}
use Rattle.laws.proofs.Outcomes.{SettlesResult}
use Rattle.plan_landing.proofs.getting_off.Kinds as getting_off_kinds
use Rattle.plan_landing.proofs.getting_off.Reads as getting_off_reads

-- what the caller showed to be given settles what getting off is worth
pub getting_off_settled :
    SettlesResult 2 getting_off_kinds.ps getting_off_kinds.r
    (λ κs arguments result ending. getting_off_reads.Pre κs arguments × getting_off_reads.Post κs arguments result ending)
getting_off_settled κs arguments one other ending another first second =
    let known = first.0.0 in
    first.1 known.shares known.chosen known.given ∙ sym (second.1 known.shares known.chosen known.given)
