-- `trial::trial_check` puts numbers that fit: a sound file's S, n and K, and a refusal's number and place. Assumes nothing.
use mathlib.Core.Path.{sym, ◌∙◌}
use native.Mathlib.Omega.{arith}
use Rattle.trial.proofs.Six.{sound_small, refusal_small}
use Rattle.trial.proofs.trial_check.Goals as goal

pub cell-requires : goal.cell-requires
cell-requires c = (sound_small c.args.file.now c.in-Ok.trailer (sym c.check.ensures ∙ c.in-Ok.is)).0

pub cell-requires-in-Ok : goal.cell-requires-in-Ok
cell-requires-in-Ok c = (sound_small c.args.file.now c.in-Ok.trailer (sym c.check.ensures ∙ c.in-Ok.is)).1

pub cell-requires-in-Ok-2 : goal.cell-requires-in-Ok-2
cell-requires-in-Ok-2 c = (sound_small c.args.file.now c.in-Ok.trailer (sym c.check.ensures ∙ c.in-Ok.is)).2

pub in_cells-requires : goal.in_cells-requires
in_cells-requires c =
    refusal_small c.args.file.now (λ i. omega (arith, c.type_inv.file i)) c.in-Err.refusal (sym c.check.ensures ∙ c.in-Err.is)
