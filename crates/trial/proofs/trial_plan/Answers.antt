-- `trial::trial_plan` meets its contract: the plan with the least margin. Assumes nothing.
use Prim.Native.Nat.{ℕ}
use mathlib.Core.Path.{ap, ◌∙◌}
use Rattle.file_layout.specs.Format.{version_one}
use Rattle.query.specs.Query.{plain_query, with_code, with_margin}
use Rattle.planner.specs.Outcome.{PlanOutcome, plan_outcome, plan_answer}
use Rattle.trial_answers.specs.Seen.{seen}
use Rattle.trial.proofs.trial_plan.Goals as goal

pub returns : goal.returns
returns c =
    let at = c in
    let least = c in
    let a = least.args in
    let o : ℕ → PlanOutcome = λ margin. plan_outcome version_one a.file.now (with_margin margin (with_code a.code (plain_query a.source a.target a.minute)))
    a.work.now a.rides.now in
    let asked = least.cell.ensures in
    let seen_with = at.trial_plan_margin.ensures in (
      seen_with.0 ∙ ap (λ m. seen (plan_answer (o m).answer) a.answer.now) asked,
      seen_with.1 ∙ ap (λ m. (o m).work) asked,
      seen_with.2 ∙ ap (λ m. (o m).plan) asked,
    )
