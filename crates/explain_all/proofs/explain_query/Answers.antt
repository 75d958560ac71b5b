-- `explain_all::explain_query` is safe and ends: where planning answers 8, the query keeps its rule. Assumes nothing.
use mathlib.Core.Path.{◌≡◌, sym, ap, ◌∙◌}
use native.Mathlib.Omega.{arith}
use Rattle.timetable.specs.Verdict.{refused}
use Rattle.planner.proofs.Answered.{eight_fits}
use Rattle.explain_all.proofs.explain_query.Goals as goal

pub explain_refusal-requires : goal.explain_refusal-requires
explain_refusal-requires c =
    let a = c.args in
    let told = c.in-Err.refusal in (
      c.requires.0,
      c.requires.1,
      λ eight. eight_fits a.f a.sailings.now c.query_in-q.result c.work_room-work.result c.plan_room-rides.result a.trailer c.requires.1 told.place
          (ap (λ n. refused n told.place) (let z : 8 ≡ told.number = omega (arith, c.number-refusal.ensures, eight) in z)
          ∙ sym c.in-Err.is ∙ c.plan_checked.ensures.0),
    )
