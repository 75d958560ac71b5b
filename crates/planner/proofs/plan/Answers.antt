-- `planner::plan` meets its contract: a refused call, or the plan of an admitted one. Assumes nothing.
use mathlib.Core.Path.{◌≡◌, sym, ap₂, ◌∙◌}
use lib.ListN.{length}
use borrow.Author.Rules.{rules}
use Rattle.std.specs.Prelude.{Err}
use Rattle.file_layout.specs.Format.{version_one}
use Rattle.plan_rows.proofs.Standing.{version_one_plannable}
use Rattle.planner.specs.Admission.{work_room, plan_room, admitted}
use Rattle.planner.proofs.Admitting.{admission_tells, admitted_tells}
use Rattle.planner.proofs.Answered.{refused_as}
use Rattle.planner.proofs.plan.Goals as goal

pub returns-in_err-trailer : goal.returns-in_err-trailer
returns-in_err-trailer c =
    let a = c.args in
    let refusal = c.in_err-trailer.field-0.0 in
    let told : c.from_residual.result ≡ Err refusal = search rules in
    let at_rooms = ap₂ (admitted version_one a.file.now a.q) c.work_needs.ensures c.plan_needs.ensures in
    refused_as version_one a.file.now a.q a.work.now a.plan.now refusal.number refusal.place told
    (admission_tells version_one a.file.now a.q (work_room (length a.work.now)) (plan_room (length a.plan.now)) refusal
    (sym at_rooms ∙ sym c.admit.ensures ∙ c.in_err-trailer.was))

pub plan_admitted-requires : goal.plan_admitted-requires
plan_admitted-requires c =
    let a = c.args in
    let at_rooms = ap₂ (admitted version_one a.file.now a.q) c.work_needs.ensures c.plan_needs.ensures in
    admitted_tells version_one a.file.now a.q (work_room (length a.work.now)) (plan_room (length a.plan.now)) c.in_ok-trailer.trailer
    version_one_plannable (sym at_rooms ∙ sym c.admit.ensures ∙ c.in_ok-trailer.was)
