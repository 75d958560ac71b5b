-- `planner::plan_checked` meets its contract: behind the check's answer, a refused call or the plan of an admitted one. Assumes nothing.
use mathlib.Core.Path.{◌≡◌, sym, ap₂, ◌∙◌}
use lib.ListN.{length}
use borrow.Author.Rules.{rules}
use Rattle.std.specs.Prelude.{Ok, Err}
use Rattle.timetable.specs.Verdict.{by_verdict, refused}
use Rattle.planner.specs.Admission.{work_room, plan_room, call_verdict}
use Rattle.planner.proofs.Admitting.{behind_check, few_stops_rows, fine_told, fault_told, admits}
use Rattle.planner.proofs.Answered.{refused_as}
use Rattle.planner.proofs.plan_checked.Goals as goal

pub admit_checked-requires : goal.admit_checked-requires
admit_checked-requires c =
    let few = few_stops_rows c.args.f c.args.file.now c.args.q c.work_needs.result c.plan_needs.result c.args.trailer c.requires.1 c.requires.0.readable in
    search rules

pub returns-in_err-admit_checked : goal.returns-in_err-admit_checked
returns-in_err-admit_checked c =
    let a = c.args in
    let work = work_room (length a.work.now) in
    let plan = plan_room (length a.plan.now) in
    let refusal = c.in_err-admit_checked.field-0.0 in
    let told : c.from_residual.result ≡ Err refusal = search rules in
    let at_rooms = ap₂ (λ x y. by_verdict refused (Ok tt) (call_verdict a.f a.trailer a.q x y)) c.work_needs.ensures c.plan_needs.ensures in
    refused_as a.f a.file.now a.q a.work.now a.plan.now refusal.number refusal.place told
    (behind_check a.f a.file.now a.q work plan a.trailer c.requires.1
    ∙ fault_told _ _ (sym at_rooms ∙ sym c.admit_checked.ensures ∙ c.in_err-admit_checked.was))

pub plan_admitted-requires : goal.plan_admitted-requires
plan_admitted-requires c =
    let a = c.args in
    let at_rooms = ap₂ (λ x y. by_verdict refused (Ok tt) (call_verdict a.f a.trailer a.q x y)) c.work_needs.ensures c.plan_needs.ensures in
    admits a.f a.file.now a.q (work_room (length a.work.now)) (plan_room (length a.plan.now)) a.trailer c.requires.1 c.requires.0
    (fine_told _ _ (sym at_rooms ∙ sym c.admit_checked.ensures ∙ c.in_ok-admit_checked.was))
