-- `planner::earliest_with_gate` meets its contract: a refused call, or E of an admitted one. Assumes nothing.
use mathlib.Core.Path.{◌≡◌, sym, ap, ◌∙◌}
use lib.ListN.{length}
use borrow.Author.Rules.{rules}
use Rattle.std.specs.Prelude.{Err}
use Rattle.file_layout.specs.Format.{version_one}
use Rattle.query.specs.Query.{plain_query, with_gate}
use Rattle.plan_rows.proofs.Standing.{version_one_plannable}
use Rattle.planner.specs.Admission.{work_room, no_room, admitted}
use Rattle.planner.proofs.Admitting.{admission_tells, admitted_tells}
use Rattle.planner.proofs.Answered.{refused_as_earliest}
use Rattle.planner.proofs.earliest_with_gate.Goals as goal

pub returns-in_err-trailer : goal.returns-in_err-trailer
returns-in_err-trailer c =
    let a = c.args in
    let q = with_gate a.gate (plain_query a.source a.target a.minute) in
    let refusal = c.in_err-trailer.field-0.0 in
    let told : c.from_residual.result ≡ Err refusal = search rules in
    let at_room = ap (λ room. admitted version_one a.file.now q room no_room) c.work_needs.ensures in
    refused_as_earliest version_one a.file.now q a.work.now refusal.number refusal.place told
    (admission_tells version_one a.file.now q (work_room (length a.work.now)) no_room refusal
    (sym at_room ∙ sym c.admit.ensures ∙ c.in_err-trailer.was))

pub earliest_admitted-requires : goal.earliest_admitted-requires
earliest_admitted-requires c =
    let a = c.args in
    let q = with_gate a.gate (plain_query a.source a.target a.minute) in
    let at_room = ap (λ room. admitted version_one a.file.now q room no_room) c.work_needs.ensures in
    admitted_tells version_one a.file.now q (work_room (length a.work.now)) no_room c.in_ok-trailer.trailer
    version_one_plannable (sym at_room ∙ sym c.admit.ensures ∙ c.in_ok-trailer.was)
