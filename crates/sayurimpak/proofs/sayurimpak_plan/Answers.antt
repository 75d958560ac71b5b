-- `sayurimpak::sayurimpak_plan` meets its contract: the call with the least margin. Assumes nothing.
use Prim.Native.Nat.{ℕ}
use mathlib.Core.Path.{ap, ◌∙◌}
use Rattle.file_layout.specs.Format.{version_one}
use Rattle.query.specs.Query.{plain_query, with_code, with_margin}
use Rattle.sayurimpak.specs.Desk.{DeskOutcome, desk_outcome}
use Rattle.sayurimpak.proofs.sayurimpak_plan.Goals as goal

pub returns : goal.returns
returns c =
    let at = c in
    let least = c in
    let a = least.args in
    let o : ℕ → DeskOutcome = λ margin. desk_outcome version_one a.file.now (with_margin margin (with_code a.code (plain_query a.source a.target a.minute)))
    a.out.now in
    let asked = least.cell.ensures in
    let desk = at.sayurimpak_plan_margin.ensures in
    (desk.0 ∙ ap (λ m. (o m).answer) asked, desk.1 ∙ ap (λ m. (o m).bytes) asked)
