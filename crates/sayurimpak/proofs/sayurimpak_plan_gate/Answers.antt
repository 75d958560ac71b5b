-- `sayurimpak::sayurimpak_plan_gate` meets its contract: the planner's outcome in the lent numbers is the desk's. Assumes nothing.
use Prim.Native.Nat.{◌/◌, min}
use mathlib.Core.List.{◌++◌}
use mathlib.Core.Path.{◌≡◌, sym, ap, subst, ◌∙◌}
use native.Mathlib.Omega.{arith}
use lib.ListN.{length, take, drop}
use lib.Seq.{length-take-le}
use Rattle.file_layout.specs.Format.{version_one}
use Rattle.file_layout.proofs.Sound.{version_one_readable}
use Rattle.planner.specs.Outcome.{plan_outcome}
use Rattle.sayurimpak.specs.Desk.{desk_outcome}
use Rattle.sayurimpak.specs.Given.{given, Fitting}
use Rattle.sayurimpak.proofs.Room.{desk_given, desk_fits}
use Rattle.sayurimpak.proofs.sayurimpak_plan_gate.Goals as goal

pub give-requires : goal.give-requires
give-requires c =
    let out = c.args.out.now in
    let numbers = c.plan_room-numbers.result in
    let lent = take c.min-lent.result numbers in
    let behind = drop c.min-lent.result numbers in
    let o = plan_outcome version_one c.args.file.now c.query_of-q.result c.work_room-work.result lent in
    let long : length lent ≡ min 6000 (length out / 4) =
    length-take-le c.min-lent.result numbers (omega (arith, c.plan_room-numbers.ensures.1, c.min-lent.ensures)) ∙ c.min-lent.ensures in
    let left = sym c.plan-answer.ensures.2 in
    subst (λ r. Fitting r (c.plan-answer.new.plan ++ behind) out) (sym c.plan-answer.ensures.0)
    (subst (λ p. Fitting o.answer (p ++ behind) out) left
    (desk_fits version_one version_one_readable c.args.file.now c.query_of-q.result c.work_room-work.result lent behind out
    c.work_room-work.ensures.1 long (ap length left ∙ c.plan-answer.auto.plan)))

pub returns : goal.returns
returns c =
    let out = c.args.out.now in
    let numbers = c.plan_room-numbers.result in
    let lent = take c.min-lent.result numbers in
    let behind = drop c.min-lent.result numbers in
    let o = plan_outcome version_one c.args.file.now c.query_of-q.result c.work_room-work.result lent in
    let long : length lent ≡ min 6000 (length out / 4) =
    length-take-le c.min-lent.result numbers (omega (arith, c.plan_room-numbers.ensures.1, c.min-lent.ensures)) ∙ c.min-lent.ensures in
    let same =
    ap (λ r. given r (c.plan-answer.new.plan ++ behind) out) c.plan-answer.ensures.0
    ∙ ap (λ p. given o.answer (p ++ behind) out) c.plan-answer.ensures.2
    ∙ desk_given version_one version_one_readable c.args.file.now c.query_of-q.result c.work_room-work.result lent behind out
    c.work_room-work.ensures.1 long
    ∙ ap (λ q. desk_outcome version_one c.args.file.now q out) c.query_of-q.ensures
    in
    (c.give.ensures.0 ∙ ap (λ d. d.answer) same, c.give.ensures.1 ∙ ap (λ d. d.bytes) same)
