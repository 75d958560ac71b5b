-- `planner::admit` meets its contract: the check's refusals, then those behind it. Assumes nothing.
use mathlib.Core.Path.{◌≡◌, sym, ◌∙◌}
use native.Mathlib.Omega.{arith}
use borrow.Author.Rules.{rules}
use Rattle.std.specs.Prelude.{Err}
use Rattle.file_layout.specs.Check.{checked_as}
use Rattle.file_layout.proofs.Refusals.{refusal_fits}
use Rattle.file_layout.proofs.Sound.{sound_checked}
use Rattle.planner.proofs.Admitting.{check_refused, behind_check, few_stops_rows, fine_told, fault_told, refused_admission, fine_admission}
use Rattle.planner.proofs.admit.Goals as goal

pub map_err-requires : goal.map_err-requires
map_err-requires c = λ refusal is.
    refusal_fits c.args.f c.args.file.now (λ i. omega (arith, c.type_inv.file i)) refusal.number refusal.place (sym c.check_as.ensures ∙ is)

pub returns-in_err-trailer : goal.returns-in_err-trailer
returns-in_err-trailer c =
    let a = c.args in
    let refusal = c.in_err-trailer.field-0.0 in
    let same : c.map_err.result ≡ checked_as a.f a.file.now = search rules in
    let told : c.from_residual.result ≡ Err refusal = search rules in
    told ∙ refused_admission a.f a.file.now a.q a.work a.other refusal.number refusal.place
    (check_refused a.f a.file.now a.q a.work a.other refusal.number refusal.place (sym same ∙ c.in_err-trailer.was))

pub admit_checked-requires : goal.admit_checked-requires
admit_checked-requires c =
    let a = c.args in
    let same : c.map_err.result ≡ checked_as a.f a.file.now = search rules in
    let few = few_stops_rows a.f a.file.now a.q a.work a.other c.in_ok-trailer.trailer (sym same ∙ c.in_ok-trailer.was) c.requires.0 in
    (few.0, few.1, c.requires.1, c.requires.2)

pub returns-in_err-admit_checked : goal.returns-in_err-admit_checked
returns-in_err-admit_checked c =
    let a = c.args in
    let refusal = c.in_err-admit_checked.field-0.0 in
    let same : c.map_err.result ≡ checked_as a.f a.file.now = search rules in
    let told : c.from_residual-in_err-admit_checked.result ≡ Err refusal = search rules in
    told ∙ refused_admission a.f a.file.now a.q a.work a.other refusal.number refusal.place
    (behind_check a.f a.file.now a.q a.work a.other c.in_ok-trailer.trailer (sym same ∙ c.in_ok-trailer.was)
    ∙ fault_told _ _ (sym c.admit_checked.ensures ∙ c.in_err-admit_checked.was))

pub returns : goal.returns
returns c =
    let a = c.args in
    let h = c.in_ok-trailer.trailer in
    let same : c.map_err.result ≡ checked_as a.f a.file.now = search rules in
    let sound = sym same ∙ c.in_ok-trailer.was in
    fine_admission a.f a.file.now a.q a.work a.other h (sound_checked a.f a.file.now h sound).1
    (behind_check a.f a.file.now a.q a.work a.other h sound ∙ fine_told _ _ (sym c.admit_checked.ensures ∙ c.in_ok-admit_checked.was))
