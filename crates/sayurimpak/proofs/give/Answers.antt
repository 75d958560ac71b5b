-- `sayurimpak::give` meets its contract, in each arm by the case of the planner's answer. Assumes nothing.
use Prim.Native.Nat.{ℕ, ◌*◌, ◌≤◌}
use mathlib.Core.List.{List}
use mathlib.Core.Path.{◌≡◌, sym, ap, subst, ◌∙◌}
use native.Mathlib.Omega.{arith}
use lib.ListN.{length, take}
use Rattle.std.specs.Prelude.{Result, Ok, Err}
use Rattle.timetable.specs.declared.Refusal.{Refusal}
use Rattle.numbers.specs.Bytes.{bytes_of}
use Rattle.numbers.specs.Over.{over}
use Rattle.plan_whole.specs.declared.Plan.{Plan}
use Rattle.sayurimpak.specs.Given.{given, Fitting}
use Rattle.sayurimpak.proofs.give.Goals as goal

number_small : {answer : Result Plan (Refusal ℕ)} {refusal : Refusal ℕ} (numbers out : List ℕ) → answer ≡ Err refusal → Fitting answer numbers out
    → refusal.number ≤ 8
unfolding Fitting
number_small numbers out e fits = subst (λ a. Fitting a numbers out) e fits

plan_fits : {answer : Result Plan (Refusal ℕ)} {plan : Plan} (numbers out : List ℕ) → answer ≡ Ok plan → Fitting answer numbers out
    → (3 * plan.rides ≤ length numbers) × (12 * plan.rides ≤ length out)
unfolding Fitting
plan_fits numbers out e fits = subst (λ a. Fitting a numbers out) e fits

pub overflow_add-result : goal.overflow_add-result
overflow_add-result c = omega (arith, number_small c.args.numbers.now c.args.out.now c.in-Err.is c.requires)

pub put_numbers-requires : goal.put_numbers-requires
put_numbers-requires c =
    let fits = plan_fits c.args.numbers.now c.args.out.now c.in-Ok.is c.requires in
    let rides = c.number.ensures.0 in
    (omega (arith, fits.0, rides), omega (arith, fits.1, rides))

pub returns-in-Err : goal.returns-in-Err
unfolding given
returns-in-Err c =
    let a = c.args in
    let e = c.in-Err.is in
    (sym (ap (λ x. (given x a.numbers.now a.out.now).answer) e), sym (ap (λ x. (given x a.numbers.now a.out.now).bytes) e))

pub returns-in-Ok : goal.returns-in-Ok
unfolding given
returns-in-Ok c =
    let a = c.args in
    let e = c.in-Ok.is in (
      sym (ap (λ x. (given x a.numbers.now a.out.now).answer) e),
      c.put_numbers.ensures
          ∙ ap (λ n. over (bytes_of (take (3 * n) a.numbers.now)) a.out.now) c.number.ensures.0
          ∙ sym (ap (λ x. (given x a.numbers.now a.out.now).bytes) e),
    )
