-- Where a landing is refused, the log's refusal is the landing's with its number in the log as the place.
use Rattle.std.proofs.Common.{rules, ◌≡◌, ℕ, Result, Ok, Err}
use Rattle.std.specs.Result.{MatchResult}
use Rattle.std.proofs.lemmas.Result.{err_from_is_err_and, MatchResult-weaker}
use mathlib.Core.Path.{refl, ap, sym, ◌∙◌}
use Rattle.timetable.specs.declared.Refusal.{Refusal}
use Rattle.tally.specs.LogOutcome.{LogOutcome, landings_in, log_outcome}
use Rattle.tally.proofs.LogSteps.{log_stopped}
use Rattle.tally.proofs.log_as.Goals as goal

placed_anew : (counted : Result Unit (Refusal ℕ)) (i : ℕ) (refusal : Refusal ℕ)
    → MatchResult counted (λ x. ◌≡◌ {A = Result Unit (Refusal ℕ)} (Err refusal) (Ok x)) (λ e. refusal ≡ record { number = e.number; place = i })
    → (e : Refusal ℕ) × (counted ≡ Err e) × (refusal ≡ record { number = e.number; place = i })
placed_anew (Ok x) i refusal told = absurd (let z : ⊥ = cc in z)
placed_anew (Err e) i refusal told = (e, refl, told)

pub returns-in_err-map_err : goal.returns-in_err-map_err
returns-in_err-map_err c =
    let anew =
    placed_anew c.count.result c.in-Some.i c.in_err-map_err.field-0.0
    (MatchResult-weaker c.count.result (c.in_err-map_err.ensures {u = tt}).cases (λ x is. is) (λ e is. search rules))
    in
    let answer = err_from_is_err_and c.from_residual.result c.from_residual.ensures.1 in
    let turn = (c.in-Some.ensures {u = tt}).steps in
    let four = c.loop-i.invariant.four in
    let stopped =
    log_stopped c.args.f c.in-Some.i c.loop-i.i-iterator.iter.rest.now c.in-Some.bytes.now c.next.new.self.iter.rest.now c.landing_of.result
    c.loop-i.tally c.count.new.tally turn.0.1.0 (cc) c.landing_of.ensures c.count.ensures.1 anew.0 (sym c.count.ensures.0 ∙ anew.1)
    in
    let outcome =
    sym stopped ∙ ap (λ (k : ℕ). log_outcome c.args.f k (landings_in c.loop-i.i-iterator.iter.rest.now) c.loop-i.tally) turn.1 ∙ c.loop-i.invariant.outcome
    in
    (answer.1 ∙ ap Err (answer.2 ∙ anew.2) ∙ ap (λ (o : LogOutcome). o.answer) outcome, ap (λ (o : LogOutcome). o.tally) outcome)
