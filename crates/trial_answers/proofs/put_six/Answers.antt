-- `trial_answers::put_six` meets its contract. Assumes nothing.
use mathlib.Core.List.{[], ◌∷◌}
use native.Mathlib.Omega.{arith}
use lib.ListN.{length-set}
use Rattle.trial_answers.proofs.Six.{too_short, six_stores}
use Rattle.trial_answers.proofs.put_six.Goals as goal

pub returns-then-answer-lt6 : goal.returns-then-answer-lt6
returns-then-answer-lt6 c =
    let a = c.args in
    too_short (a.a ∷ a.b ∷ a.c ∷ a.d ∷ a.e ∷ a.f ∷ []) a.answer.now c.if-answer-lt6.true

pub bounds-answer-1 : goal.bounds-answer-1
bounds-answer-1 c = simp length-set (omega arith)

pub bounds-answer-2 : goal.bounds-answer-2
bounds-answer-2 c = simp length-set (omega arith)

pub bounds-answer-3 : goal.bounds-answer-3
bounds-answer-3 c = simp length-set (omega arith)

pub bounds-answer-4 : goal.bounds-answer-4
bounds-answer-4 c = simp length-set (omega arith)

pub returns : goal.returns
returns c =
    let a = c.args in
    six_stores a.answer.now a.a a.b a.c a.d a.e a.f c.if-answer-lt6.false
