-- Laws on tests: a Bool is split with its equation, and what a conjunction or a choice by a test says. Assumes nothing.
use mathlib.Core.Bool.{Bool, true, false, cond, not, ◌&&◌, ◌||◌, false≢true}
use mathlib.Core.Logic.{◌⊎◌, inl, inr}
use mathlib.Core.Path.{◌≡◌, refl, sym, subst, ap, ◌∙◌}
use borrow.Author.Tests.{not-true, not-false}
use lib.Dec.{T}

-- a test is true or it is false, and each way its equation is at hand
pub ifb {ℓ} : (P : Bool → Type ℓ) (b : Bool) → (b ≡ true → P true) → (b ≡ false → P false) → P b
ifb P true yes' no' = yes' refl
ifb P false yes' no' = no' refl

pub both : {a b : Bool} → a ≡ true → b ≡ true → (a && b) ≡ true
both {a} {b} p q = subst (λ (x : Bool). (x && b) ≡ true) (sym p) q

pub both_left : (a b : Bool) → (a && b) ≡ true → a ≡ true
both_left true b e = refl
both_left false b e = e

pub both_right : (a b : Bool) → (a && b) ≡ true → b ≡ true
both_right true b e = e
both_right false b e = absurd (false≢true e)

-- a conjunction with a false part is false
pub false_right : (a : Bool) → (a && false) ≡ false
false_right true = refl
false_right false = refl

pub both_both : (a b c : Bool) → (a && b && c) ≡ (a && (b && c))
both_both true b c = refl
both_both false b c = refl

-- what a rule's answer says of the rule, once the answer is tested
pub rule_breaks : {answer rule : Bool} → answer ≡ rule → not answer ≡ true → rule ≡ false
rule_breaks told test = sym told ∙ not-true _ test

pub rule_keeps : {answer rule : Bool} → answer ≡ rule → not answer ≡ false → rule ≡ true
rule_keeps told test = sym told ∙ not-false _ test

pub either : (a b : Bool) → (a || b) ≡ true → (a ≡ true) ⊎ (b ≡ true)
either true b e = inl refl
either false b e = inr e

-- a choice whose test is known
pub cond_true {ℓ} : {A : Type ℓ} {b : Bool} (x y : A) → b ≡ true → cond b x y ≡ x
cond_true x y e = ap (λ b. cond b x y) e

pub cond_false {ℓ} : {A : Type ℓ} {b : Bool} (x y : A) → b ≡ false → cond b x y ≡ y
cond_false x y e = ap (λ b. cond b x y) e

pub T_true : {b : Bool} → T b → b ≡ true
T_true {b} t = go b t
  where
    go : (b : Bool) → T b → b ≡ true
    go true t = refl
    go false t = absurd t

pub true_T : {b : Bool} → b ≡ true → T b
true_T e = subst T (sym e) tt
