-- There is a ride, and its worth is at most w. Assumes nothing.
use Prim.Native.Nat.{ℕ, ◌≤◌, ◌<◌}
use native.Mathlib.Omega.{arith}
use mathlib.Core.Bool.{cond}
use mathlib.Core.Logic.{◌⊎◌, inl, inr}
use mathlib.Core.Option.{Option, none, some}
use mathlib.Core.Path.{◌≡◌, refl, sym, subst, ◌∙◌}
use lib.Dec.{ltb}
use borrow.Author.Tests.{ltb-true, ltb-false}
use Rattle.laws.proofs.Options.{absent, same_thing}
use Rattle.laws.proofs.Tests.{ifb}
use Rattle.plans.specs.Worth.{Valued}
use Rattle.plans.specs.Chosen.{least_of}

pub data AtMost : Option Valued → ℕ → Type 0 where
  at_most : {v : Valued} {w : ℕ} → v.worth ≤ w → AtMost (some v) w

pub is_at_most : {o : Option Valued} {v : Valued} {w : ℕ} → o ≡ some v → v.worth ≤ w → AtMost o w
is_at_most {o} {v} {w} e h = subst (λ (x : Option Valued). AtMost x w) (sym e) (at_most {v = v} h)

pub raised : {o : Option Valued} {w x : ℕ} → AtMost o w → w ≤ x → AtMost o x
raised {x = x} (at_most {v} h) up = at_most {v = v} {w = x} (omega arith)

pub found_at_most {ℓ} : {o : Option Valued} {w : ℕ} (P : Type ℓ) → AtMost o w → ((v : Valued) → o ≡ some v → v.worth ≤ w → P) → P
found_at_most P (at_most {v} h) given = given v refl h

pub worth_at_most : {o : Option Valued} {w : ℕ} → AtMost o w → (v : Valued) → o ≡ some v → v.worth ≤ w
worth_at_most {w = w} a v e = found_at_most (v.worth ≤ w) a (λ u q h. subst (λ (x : Valued). x.worth ≤ w) (same_thing (sym q ∙ e)) h)

-- the least of two is at most each, and is one of them
pub least_left : {off : Option Valued} (on : Option Valued) {w : ℕ} → AtMost off w → AtMost (least_of off on) w
unfolding least_of
least_left none (at_most h) = at_most h
least_left (some on) (at_most {v = off} {w} h) =
    ifb (λ b. AtMost (cond b (some off) (some on)) w) (ltb off.worth on.worth) (λ _. at_most h)
    (λ e. at_most (let g : on.worth ≤ off.worth = ltb-false off.worth on.worth e in omega arith))

pub least_right : (off : Option Valued) {on : Option Valued} {w : ℕ} → AtMost on w → AtMost (least_of off on) w
unfolding least_of
least_right none (at_most h) = at_most h
least_right (some off) (at_most {v = on} {w} h) =
    ifb (λ b. AtMost (cond b (some off) (some on)) w) (ltb off.worth on.worth)
    (λ e. at_most (let g : off.worth < on.worth = ltb-true off.worth on.worth e in omega arith)) (λ _. at_most h)

-- getting off only where staying on is dearer
pub least_either :
    (off on : Option Valued) {v : Valued} → least_of off on ≡ some v
    → ((off ≡ some v) × ((u : Valued) → on ≡ some u → v.worth < u.worth)) ⊎ (on ≡ some v)
unfolding least_of
least_either none on e = inr e
least_either (some off) none e = inl (e, λ u q. absent q)
least_either (some off) (some on) {v} e =
    ifb (λ b. ltb off.worth on.worth ≡ b → cond b (some off) (some on) ≡ some v → Either) (ltb off.worth on.worth)
    (λ b _ h. inl (
      h,
      λ u q. subst (λ (x : Valued). v.worth < x.worth) (same_thing q)
          (subst (λ (x : Valued). x.worth < on.worth) (same_thing h) (ltb-true off.worth on.worth b)),
    )) (λ _ _ h. inr h) refl e
  where
    Either : Type 0
    Either = ((some off ≡ some v) × ((u : Valued) → some on ≡ some u → v.worth < u.worth)) ⊎ (some on ≡ some v)
