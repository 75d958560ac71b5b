-- Texts compared byte by byte: the comparison holds exactly of equal texts. Assumes nothing.
use Prim.Native.Nat.{ℕ}
use mathlib.Core.Bool.{true, false, false≢true}
use mathlib.Core.List.{List, [], ◌∷◌}
use mathlib.Core.Path.{◌≡◌, refl, subst}
use borrow.Author.Tests.{eqb-true, eq-eqb}
use lib.Dec.{eqb}
use Rattle.laws.proofs.Tests.{ifb, both, both_left, both_right}
use Rattle.text.specs.Same.{same_bytes}

pub same_equal : (a b : List ℕ) → same_bytes a b ≡ true → a ≡ b
unfolding same_bytes
same_equal [] [] e = refl
same_equal [] (y ∷ ys) e = absurd (false≢true e)
same_equal (x ∷ xs) [] e = absurd (false≢true e)
same_equal (x ∷ xs) (y ∷ ys) e =
    let first : x ≡ y = eqb-true x y (both_left (eqb x y) (same_bytes xs ys) e) in
    let others : xs ≡ ys = same_equal xs ys (both_right (eqb x y) (same_bytes xs ys) e) in
    cc

same_itself : (a : List ℕ) → same_bytes a a ≡ true
unfolding same_bytes
same_itself [] = refl
same_itself (x ∷ xs) = both (eq-eqb x x refl) (same_itself xs)

pub equal_same : (a b : List ℕ) → a ≡ b → same_bytes a b ≡ true
equal_same a b e = subst (λ l. same_bytes a l ≡ true) e (same_itself a)

pub different_other : (a b : List ℕ) → (a ≡ b → ⊥) → same_bytes a b ≡ false
different_other a b apart = ifb (λ t. t ≡ false) (same_bytes a b) (λ same. absurd (apart (same_equal a b same))) (λ other. refl)

pub other_different : (a b : List ℕ) → same_bytes a b ≡ false → a ≡ b → ⊥
other_different a b other e = false≢true (subst (λ t. t ≡ true) other (equal_same a b e))
