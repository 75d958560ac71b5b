-- A CR at a line's end: it is dropped where it is the last byte, and nothing else is. Assumes nothing.
use Prim.Native.Nat.{ℕ, suc, ◌<◌}
use mathlib.Core.Bool.{Bool, true, false, cond, ◌&&◌, ◌||◌}
use mathlib.Core.List.{List, [], ◌∷◌, ◌++◌}
use mathlib.Core.Path.{◌≡◌, refl, sym, ap, ◌∙◌}
use native.Mathlib.Omega.{arith}
use lib.Dec.{eqb}
use lib.ListN.{length, length-append}
use borrow.Author.Tests.{eqb-true, ne_eqb}
use Rattle.laws.proofs.Tests.{ifb, false_right, both_left}
use Rattle.gtfs_lines.specs.Lines.{carriage_return, quote_mark, without_return, has_quote}
use Rattle.gtfs_lines.specs.Joined.{Without}

-- a CR is dropped only where it is last
return_kept : (byte : ℕ) (line : List ℕ) → 0 < length line → without_return (byte ∷ line) ≡ byte ∷ without_return line
unfolding without_return
return_kept byte line some = simp (ne_eqb (length line) 0 (λ e. let z : ⊥ = omega (arith, e) in z))

pub return_last : (front : List ℕ) (byte : ℕ) → without_return (front ++ byte ∷ []) ≡ cond (eqb byte carriage_return) front (front ++ byte ∷ [])
unfolding without_return
return_last [] byte = refl
return_last (first ∷ front) byte =
    return_kept first (front ++ byte ∷ []) (simp length-append (omega arith)) ∙ ap (λ l. first ∷ l) (return_last front byte)
    ∙ by_test (eqb byte carriage_return)
  where
    by_test : (b : Bool) → first ∷ cond b front (front ++ byte ∷ []) ≡ cond b (first ∷ front) (first ∷ front ++ byte ∷ [])
    by_test true = refl
    by_test false = refl

pub return_behind : (front : List ℕ) (byte : ℕ) (line : List ℕ) → eqb byte carriage_return ≡ false
    → without_return (front ++ byte ∷ line) ≡ front ++ byte ∷ without_return line
unfolding without_return
return_behind [] byte line other = simp (other, false_right)
return_behind (first ∷ front) byte line other =
    return_kept first (front ++ byte ∷ line) (simp length-append (omega arith)) ∙ ap (λ l. first ∷ l) (return_behind front byte line other)

-- what is left holds no more than the line
pub without_return_lem : (mark : ℕ) (line : List ℕ) → Without mark line → Without mark (without_return line)
unfolding without_return
without_return_lem mark [] none = tt
without_return_lem mark (byte ∷ line) none =
    ifb (λ b. Without mark (cond b [] (byte ∷ without_return line))) (eqb (length line) 0 && eqb byte carriage_return)
    (λ last. tt) (λ more. (none.0, without_return_lem mark line none.1))

return_quoted : (byte : ℕ) (line : List ℕ) → (eqb (length line) 0 && eqb byte carriage_return) ≡ true → has_quote (byte ∷ line) ≡ false
unfolding has_quote
return_quoted byte [] last = ap (λ b. has_quote (b ∷ [])) (eqb-true byte carriage_return last)
return_quoted byte (next ∷ line) last =
    absurd (let z : ⊥ = omega (arith, eqb-true (suc (length line)) 0 (both_left (eqb (suc (length line)) 0) (eqb byte carriage_return) last)) in z)

pub quotes_kept : (line : List ℕ) → has_quote (without_return line) ≡ has_quote line
unfolding has_quote without_return
quotes_kept [] = refl
quotes_kept (byte ∷ line) =
    ifb (λ b. has_quote (cond b [] (byte ∷ without_return line)) ≡ has_quote (byte ∷ line)) (eqb (length line) 0 && eqb byte carriage_return)
    (λ last. sym (return_quoted byte line last)) (λ more. ap (λ b. eqb byte quote_mark || b) (quotes_kept line))
