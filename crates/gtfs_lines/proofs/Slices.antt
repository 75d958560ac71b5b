-- Parts of a text by their places, and where a line's last field ends. Assumes nothing.
use Prim.Native.Nat.{ℕ, zero, suc, ◌+◌, ◌-◌, ◌≤◌, ◌<◌}
use mathlib.Core.Bool.{Bool, true, false, cond, ◌&&◌}
use mathlib.Core.List.{List, [], ◌∷◌, ◌++◌}
use mathlib.Core.Path.{◌≡◌, refl, sym, ap, ◌∙◌}
use native.Mathlib.Omega.{arith}
use lib.Dec.{eqb, ltb}
use lib.ListN.{length, take, drop, get_or, take-append-drop}
use lib.Seq.{slice, slice_empty, length-take-le, take-add, take-suc, drop_at, drop-append-le}
use borrow.Author.Tests.{ltb-true, ltb-false}
use Rattle.laws.proofs.Tests.{ifb}
use Rattle.gtfs_lines.specs.Lines.{carriage_return, without_return}
use Rattle.gtfs_lines.specs.Cut.{last_end}
use Rattle.gtfs_lines.proofs.Returns.{return_last}

module _ (text : List ℕ) (from : ℕ) where
  -- the first bytes of what is left from a place on
  pub slice_ahead : (n : ℕ) → from ≤ length text → slice from (from + n) text ≡ take n (drop from text)
  slice_ahead n inside =
      ap (drop from) (take-add from n text) ∙ drop_at (take from text) (take n (drop from text)) from (length-take-le from text inside)

  module _ (at : ℕ) (rises : from ≤ at) where
    -- a part, and what is left behind it
    pub slice_behind : at ≤ length text → drop from text ≡ slice from at text ++ drop at text
    slice_behind inside =
        ap (drop from) (sym (take-append-drop at text))
        ∙ drop-append-le from (take at text) (drop at text) (omega (arith, length-take-le at text inside))

    slice_one_more : at < length text → slice from (suc at) text ≡ slice from at text ++ get_or text at 0 ∷ []
    slice_one_more inside =
        ap (drop from) (take-suc text at 0 inside)
        ∙ drop-append-le from (take at text) (get_or text at 0 ∷ []) (omega (arith, length-take-le at text (omega arith)))

-- a part ends ahead of its last CR
last_one : (text : List ℕ) (from at : ℕ) → from ≤ at → at < length text
    → slice from (cond (eqb (get_or text at 0) carriage_return) at (suc at)) text ≡ without_return (slice from (suc at) text)
last_one text from at rises inside =
    by_test (eqb (get_or text at 0) carriage_return)
    ∙ ap (λ l. cond (eqb (get_or text at 0) carriage_return) (slice from at text) l) (slice_one_more text from at rises inside)
    ∙ sym (ap without_return (slice_one_more text from at rises inside) ∙ return_last (slice from at text) (get_or text at 0))
  where
    by_test : (b : Bool) → slice from (cond b at (suc at)) text ≡ cond b (slice from at text) (slice from (suc at) text)
    by_test true = refl
    by_test false = refl

pub last_slice : (text : List ℕ) (from at : ℕ) → from ≤ at → at ≤ length text
    → slice from (last_end text from at) text ≡ without_return (slice from at text)
unfolding last_end without_return
last_slice text from at rises inside =
    ifb (λ b. slice from (cond (b && eqb (get_or text (at - 1) 0) carriage_return) (at - 1) at) text ≡ without_return (slice from at text)) (ltb from at)
    (λ some. some_bytes at (ltb-true from at some) inside)
    (λ none. no_bytes (omega (arith, ltb-false from at none)))
  where
    no_bytes : from ≡ at → slice from at text ≡ without_return (slice from at text)
    no_bytes e =
        let empty : slice from at text ≡ [] = ap (λ n. slice n at text) e ∙ slice_empty at text in empty ∙ sym (ap without_return empty)

    some_bytes : (n : ℕ) → from < n → n ≤ length text
        → slice from (cond (eqb (get_or text (n - 1) 0) carriage_return) (n - 1) n) text ≡ without_return (slice from n text)
    some_bytes zero some within = absurd (let z : ⊥ = omega arith in z)
    some_bytes (suc before) some within =
        let one_less : suc before - 1 ≡ before = omega arith in rw one_less (last_one text from before (omega arith) (omega arith))

-- which is no further ahead than the part's start
pub last_rises : (text : List ℕ) (from at : ℕ) → from ≤ at → from ≤ last_end text from at
unfolding last_end
last_rises text from at rises =
    ifb (λ b. from ≤ cond (b && eqb (get_or text (at - 1) 0) carriage_return) (at - 1) at) (ltb from at)
    (λ some. by_test (ltb-true from at some) (eqb (get_or text (at - 1) 0) carriage_return)) (λ none. rises)
  where
    by_test : from < at → (b : Bool) → from ≤ cond b (at - 1) at
    by_test some true = omega arith
    by_test some false = rises

pub last_before : (text : List ℕ) (from at : ℕ) → last_end text from at ≤ at
unfolding last_end
last_before text from at = by_test (ltb from at && eqb (get_or text (at - 1) 0) carriage_return)
  where
    by_test : (b : Bool) → cond b (at - 1) at ≤ at
    by_test true = omega arith
    by_test false = omega arith
