-- Six numbers in a buffer. Assumes nothing.
use Prim.Native.Nat.{ℕ, ◌≤◌, ◌<◌}
use mathlib.Core.List.{List, [], ◌∷◌, ◌++◌}
use mathlib.Core.Path.{◌≡◌, sym, ◌∙◌}
use native.Mathlib.Omega.{arith}
use lib.ListN.{length, set, drop}
use lib.Seq.{sets-eq}
use borrow.Author.Tests.{le-leb, lt-leb}
use Rattle.laws.proofs.Tests.{cond_true, cond_false}
use Rattle.trial_answers.specs.Seen.{in_six}

pub too_short : (numbers buffer : List ℕ) → length buffer < 6 → buffer ≡ in_six numbers buffer
unfolding in_six
too_short numbers buffer short = sym (cond_false (numbers ++ drop 6 buffer) buffer (lt-leb 6 (length buffer) short))

pub six_stores : (buffer : List ℕ) (a b c d e f : ℕ) → 6 ≤ length buffer
    → set (set (set (set (set (set buffer 0 a) 1 b) 2 c) 3 d) 4 e) 5 f ≡ in_six (a ∷ b ∷ c ∷ d ∷ e ∷ f ∷ []) buffer
unfolding in_six
six_stores buffer a b c d e f long =
    sets-eq (a ∷ b ∷ c ∷ d ∷ e ∷ f ∷ []) buffer 0 (omega arith)
    ∙ sym (cond_true ((a ∷ b ∷ c ∷ d ∷ e ∷ f ∷ []) ++ drop 6 buffer) buffer (le-leb 6 (length buffer) long))
