-- Reading a list after a run of stores: the cells ahead of the run stay, and its own hold what was stored. Assumes nothing.
use Prim.Native.Nat.{ℕ, zero, suc, ◌+◌, ◌≤◌, ◌<◌}
use mathlib.Core.List.{List, [], ◌∷◌}
use mathlib.Core.Path.{◌≡◌, refl, ◌∙◌}
use native.Mathlib.Omega.{arith}
use lib.ListN.{length, get_or, set, length-set}
use lib.Seq.{sets, get_or-set_same, get_or-set_other}

pub sets_ahead : (l : List ℕ) (i : ℕ) (vs : List ℕ) (j : ℕ) → j < i → get_or (sets l i vs) j 0 ≡ get_or l j 0
sets_ahead l i [] j ahead = refl
sets_ahead l i (a ∷ vs) j ahead =
    sets_ahead (set l i a) (suc i) vs j (omega arith) ∙ get_or-set_other l i j a 0 (λ e. omega arith)

pub sets_within : (l : List ℕ) (i : ℕ) (vs : List ℕ) (k : ℕ) → k < length vs → i + length vs ≤ length l → get_or (sets l i vs) (i + k) 0 ≡ get_or vs k 0
sets_within l i [] k inside room = absurd (let z : ⊥ = omega arith in z)
sets_within l i (a ∷ vs) zero inside room =
    let here : i + 0 ≡ i = omega arith in
    rw here (sets_ahead (set l i a) (suc i) vs i (omega arith) ∙ get_or-set_same l i a 0 (omega arith))
sets_within l i (a ∷ vs) (suc k) inside room =
    let next : i + suc k ≡ suc i + k = omega arith in
    let long : suc i + length vs ≤ length (set l i a) = simp length-set (omega arith) in
    rw next (sets_within (set l i a) (suc i) vs k (omega arith) long)
