-- How many rows board at a stop, and at all stops together. Assumes nothing.
use Prim.Native.Nat.{ℕ, zero, suc, ◌+◌, ◌-◌, ◌≤◌}
use mathlib.Core.Bool.{cond}
use mathlib.Core.List.{List, [], ◌∷◌}
use mathlib.Core.Path.{◌≡◌, refl, ap, subst, ◌∙◌}
use native.Mathlib.Omega.{arith}
use lib.Dec.{eqb}
use lib.ListN.{take, drop, length}
use lib.Seq.{slice, drop-drop}
use borrow.Author.Tests.{eqb-true, eqb-false, eq-eqb, ne_eqb}
use Rattle.timetable.specs.declared.Row.{Row}
use Rattle.laws.proofs.Tests.{ifb, cond_true, cond_false}
use Rattle.plan_stacks.specs.Regions.{below}
use Rattle.plan_scan.specs.Regions.{count_at}

pub count_here : (stop : ℕ) (r : Row) (rows : List Row) → r.board ≡ stop → count_at stop (r ∷ rows) ≡ suc (count_at stop rows)
unfolding count_at
count_here stop r rows e = cond_true (suc (count_at stop rows)) (count_at stop rows) (eq-eqb r.board stop e)

pub count_elsewhere : (stop : ℕ) (r : Row) (rows : List Row) → (r.board ≡ stop → ⊥) → count_at stop (r ∷ rows) ≡ count_at stop rows
unfolding count_at
count_elsewhere stop r rows ne = cond_false (suc (count_at stop rows)) (count_at stop rows) (ne_eqb r.board stop ne)

-- of a row that comes in front
pub count_more : (stop : ℕ) (r : Row) (rows : List Row) → count_at stop rows ≤ count_at stop (r ∷ rows)
unfolding count_at
count_more stop r rows =
    ifb (λ b. count_at stop rows ≤ cond b (suc (count_at stop rows)) (count_at stop rows)) (eqb r.board stop)
    (λ _. let z : count_at stop rows ≤ suc (count_at stop rows) = omega arith in z) (λ _. let z : count_at stop rows ≤ count_at stop rows = omega arith in z)

pub count_few : (stop : ℕ) (rows : List Row) → count_at stop rows ≤ length rows
unfolding count_at
count_few stop [] = let z : 0 ≤ 0 = omega arith in z
count_few stop (r ∷ rows) =
    let few : count_at stop rows ≤ length rows = count_few stop rows in
    ifb (λ b. cond b (suc (count_at stop rows)) (count_at stop rows) ≤ suc (length rows)) (eqb r.board stop)
    (λ _. let z : suc (count_at stop rows) ≤ suc (length rows) = omega arith in z)
    (λ _. let z : count_at stop rows ≤ suc (length rows) = omega arith in z)

-- one row more adds one, in its own stop's region
one_more :
    (r : Row) (rows : List Row) (k : ℕ)
    → (below (λ s. count_at s (r ∷ rows)) k ≤ suc (below (λ s. count_at s rows) k))
    × (k ≤ r.board → below (λ s. count_at s (r ∷ rows)) k ≡ below (λ s. count_at s rows) k)
unfolding below
one_more r rows zero = ((let z : 0 ≤ 1 = omega arith in z), λ _. refl)
one_more r rows (suc k) =
    let so_far = one_more r rows k in
    ifb
    (λ b. eqb r.board k ≡ b
    → (below (λ s. count_at s (r ∷ rows)) k + count_at k (r ∷ rows) ≤ suc (below (λ s. count_at s rows) k + count_at k rows))
    × (suc k ≤ r.board → below (λ s. count_at s (r ∷ rows)) k + count_at k (r ∷ rows) ≡ below (λ s. count_at s rows) k + count_at k rows))
    (eqb r.board k)
    (λ e _. let here : r.board ≡ k = eqb-true r.board k e in
    let count = count_here k r rows here in
    let same : below (λ s. count_at s (r ∷ rows)) k ≡ below (λ s. count_at s rows) k = so_far.1 (omega arith) in (omega arith, λ h. omega arith))
    (λ e _. let count = count_elsewhere k r rows (eqb-false r.board k e) in
    let less = so_far.0 in (omega arith, λ h. let same : below (λ s. count_at s (r ∷ rows)) k ≡ below (λ s. count_at s rows) k = so_far.1 (omega arith) in omega arith)) refl

nothing_below : (k : ℕ) → below (λ s. count_at s []) k ≡ 0
unfolding below count_at
nothing_below zero = refl
nothing_below (suc k) = ap (λ x. x + 0) (nothing_below k)

-- all regions together are no larger than the rows are many
pub below_count : (rows : List Row) (k : ℕ) → below (λ s. count_at s rows) k ≤ length rows
below_count [] k = let none : below (λ s. count_at s []) k ≡ 0 = nothing_below k in omega arith
below_count (r ∷ rows) k =
    let fewer : below (λ s. count_at s rows) k ≤ length rows = below_count rows k in
    let more = (one_more r rows k).0 in omega arith

-- rows that come later are counted no oftener
count_drop : (stop k : ℕ) (rows : List Row) → count_at stop (drop k rows) ≤ count_at stop rows
count_drop stop zero rows = let z : count_at stop rows ≤ count_at stop rows = omega arith in z
count_drop stop (suc k) [] = let z : count_at stop [] ≤ count_at stop [] = omega arith in z
count_drop stop (suc k) (r ∷ rows) =
    let fewer : count_at stop (drop k rows) ≤ count_at stop rows = count_drop stop k rows in
    let more = count_more stop r rows in omega arith

pub count_slice : (stop first i end : ℕ) (rows : List Row) → first ≤ i → count_at stop (slice i end rows) ≤ count_at stop (slice first end rows)
count_slice stop first i end rows h =
    let place : first + (i - first) ≡ i = omega arith in
    subst (λ (l : List Row). count_at stop l ≤ count_at stop (slice first end rows))
    (drop-drop (i - first) first (take end rows) ∙ ap (λ k. drop k (take end rows)) place) (count_drop stop (i - first) (slice first end rows))
