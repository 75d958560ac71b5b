-- A bucket's ids, from the last to the first: which are left when the chain stands at one. Assumes nothing.
use Prim.Native.Nat.{ℕ, zero, suc, ◌≤◌, ◌<◌}
use mathlib.Core.Bool.{cond}
use mathlib.Core.List.{List}
use mathlib.Core.Path.{◌≡◌, refl, sym, ap, subst, ◌∙◌}
use native.Mathlib.Omega.{arith}
use borrow.Author.Tests.{eqb-true, eqb-false, eq-eqb, ne_eqb, ltb-true, ltb-false}
use lib.Dec.{eqb, ltb}
use Rattle.laws.proofs.Tests.{ifb, cond_true, cond_false}
use Rattle.gtfs_ids.specs.Keys.{bucket_of}
use Rattle.gtfs_ids.specs.Book.{key_in, earlier_in, last_in, Chained}

-- the last id is in the bucket, or an earlier one is its last
pub last_here : (book : List ℕ) (bucket count : ℕ) → bucket_of (key_in book count) ≡ bucket → last_in book bucket (suc count) ≡ suc count
unfolding last_in
last_here book bucket count e = cond_true (suc count) (last_in book bucket count) (eq-eqb (bucket_of (key_in book count)) bucket e)

pub last_further : (book : List ℕ) (bucket count : ℕ) → (bucket_of (key_in book count) ≡ bucket → ⊥)
    → last_in book bucket (suc count) ≡ last_in book bucket count
unfolding last_in
last_further book bucket count other = cond_false (suc count) (last_in book bucket count) (ne_eqb (bucket_of (key_in book count)) bucket other)

pub in_or_out {ℓ} : (P : Type ℓ) (book : List ℕ) (bucket i : ℕ)
    → (bucket_of (key_in book i) ≡ bucket → P) → ((bucket_of (key_in book i) ≡ bucket → ⊥) → P) → P
in_or_out P book bucket i within without =
    ifb (λ t. P) (eqb (bucket_of (key_in book i)) bucket)
    (λ same. within (eqb-true (bucket_of (key_in book i)) bucket same))
    (λ other. without (eqb-false (bucket_of (key_in book i)) bucket other))

pub last_within : (book : List ℕ) (bucket count : ℕ) → last_in book bucket count ≤ count
unfolding last_in
last_within book bucket zero = omega arith
last_within book bucket (suc count) =
    in_or_out (last_in book bucket (suc count) ≤ suc count) book bucket count
    (λ here. omega (arith, last_here book bucket count here))
    (λ other. omega (arith, last_further book bucket count other, last_within book bucket count))

-- an id from the last one on is in another bucket
pub last_behind : (book : List ℕ) (bucket count i : ℕ) → last_in book bucket count ≤ i → i < count → bucket_of (key_in book i) ≡ bucket → ⊥
last_behind book bucket zero i from before same = omega arith
last_behind book bucket (suc count) i from before same =
    in_or_out ⊥ book bucket count
    (λ here. omega (arith, last_here book bucket count here))
    (λ other.
    ifb (λ t. ⊥) (ltb i count)
    (λ less. last_behind book bucket count i (omega (arith, last_further book bucket count other)) (ltb-true i count less) same)
    (λ last. other (subst (λ k. bucket_of (key_in book k) ≡ bucket) (omega (arith, ltb-false i count last)) same)))

-- the last one is in the bucket
pub last_in_lem : (book : List ℕ) (bucket count i : ℕ) → last_in book bucket count ≡ suc i → bucket_of (key_in book i) ≡ bucket
unfolding last_in
last_in_lem book bucket zero i e = absurd (let z : ⊥ = omega arith in z)
last_in_lem book bucket (suc count) i e =
    in_or_out (bucket_of (key_in book i) ≡ bucket) book bucket count
    (λ here. subst (λ k. bucket_of (key_in book k) ≡ bucket) (omega (arith, last_here book bucket count here)) here)
    (λ other. last_in_lem book bucket count i (sym (last_further book bucket count other) ∙ e))

-- a book with the same keys has the same last ids
pub last_same : (book other : List ℕ) (bucket count : ℕ) → ((i : ℕ) → i < count → key_in other i ≡ key_in book i)
    → last_in other bucket count ≡ last_in book bucket count
unfolding last_in
last_same book other bucket zero same = refl
last_same book other bucket (suc count) same =
    ap (λ key. cond (eqb (bucket_of key) bucket) (suc count) (last_in other bucket count)) (same count (omega arith))
    ∙ ap (λ further. cond (eqb (bucket_of (key_in book count)) bucket) (suc count) further)
    (last_same book other bucket count (λ i h. same i (omega arith)))

-- the chain goes down
pub earlier_within : (book : List ℕ) (count i : ℕ) → Chained book count → i < count → earlier_in book i ≤ i
earlier_within book count i chained inside = omega (arith, chained.links i inside, last_within book (bucket_of (key_in book i)) i)
