-- Ids numbered by first appearance: where an id's number points, and what one appearance more changes. Assumes nothing.
use Prim.Native.Nat.{ℕ, zero, suc, ◌+◌, ◌≤◌, ◌<◌}
use mathlib.Core.List.{List, [], ◌∷◌, ◌++◌}
use mathlib.Core.Path.{◌≡◌, refl, sym, ap, ◌∙◌}
use native.Mathlib.Omega.{arith}
use borrow.Author.Tests.{lt-ltb, le-ltb, ltb-true, ltb-false}
use lib.Dec.{ltb}
use lib.ListN.{length, get_or, length-append, get_or-append}
use Rattle.laws.proofs.Tests.{ifb, cond_true, cond_false}
use Rattle.text.specs.Same.{same_bytes}
use Rattle.text.proofs.Same.{same_equal, equal_same, different_other, other_different}
use Rattle.gtfs_ids.specs.Ids.{number_of, with_id}

-- the id stands first, or it is looked for among the others
pub number_here : (first : List ℕ) (ids : List (List ℕ)) (id : List ℕ) → first ≡ id → number_of (first ∷ ids) id ≡ 0
unfolding number_of
number_here first ids id e = cond_true 0 (suc (number_of ids id)) (equal_same first id e)

pub number_further : (first : List ℕ) (ids : List (List ℕ)) (id : List ℕ) → (first ≡ id → ⊥) → number_of (first ∷ ids) id ≡ suc (number_of ids id)
unfolding number_of
number_further first ids id other = cond_false 0 (suc (number_of ids id)) (different_other first id other)

pub either_way : (P : Type 0) (first id : List ℕ) → (first ≡ id → P) → ((first ≡ id → ⊥) → P) → P
either_way P first id here further =
    ifb (λ t. P) (same_bytes first id) (λ same. here (same_equal first id same)) (λ other. further (other_different first id other))

pub number_within : (ids : List (List ℕ)) (id : List ℕ) → number_of ids id ≤ length ids
unfolding number_of
number_within [] id = omega arith
number_within (first ∷ ids) id =
    either_way (number_of (first ∷ ids) id ≤ length (first ∷ ids)) first id
    (λ here. omega (arith, number_here first ids id here))
    (λ other. omega (arith, number_further first ids id other, number_within ids id))

-- an id that appeared stands where its number points
pub number_points : (ids : List (List ℕ)) (id : List ℕ) → number_of ids id < length ids → get_or ids (number_of ids id) [] ≡ id
number_points [] id known = absurd (let z : ⊥ = omega arith in z)
number_points (first ∷ ids) id known =
    either_way (get_or (first ∷ ids) (number_of (first ∷ ids) id) [] ≡ id) first id
    (λ here. rw (number_here first ids id here) here)
    (λ other. rw (number_further first ids id other) (number_points ids id (omega (arith, number_further first ids id other))))

-- and nowhere earlier
pub number_first_place : (ids : List (List ℕ)) (id : List ℕ) (i : ℕ) → i < number_of ids id → get_or ids i [] ≡ id → ⊥
unfolding number_of
number_first_place [] id i less same = omega arith
number_first_place (first ∷ ids) id zero less same = omega (arith, number_here first ids id same)
number_first_place (first ∷ ids) id (suc i) less same =
    either_way ⊥ first id
    (λ here. omega (arith, number_here first ids id here))
    (λ other. number_first_place ids id i (omega (arith, number_further first ids id other)) same)

-- ids that come behind change no number that was given
pub number_stays : (ids more : List (List ℕ)) (id : List ℕ) → number_of ids id < length ids → number_of (ids ++ more) id ≡ number_of ids id
number_stays [] more id known = absurd (let z : ⊥ = omega arith in z)
number_stays (first ∷ ids) more id known =
    either_way (number_of (first ∷ (ids ++ more)) id ≡ number_of (first ∷ ids) id) first id
    (λ here. number_here first (ids ++ more) id here ∙ sym (number_here first ids id here))
    (λ other. number_further first (ids ++ more) id other
    ∙ ap suc (number_stays ids more id (omega (arith, number_further first ids id other)))
    ∙ sym (number_further first ids id other))

-- a new id is looked for among those that come behind
pub number_behind : (ids more : List (List ℕ)) (id : List ℕ) → number_of ids id ≡ length ids
    → number_of (ids ++ more) id ≡ length ids + number_of more id
number_behind [] more id new = omega arith
number_behind (first ∷ ids) more id new =
    either_way (number_of (first ∷ (ids ++ more)) id ≡ length (first ∷ ids) + number_of more id) first id
    (λ here. absurd (let z : ⊥ = omega (arith, number_here first ids id here) in z))
    (λ other.
    let fewer : number_of ids id ≡ length ids = omega (arith, number_further first ids id other) in
    omega (arith, number_further first (ids ++ more) id other, number_behind ids more id fewer))

-- the id at a place is numbered by that place or an earlier one
pub number_known : (ids : List (List ℕ)) (i : ℕ) → i < length ids → number_of ids (get_or ids i []) ≤ i
number_known ids i inside =
    ifb (λ t. number_of ids (get_or ids i []) ≤ i) (ltb i (number_of ids (get_or ids i [])))
    (λ later. absurd (number_first_place ids (get_or ids i []) i (ltb-true _ _ later) refl))
    (λ there. ltb-false _ _ there)

-- a known id changes nothing
pub with_known : (ids : List (List ℕ)) (id : List ℕ) → number_of ids id < length ids → with_id ids id ≡ ids
unfolding with_id
with_known ids id known = cond_true ids (ids ++ (id ∷ [])) (lt-ltb _ _ known)

-- a new one comes behind
pub with_new : (ids : List (List ℕ)) (id : List ℕ) → number_of ids id ≡ length ids → with_id ids id ≡ ids ++ (id ∷ [])
unfolding with_id
with_new ids id new = cond_false ids (ids ++ (id ∷ [])) (le-ltb (number_of ids id) (length ids) (omega arith))

pub length_known : (ids : List (List ℕ)) (id : List ℕ) → number_of ids id < length ids → length (with_id ids id) ≡ length ids
length_known ids id known = ap length (with_known ids id known)

pub length_new : (ids : List (List ℕ)) (id : List ℕ) → number_of ids id ≡ length ids → length (with_id ids id) ≡ suc (length ids)
length_new ids id new = ap length (with_new ids id new) ∙ length-append ids (id ∷ []) ∙ omega arith

-- each way its fact is at hand
pub known_or_new {ℓ} : (P : Type ℓ) (ids : List (List ℕ)) (id : List ℕ) → (number_of ids id < length ids → P) → (number_of ids id ≡ length ids → P) → P
known_or_new P ids id known new =
    ifb (λ t. P) (ltb (number_of ids id) (length ids))
    (λ less. known (ltb-true (number_of ids id) (length ids) less))
    (λ not_less. new (omega (arith, number_within ids id, ltb-false (number_of ids id) (length ids) not_less)))

pub length_with : (ids : List (List ℕ)) (id : List ℕ) → (length ids ≤ length (with_id ids id)) × (length (with_id ids id) ≤ suc (length ids))
length_with ids id =
    known_or_new ((length ids ≤ length (with_id ids id)) × (length (with_id ids id) ≤ suc (length ids))) ids id
    (λ known. omega (arith, length_known ids id known))
    (λ new. omega (arith, length_new ids id new))

-- an id that appeared again keeps its number, and a new one has the next
pub number_with : (ids : List (List ℕ)) (id : List ℕ) → number_of (with_id ids id) id ≡ number_of ids id
number_with ids id =
    known_or_new (number_of (with_id ids id) id ≡ number_of ids id) ids id
    (λ known. ap (λ l. number_of l id) (with_known ids id known))
    (λ new. ap (λ l. number_of l id) (with_new ids id new)
    ∙ omega (arith, number_behind ids (id ∷ []) id new, number_here id [] id refl))

-- and so does every other that appeared
pub number_kept : (ids : List (List ℕ)) (id other : List ℕ) → number_of ids other < length ids → number_of (with_id ids id) other ≡ number_of ids other
number_kept ids id other there =
    known_or_new (number_of (with_id ids id) other ≡ number_of ids other) ids id
    (λ known. ap (λ l. number_of l other) (with_known ids id known))
    (λ new. ap (λ l. number_of l other) (with_new ids id new) ∙ number_stays ids (id ∷ []) other there)

pub id_kept : (ids : List (List ℕ)) (id : List ℕ) (i : ℕ) → i < length ids → get_or (with_id ids id) i [] ≡ get_or ids i []
id_kept ids id i inside =
    known_or_new (get_or (with_id ids id) i [] ≡ get_or ids i []) ids id
    (λ known. ap (λ l. get_or l i []) (with_known ids id known))
    (λ new. ap (λ l. get_or l i []) (with_new ids id new) ∙ get_or-append ids (id ∷ []) [] i inside)
