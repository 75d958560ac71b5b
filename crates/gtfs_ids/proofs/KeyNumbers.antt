-- A key's number among the keys of a book: the place where it stands, or how many there are. Assumes nothing.
use Prim.Native.Nat.{ℕ, zero, suc, ◌+◌, ◌<◌}
use mathlib.Core.List.{List, [], ◌∷◌, ◌++◌, append_assoc, append-nil}
use mathlib.Core.Path.{◌≡◌, refl, sym, ap, ◌∙◌}
use native.Mathlib.Omega.{arith}
use borrow.Author.Tests.{ltb-true, ltb-false}
use lib.Dec.{ltb}
use lib.ListN.{length, length-append}
use Rattle.laws.proofs.Tests.{ifb, cond_true, cond_false}
use Rattle.gtfs_ids.specs.declared.Key.{Key}
use Rattle.gtfs_ids.specs.Book.{key_in, keys_in, key_number}
use Rattle.gtfs_ids.proofs.Keys.{equal_same_key, different_other_key}

pub key_first : (first : Key) (keys : List Key) (key : Key) → first ≡ key → key_number (first ∷ keys) key ≡ 0
unfolding key_number
key_first first keys key e = cond_true 0 (suc (key_number keys key)) (equal_same_key first key e)

pub key_further : (first : Key) (keys : List Key) (key : Key) → (first ≡ key → ⊥) → key_number (first ∷ keys) key ≡ suc (key_number keys key)
unfolding key_number
key_further first keys key other = cond_false 0 (suc (key_number keys key)) (different_other_key first key other)

-- keys that are others are passed
passed : (book : List ℕ) (count : ℕ) (rest : List Key) (key : Key) → ((i : ℕ) → i < count → key_in book i ≡ key → ⊥)
    → key_number (keys_in book count ++ rest) key ≡ count + key_number rest key
unfolding keys_in
passed book zero rest key others = omega arith
passed book (suc count) rest key others =
    ap (λ keys. key_number keys key) (append_assoc (keys_in book count) (key_in book count ∷ []) rest)
    ∙ passed book count (key_in book count ∷ rest) key (λ i h. others i (omega arith))
    ∙ omega (arith, key_further (key_in book count) rest key (others count (omega arith)))

pub key_none : (book : List ℕ) (count : ℕ) (key : Key) → ((i : ℕ) → i < count → key_in book i ≡ key → ⊥)
    → key_number (keys_in book count) key ≡ count
unfolding key_number
key_none book count key others =
    ap (λ keys. key_number keys key) (sym (append-nil (keys_in book count))) ∙ passed book count [] key others ∙ omega arith

-- the keys from id i on
further_keys : (book : List ℕ) (count i : ℕ) → i < count → (rest : List Key) × (keys_in book count ≡ keys_in book i ++ (key_in book i ∷ rest))
unfolding keys_in
further_keys book zero i inside = absurd (let z : ⊥ = omega arith in z)
further_keys book (suc count) i inside =
    ifb (λ t. (rest : List Key) × (keys_in book (suc count) ≡ keys_in book i ++ (key_in book i ∷ rest))) (ltb i count)
    (λ less.
    let fewer = further_keys book count i (ltb-true i count less) in (
      fewer.0 ++ (key_in book count ∷ []),
      ap (λ keys. keys ++ (key_in book count ∷ [])) fewer.1 ∙ append_assoc (keys_in book i) (key_in book i ∷ fewer.0) (key_in book count ∷ []),
    ))
    (λ last.
    let e : count ≡ i = omega (arith, ltb-false i count last) in
    ([], ap (λ k. keys_in book k ++ (key_in book k ∷ [])) e))

pub key_at : (book : List ℕ) (count i : ℕ) (key : Key) → i < count → key_in book i ≡ key → ((j : ℕ) → j < i → key_in book j ≡ key → ⊥)
    → key_number (keys_in book count) key ≡ i
key_at book count i key inside here others =
    let further = further_keys book count i inside in
    ap (λ keys. key_number keys key) further.1 ∙ passed book i (key_in book i ∷ further.0) key others
    ∙ omega (arith, key_first (key_in book i) further.0 key here)

pub length_keys : (book : List ℕ) (count : ℕ) → length (keys_in book count) ≡ count
unfolding keys_in
length_keys book zero = refl
length_keys book (suc count) = length-append (keys_in book count) (key_in book count ∷ []) ∙ omega (arith, length_keys book count)
