-- The search through a bucket's chain: which ids are ruled out where it stands, and where it ends. Assumes nothing.
use Prim.Native.Nat.{ℕ, suc, ◌≤◌, ◌<◌}
use mathlib.Core.List.{List}
use mathlib.Core.Path.{◌≡◌, sym, ap, subst, ◌∙◌}
use native.Mathlib.Omega.{arith}
use borrow.Author.Tests.{ltb-true, ltb-false}
use lib.Dec.{ltb}
use lib.ListN.{get_or}
use Rattle.laws.proofs.Tests.{ifb}
use Rattle.gtfs_ids.specs.declared.Key.{Key}
use Rattle.gtfs_ids.specs.Keys.{bucket_of, buckets}
use Rattle.gtfs_ids.specs.Book.{key_in, keys_in, key_number, earlier_in, last_in, Chained}
use Rattle.gtfs_ids.proofs.Chain.{last_within, last_behind, last_in_lem}
use Rattle.gtfs_ids.proofs.KeyNumbers.{key_none, key_at}

-- the cell names an id of the key's bucket or none, and no id from there on has the key
pub record Searched (book : List ℕ) (count : ℕ) (key : Key) (named : ℕ) : Type 0 where
  pub within : named ≤ count
  pub linked : (i : ℕ) → named ≡ suc i → bucket_of (key_in book i) ≡ bucket_of key
  pub others : (i : ℕ) → named ≤ i → i < count → key_in book i ≡ key → ⊥

module _ (book : List ℕ) (count : ℕ) (key : Key) where
  -- the last of the first ids, where the key is none of the others
  from_last : (few named : ℕ) → few ≤ count → ((i : ℕ) → few ≤ i → i < count → key_in book i ≡ key → ⊥)
      → named ≡ last_in book (bucket_of key) few → Searched book count key named
  from_last few named fewer others e = record {
    within = omega (arith, last_within book (bucket_of key) few);
    linked = λ i one. last_in_lem book (bucket_of key) few i (sym e ∙ one);
    others = λ i from before same.
        ifb (λ t. ⊥) (ltb i few)
        (λ less. last_behind book (bucket_of key) few i (omega arith) (ltb-true i few less) (ap bucket_of same))
        (λ not_less. others i (ltb-false i few not_less) before same);
  }

  pub search_start : Chained book count → bucket_of key < buckets → Searched book count key (get_or book (bucket_of key) 0)
  search_start chained bound =
      from_last count (get_or book (bucket_of key) 0) (omega arith) (λ i from before. absurd (let z : ⊥ = omega arith in z))
      (chained.heads (bucket_of key) bound)

  pub search_on : (i named : ℕ) → Chained book count → Searched book count key named → named ≡ suc i → (key_in book i ≡ key → ⊥)
      → Searched book count key (earlier_in book i)
  search_on i named chained searched e other =
      from_last i (earlier_in book i) (omega arith) ruled_out
      (chained.links i (omega arith) ∙ ap (λ bucket. last_in book bucket i) (searched.linked i e))
    where
      ruled_out : (j : ℕ) → i ≤ j → j < count → key_in book j ≡ key → ⊥
      ruled_out j from before same =
          ifb (λ t. ⊥) (ltb i j)
          (λ less. searched.others j (omega (arith, ltb-true i j less)) before same)
          (λ not_less. other (subst (λ k. key_in book k ≡ key) (omega (arith, ltb-false i j not_less)) same))

  pub search_found : (i : ℕ) → Chained book count → i < count → key_in book i ≡ key → key_number (keys_in book count) key ≡ i
  search_found i chained inside here =
      key_at book count i key inside here (λ j before same. chained.apart j i before inside (same ∙ sym here))

  pub search_none : Searched book count key 0 → key_number (keys_in book count) key ≡ count
  search_none searched = key_none book count key (λ i inside. searched.others i (omega arith) inside)
