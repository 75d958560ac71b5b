-- A chained book stays chained with one new key more. Assumes nothing.
use Prim.Native.Nat.{ℕ, zero, suc, ◌+◌, ◌≤◌, ◌<◌}
use mathlib.Core.List.{List, [], ◌∷◌, ◌++◌}
use mathlib.Core.Path.{◌≡◌, refl, sym, ap, subst, ◌∙◌}
use native.Mathlib.Omega.{arith}
use borrow.Author.Tests.{eqb-true, eqb-false, ltb-true, ltb-false}
use lib.Dec.{eqb, ltb}
use lib.ListN.{length, get_or}
use Rattle.laws.proofs.Tests.{ifb}
use Rattle.gtfs_ids.specs.declared.Key.{Key}
use Rattle.gtfs_ids.specs.Keys.{bucket_of, buckets}
use Rattle.gtfs_ids.specs.Book.{cell_of, key_in, earlier_in, keys_in, last_in, book_with, Chained}
use Rattle.gtfs_ids.proofs.Chain.{last_here, last_further, last_same}
use Rattle.gtfs_ids.proofs.Stores.{length_book, bucket_below, with_ahead, with_head, with_key, with_earlier, kept_key, kept_earlier}

module _ (book : List ℕ) (count : ℕ) (key : Key) (place : ℕ) where
  -- the book with the new key
  abbrev longer : List ℕ
  longer = book_with book count key place

  -- each bucket's last among the earlier ids
  last_kept : (bucket few : ℕ) → few ≤ count → last_in longer bucket few ≡ last_in book bucket few
  last_kept bucket few within = last_same book longer bucket few (λ i before. kept_key book count key place i (omega arith))

  -- the keys that were there
  pub keys_with : (few : ℕ) → few ≤ count → keys_in (book_with book count key place) few ≡ keys_in book few
  unfolding keys_in
  keys_with zero within = refl
  keys_with (suc few) within =
      ap (λ keys. keys ++ (key_in longer few ∷ [])) (keys_with few (omega arith))
      ∙ ap (λ k. keys_in book few ++ (k ∷ [])) (kept_key book count key place few (omega arith))

  module _ (room : cell_of count + 5 ≤ length book) (chained : Chained book count) (new : (i : ℕ) → i < count → key_in book i ≡ key → ⊥) where
    heads_with : (bucket : ℕ) → bucket < buckets → get_or longer bucket 0 ≡ last_in longer bucket (suc count)
    heads_with bucket bound =
        ifb (λ t. get_or longer bucket 0 ≡ last_in longer bucket (suc count)) (eqb bucket (bucket_of key))
        (λ its.
        let same : bucket ≡ bucket_of key = eqb-true bucket (bucket_of key) its in
        ap (λ b. get_or longer b 0) same ∙ with_head book count key place room
        ∙ sym (last_here longer bucket count (ap bucket_of (with_key book count key place room) ∙ sym same)))
        (λ another.
        let other : bucket ≡ bucket_of key → ⊥ = eqb-false bucket (bucket_of key) another in
        with_ahead book count key place bucket (omega arith) other ∙ chained.heads bucket bound ∙ sym (last_kept bucket count (omega arith))
        ∙ sym (last_further longer bucket count (λ e. other (sym e ∙ ap bucket_of (with_key book count key place room)))))

    links_with : (i : ℕ) → i < suc count → earlier_in longer i ≡ last_in longer (bucket_of (key_in longer i)) i
    links_with i inside =
        ifb (λ t. earlier_in longer i ≡ last_in longer (bucket_of (key_in longer i)) i) (ltb i count)
        (λ less.
        let before : i < count = ltb-true i count less in
        kept_earlier book count key place i before ∙ chained.links i before
        ∙ ap (λ k. last_in book (bucket_of k) i) (sym (kept_key book count key place i before))
        ∙ sym (last_kept (bucket_of (key_in longer i)) i (omega arith)))
        (λ not_less.
        let last : count ≡ i = omega (arith, ltb-false i count not_less) in
        subst (λ n. earlier_in longer n ≡ last_in longer (bucket_of (key_in longer n)) n) last newest)
      where
        newest : earlier_in longer count ≡ last_in longer (bucket_of (key_in longer count)) count
        newest =
            with_earlier book count key place room ∙ chained.heads (bucket_of key) (bucket_below key)
            ∙ sym (last_kept (bucket_of key) count (omega arith))
            ∙ ap (λ k. last_in longer (bucket_of k) count) (sym (with_key book count key place room))

    apart_with : (i j : ℕ) → i < j → j < suc count → key_in longer i ≡ key_in longer j → ⊥
    apart_with i j less inside same =
        let one : key_in longer i ≡ key_in book i = kept_key book count key place i (omega arith) in
        ifb (λ t. ⊥) (ltb j count)
        (λ earlier.
        let before : j < count = ltb-true j count earlier in
        chained.apart i j less before (sym one ∙ same ∙ kept_key book count key place j before))
        (λ not_earlier.
        let last : j ≡ count = omega (arith, ltb-false j count not_earlier) in
        new i (omega arith) (sym one ∙ same ∙ ap (key_in longer) last ∙ with_key book count key place room))

    pub chained_with : Chained (book_with book count key place) (suc count)
    chained_with = record {
      room = rw (length_book book count key place) (omega arith);
      heads = heads_with;
      links = links_with;
      apart = apart_with;
    }
