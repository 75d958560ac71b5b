-- A book of ids after one more appearance: an id that is new is entered, a known one changes nothing. Assumes nothing.
use Prim.Native.Nat.{ℕ, suc, ◌+◌, ◌≤◌, ◌<◌}
use mathlib.Core.Bool.{true, false, not, cond}
use mathlib.Core.List.{List}
use mathlib.Core.Logic.{◌⊎◌, inl, inr}
use mathlib.Core.Path.{◌≡◌, refl, sym, ap, subst, subst⁻¹, ◌∙◌}
use native.Mathlib.Nat.{eq-or-lt_of_le}
use native.Mathlib.Omega.{arith}
use borrow.Author.Tests.{eq-eqb, ne_eqb, eqb-true, eqb-false, leb-true, le-leb, lt-leb, not-true, not-false}
use lib.Dec.{eqb, leb}
use lib.ListN.{length}
use Rattle.laws.proofs.Tests.{ifb, cond_true, cond_false, both_right}
use Rattle.numbers.specs.Bytes.{Bytes}
use Rattle.gtfs_ids.specs.declared.Key.{Key}
use Rattle.gtfs_ids.specs.Ids.{number_of, with_id, id_rule, longest_id}
use Rattle.gtfs_ids.specs.Keys.{key_of}
use Rattle.gtfs_ids.specs.Book.{LiesAt, HoldsIds, book_with, cell_of, key_number, keys_in}
use Rattle.gtfs_ids.proofs.Numbering.{known_or_new, length_known, length_new}
use Rattle.gtfs_ids.proofs.Held.{held_number, holds_new, holds_known}
use Rattle.gtfs_ids.proofs.Stores.{length_book}
use Rattle.gtfs_stop_times.specs.Held.{entered, count_with}

-- a new id is entered under its key
pub holds_entry : {text : List ℕ} (book : List ℕ) (ids : List (List ℕ)) (id : List ℕ) (key : Key) (place : ℕ) → HoldsIds text book ids → key ≡ key_of id → Bytes id
    → length id ≤ longest_id → LiesAt text place id → number_of ids id ≡ length ids → cell_of (length ids + 1) ≤ length book
    → HoldsIds text (book_with book (length ids) key place) (with_id ids id)
holds_entry {text} book ids id key place holds own bytes short there new room =
    subst⁻¹ (λ k. HoldsIds text (book_with book (length ids) k place) (with_id ids id)) own
    (holds_new book ids id place holds new (let z : cell_of (length ids) + 5 ≤ length book = omega arith in z) bytes short there)

-- the number that is found in a book is the id's
pub number_held : {text : List ℕ} (book : List ℕ) (ids : List (List ℕ)) (id : List ℕ) (key : Key) (count : ℕ) → HoldsIds text book ids → key ≡ key_of id → Bytes id
    → count ≡ length ids → key_number (keys_in book count) key ≡ number_of ids id
number_held book ids id key count holds own bytes counted =
    cc (held_number book ids id holds bytes)

-- not the most is fewer
pub below_most : {most : ℕ} (count : ℕ) → count ≤ most → (count ≡ most → ⊥) → count < most
below_most {most} count few apart = go (eq-or-lt_of_le few)
  where
    go : (count ≡ most) ⊎ (count < most) → count < most
    go (inl e) = absurd (apart e)
    go (inr less) = less

-- a known id is never one too many, and a new one is if there are the most already
pub known_fits : (number count most : ℕ) → number < count → count ≤ most → false ≡ not (leb (count_with count number) most)
known_fits number count most known few =
    ap not (sym (ap (λ k. leb k most) (cond_false (suc count) count (ne_eqb number count (λ e. omega arith))) ∙ le-leb count most few))

pub new_fits : (number count most : ℕ) → count ≤ number → number ≤ count → count ≤ most → eqb count most ≡ not (leb (count_with count number) most)
new_fits number count most new last few =
    ifb (λ b. b ≡ not (leb (count_with count number) most)) (eqb count most)
    (λ full. ap not (sym (ap (λ k. leb k most) more ∙ lt-leb (suc count) most (omega (arith, eqb-true count most full)))))
    (λ room. ap not (sym (ap (λ k. leb k most) more ∙ le-leb (suc count) most (below_most count few (eqb-false count most room)))))
  where
    more : count_with count number ≡ suc count
    more = cond_true (suc count) count (eq-eqb number count (omega arith))

-- what a test for one too many says
pub too_many : (count number most : ℕ) → not (leb (count_with count number) most) ≡ true → leb (count_with count number) most ≡ false
too_many count number most test = not-true (leb (count_with count number) most) test

pub few_enough : (count number most : ℕ) → not (leb (count_with count number) most) ≡ false → leb (count_with count number) most ≡ true
few_enough count number most test = not-false (leb (count_with count number) most) test

-- an id that keeps its rule is short
pub short_id : (id : List ℕ) → id_rule id ≡ true → length id ≤ longest_id
unfolding id_rule
short_id id rule = leb-true (length id) longest_id (both_right (leb 1 (length id)) (leb (length id) longest_id) rule)

module _ (book : List ℕ) (ids : List (List ℕ)) (id : List ℕ) (key : Key) (place count number : ℕ)
    (counted : count ≡ length ids) (numbered : number ≡ number_of ids id)
  where
    -- how many ids there are then
    pub count_entered : count_with count number ≡ length (with_id ids id)
    count_entered =
        known_or_new (count_with count number ≡ length (with_id ids id)) ids id
        (λ known. cond_false (suc count) count (ne_eqb number count (λ e. omega arith)) ∙ counted ∙ sym (length_known ids id known))
        (λ new. cond_true (suc count) count (eq-eqb number count (omega arith)) ∙ ap suc counted ∙ sym (length_new ids id new))

    pub entered_length : length (entered book count number key place) ≡ length book
    unfolding entered
    entered_length =
        ifb (λ b. length (cond b (book_with book count key place) book) ≡ length book) (eqb number count)
        (λ _. length_book book count key place) (λ _. refl)

    module _ {text : List ℕ} (holds : HoldsIds text book ids) (key_own : key ≡ key_of id) (bytes : Bytes id) (short : length id ≤ longest_id)
        (there : LiesAt text place id)
      where
        pub holds_entered : cell_of (count_with count number) ≤ length book → HoldsIds text (entered book count number key place) (with_id ids id)
        unfolding entered
        holds_entered room =
            known_or_new (HoldsIds text (entered book count number key place) (with_id ids id)) ids id
            (λ known. subst (λ b. HoldsIds text b (with_id ids id))
            (sym (cond_false (book_with book count key place) book (ne_eqb number count (λ e. omega arith))))
            (holds_known book ids id holds known))
            (λ new. subst (λ b. HoldsIds text b (with_id ids id))
            (sym (cond_true (book_with book count key place) book (eq-eqb number count (omega arith))
            ∙ ap (λ k. book_with book k key place) counted))
            (holds_entry book ids id key place holds key_own bytes short there new
            (let z : cell_of (length ids + 1) ≤ length book = omega (arith, count_entered, length_new ids id new) in z)))
