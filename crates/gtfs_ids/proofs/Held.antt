-- What a book of ids holds: nothing at first, one id more each time, and it finds each by its key. Assumes nothing.
use Prim.Native.Nat.{ℕ, zero, suc, ◌+◌, ◌≤◌, ◌<◌}
use mathlib.Core.List.{List, [], ◌∷◌, ◌++◌, map, map-append}
use mathlib.Core.Path.{◌≡◌, refl, sym, ap, subst, subst⁻¹, ◌∙◌}
use native.Mathlib.Omega.{arith}
use borrow.Author.Tests.{ltb-true, ltb-false}
use lib.Dec.{ltb}
use lib.ListN.{length, get_or, replicate, length-replicate, get_or-replicate, length-append, get_or-append, get_or-map}
use lib.Seq.{get_or_at}
use Rattle.laws.proofs.Tests.{ifb}
use Rattle.numbers.specs.Bytes.{Bytes}
use Rattle.gtfs_ids.specs.declared.Key.{Key}
use Rattle.gtfs_ids.specs.Ids.{longest_id, number_of, with_id}
use Rattle.gtfs_ids.specs.Keys.{key_of, buckets}
use Rattle.gtfs_ids.specs.Book.{cell_of, key_in, place_in, keys_in, key_number, last_in, book_with, Chained, LiesAt, HoldsIds}
use Rattle.gtfs_ids.proofs.Keys.{key_once}
use Rattle.gtfs_ids.proofs.KeyNumbers.{key_first, key_further, length_keys}
use Rattle.gtfs_ids.proofs.Search.{search_found}
use Rattle.gtfs_ids.proofs.Numbering.{either_way, number_here, number_further, with_known, with_new}
use Rattle.gtfs_ids.proofs.Stores.{with_key, with_place, kept_place}
use Rattle.gtfs_ids.proofs.Extended.{keys_with, chained_with}

-- cells that are all 0 are a book of no ids
pub holds_none : (text : List ℕ) (n : ℕ) → buckets ≤ n → HoldsIds text (replicate n 0) []
unfolding keys_in last_in
holds_none text n wide = record {
  chained = record {
    room = rw (length-replicate {A = ℕ} n 0) (omega arith);
    heads = λ bucket bound. get_or-replicate n bucket 0 0 (omega arith);
    links = λ i before. absurd (let z : ⊥ = omega arith in z);
    apart = λ i j less before same. omega arith;
  };
  keys = refl;
  short = λ i before. absurd (let z : ⊥ = omega arith in z);
  bytes = λ i before. absurd (let z : ⊥ = omega arith in z);
  lies = λ i before. absurd (let z : ⊥ = omega arith in z);
}

-- a book's key by its place
keys_at : (book : List ℕ) (count i : ℕ) → i < count → get_or (keys_in book count) i (key_of []) ≡ key_in book i
unfolding keys_in
keys_at book zero i inside = absurd (let z : ⊥ = omega arith in z)
keys_at book (suc count) i inside =
    ifb (λ t. get_or (keys_in book count ++ (key_in book count ∷ [])) i (key_of []) ≡ key_in book i) (ltb i count)
    (λ earlier. let less : i < count = ltb-true i count earlier in
    get_or-append (keys_in book count) (key_in book count ∷ []) (key_of []) i (let z : i < length (keys_in book count) = omega (arith, length_keys book count) in z)
    ∙ keys_at book count i less)
    (λ last. let own : i ≡ count = omega (arith, ltb-false i count last) in
    get_or_at (keys_in book count) (key_in book count) [] (key_of []) i (length_keys book count ∙ sym own) ∙ ap (key_in book) (sym own))

-- an id's number among ids is its key's among their keys
key_number_lem : (ids : List (List ℕ)) (id : List ℕ) → ((i : ℕ) → i < length ids → Bytes (get_or ids i [])) → Bytes id
    → key_number (map key_of ids) (key_of id) ≡ number_of ids id
unfolding key_number number_of
key_number_lem [] id bytes its = refl
key_number_lem (first ∷ ids) id bytes its =
    either_way (key_number (map key_of (first ∷ ids)) (key_of id) ≡ number_of (first ∷ ids) id) first id
    (λ here. key_first (key_of first) (map key_of ids) (key_of id) (ap key_of here) ∙ sym (number_here first ids id here))
    (λ other. key_further (key_of first) (map key_of ids) (key_of id) (λ e. other (key_once first id (bytes 0 (omega arith)) its e))
    ∙ ap suc (key_number_lem ids id (λ i before. bytes (suc i) (omega arith)) its)
    ∙ sym (number_further first ids id other))

pub held_number : {text : List ℕ} (book : List ℕ) (ids : List (List ℕ)) (id : List ℕ) → HoldsIds text book ids → Bytes id
    → key_number (keys_in book (length ids)) (key_of id) ≡ number_of ids id
held_number book ids id held its = ap (λ keys. key_number keys (key_of id)) held.keys ∙ key_number_lem ids id held.bytes its

-- a new id's key is none of the book's
new_key : {text : List ℕ} (book : List ℕ) (ids : List (List ℕ)) (id : List ℕ) → HoldsIds text book ids → Bytes id → number_of ids id ≡ length ids
    → (i : ℕ) → i < length ids → key_in book i ≡ key_of id → ⊥
new_key book ids id held its new i inside same =
    omega (arith, search_found book (length ids) (key_of id) i held.chained inside same, held_number book ids id held its)

module _ {text : List ℕ} (book : List ℕ) (ids : List (List ℕ)) (id : List ℕ) (place : ℕ) (held : HoldsIds text book ids) where
  keys_held : cell_of (length ids) + 5 ≤ length book
      → keys_in (book_with book (length ids) (key_of id) place) (suc (length ids)) ≡ map key_of (ids ++ (id ∷ []))
  unfolding keys_in
  keys_held room =
      ap (λ keys. keys ++ (key_in (book_with book (length ids) (key_of id) place) (length ids) ∷ []))
      (keys_with book (length ids) (key_of id) place (length ids) (omega arith))
      ∙ ap (λ key. keys_in book (length ids) ++ (key ∷ [])) (with_key book (length ids) (key_of id) place room)
      ∙ ap (λ keys. keys ++ (key_of id ∷ [])) held.keys
      ∙ sym (map-append key_of ids (id ∷ []))

  -- what each id met and the new one meets, each id meets now
  each_one : (P : List ℕ → Type 0) → ((i : ℕ) → i < length ids → P (get_or ids i [])) → P id
      → (i : ℕ) → i < length (ids ++ (id ∷ [])) → P (get_or (ids ++ (id ∷ [])) i [])
  each_one P each its i inside =
      ifb (λ t. P (get_or (ids ++ (id ∷ [])) i [])) (ltb i (length ids))
      (λ earlier. subst P (sym (get_or-append ids (id ∷ []) [] i (ltb-true i (length ids) earlier))) (each i (ltb-true i (length ids) earlier)))
      (λ last. subst P (sym (get_or_at ids id [] [] i (omega (arith, length-append ids (id ∷ []), ltb-false i (length ids) last)))) its)

  -- where each lies
  lies_behind : cell_of (length ids) + 5 ≤ length book → LiesAt text place id → (i : ℕ) → i < length (ids ++ (id ∷ []))
      → LiesAt text (place_in (book_with book (length ids) (key_of id) place) i) (get_or (ids ++ (id ∷ [])) i [])
  lies_behind room there i inside =
      let after = place_in (book_with book (length ids) (key_of id) place) in
      ifb (λ t. LiesAt text (after i) (get_or (ids ++ (id ∷ [])) i [])) (ltb i (length ids))
      (λ before. let earlier : i < length ids = ltb-true i (length ids) before in
      subst⁻¹ (λ k. LiesAt text k (get_or (ids ++ (id ∷ [])) i [])) (kept_place book (length ids) (key_of id) place i earlier)
      (subst⁻¹ (LiesAt text (place_in book i)) (get_or-append ids (id ∷ []) [] i earlier) (held.lies i earlier)))
      (λ last. let own : i ≡ length ids = omega (arith, length-append ids (id ∷ []), ltb-false i (length ids) last) in
      subst⁻¹ (λ k. LiesAt text k (get_or (ids ++ (id ∷ [])) i [])) (ap after own ∙ with_place book (length ids) (key_of id) place room)
      (subst⁻¹ (LiesAt text place) (get_or_at ids id [] [] i (sym own)) there))

  behind : number_of ids id ≡ length ids → cell_of (length ids) + 5 ≤ length book → Bytes id → length id ≤ longest_id
      → LiesAt text place id
      → HoldsIds text (book_with book (length ids) (key_of id) place) (ids ++ (id ∷ []))
  behind new room its short there =
      let one : suc (length ids) ≡ length (ids ++ (id ∷ [])) = omega (arith, length-append ids (id ∷ [])) in
      record {
        chained = subst (Chained (book_with book (length ids) (key_of id) place)) one
            (chained_with book (length ids) (key_of id) place room held.chained (new_key book ids id held its new));
        keys = ap (keys_in (book_with book (length ids) (key_of id) place)) (sym one) ∙ keys_held room;
        short = each_one (λ l. length l ≤ longest_id) held.short short;
        bytes = each_one Bytes held.bytes its;
        lies = lies_behind room there;
      }

  -- a new id comes behind the others
  pub holds_new : number_of ids id ≡ length ids → cell_of (length ids) + 5 ≤ length book → Bytes id → length id ≤ longest_id
      → LiesAt text place id
      → HoldsIds text (book_with book (length ids) (key_of id) place) (with_id ids id)
  holds_new new room its short there =
      subst (HoldsIds text (book_with book (length ids) (key_of id) place)) (sym (with_new ids id new)) (behind new room its short there)

-- an id that appeared before changes nothing
pub holds_known : {text : List ℕ} (book : List ℕ) (ids : List (List ℕ)) (id : List ℕ) → HoldsIds text book ids → number_of ids id < length ids
    → HoldsIds text book (with_id ids id)
holds_known {text} book ids id held known = subst (HoldsIds text book) (sym (with_known ids id known)) held

-- the length that a key says is its id's
pub held_size : {text : List ℕ} (book : List ℕ) (ids : List (List ℕ)) (i : ℕ) → HoldsIds text book ids → i < length ids
    → (key_in book i).size ≡ length (get_or ids i [])
unfolding key_of
held_size book ids i held inside =
    ap (λ (k : Key). k.size)
    (sym (keys_at book (length ids) i inside) ∙ ap (λ keys. get_or keys i (key_of [])) held.keys ∙ get_or-map key_of ids i [])
