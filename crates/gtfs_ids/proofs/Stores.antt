-- The book with one id more: the stores that make it, what it says of the new id, and that it says of earlier ones what it said. Assumes nothing.
use Prim.Native.Nat.{ℕ, suc, ◌+◌, ◌-◌, ◌≤◌, ◌<◌}
use mathlib.Core.List.{List, [], ◌∷◌, ◌++◌, append_assoc}
use mathlib.Core.Path.{◌≡◌, sym, ap, ◌∙◌}
use native.Mathlib.Omega.{arith}
use borrow.Rule.Slice.PartMut.{put_mid}
use lib.ListN.{length, get_or, set, take, drop, length-set}
use lib.Seq.{sets, sets-eq, drop-drop, get_or-set_same, get_or-set_other}
use Rattle.gtfs_ids.specs.declared.Key.{Key}
use Rattle.gtfs_ids.specs.Keys.{bucket_of, buckets}
use Rattle.gtfs_ids.specs.Book.{cell_of, key_in, place_in, earlier_in, book_with}
use Rattle.gtfs_ids.proofs.Runs.{sets_ahead, sets_within}

-- cells that are copied to a part of the book are stored there
stored : (book cells part : List ℕ) (at count : ℕ) → part ≡ cells → count ≡ length cells → at + length cells ≤ length book
    → put_mid at count book part ≡ sets book at cells
stored book cells part at count same all room =
    ap (λ l. take at book ++ (l ++ drop count (drop at book))) same
    ∙ ap (λ n. take at book ++ (cells ++ drop n (drop at book))) all
    ∙ ap (λ l. take at book ++ (cells ++ l)) (drop-drop (length cells) at book)
    ∙ sym (append_assoc (take at book) cells (drop (at + length cells) book))
    ∙ sym (sets-eq cells book at room)

pub id_stored : (book part : List ℕ) (count : ℕ) (key : Key) (place bucket : ℕ) → bucket ≡ bucket_of key
    → part ≡ key.front ∷ key.back ∷ key.size ∷ place ∷ get_or book bucket 0 ∷ [] → cell_of count + 5 ≤ length book
    → set (put_mid (cell_of count) (cell_of count + 5 - cell_of count) book part) bucket (count + 1) ≡ book_with book count key place
unfolding book_with
id_stored book part count key place bucket of same room =
    let cells = key.front ∷ key.back ∷ key.size ∷ place ∷ get_or book bucket 0 ∷ [] in
    let all : cell_of count + 5 - cell_of count ≡ 5 = omega arith in
    let more : count + 1 ≡ suc count = omega arith in
    ap (λ l. set l bucket (count + 1)) (stored book cells part (cell_of count) (cell_of count + 5 - cell_of count) same all room)
    ∙ rw (more, of)

pub bucket_below : (key : Key) → bucket_of key < buckets
unfolding bucket_of
bucket_below key = omega arith

-- the numbers of the new id
abbrev pub cells_of : List ℕ → Key → ℕ → List ℕ
cells_of book key place = key.front ∷ key.back ∷ key.size ∷ place ∷ get_or book (bucket_of key) 0 ∷ []

module _ (book : List ℕ) (count : ℕ) (key : Key) (place : ℕ) where
  pub length_book : length (book_with book count key place) ≡ length book
  unfolding book_with
  length_book = simp length-set

  -- other buckets and the cells of earlier ids stay
  pub with_ahead : (j : ℕ) → j < cell_of count → (j ≡ bucket_of key → ⊥) → get_or (book_with book count key place) j 0 ≡ get_or book j 0
  unfolding book_with
  with_ahead j ahead other =
      get_or-set_other (sets book (cell_of count) (cells_of book key place)) (bucket_of key) j (suc count) 0 other
      ∙ sets_ahead book (cell_of count) (cells_of book key place) j ahead

  module _ (room : cell_of count + 5 ≤ length book) where
    -- its bucket names it
    pub with_head : get_or (book_with book count key place) (bucket_of key) 0 ≡ suc count
    unfolding book_with
    with_head =
        get_or-set_same (sets book (cell_of count) (cells_of book key place)) (bucket_of key) (suc count) 0
        (simp length-set (omega (arith, bucket_below key)))

    -- its own cells
    pub with_own : (k : ℕ) → k < 5 → get_or (book_with book count key place) (cell_of count + k) 0 ≡ get_or (cells_of book key place) k 0
    unfolding book_with
    with_own k few =
        get_or-set_other (sets book (cell_of count) (cells_of book key place)) (bucket_of key) (cell_of count + k) (suc count) 0
        (λ e. omega (arith, bucket_below key))
        ∙ sets_within book (cell_of count) (cells_of book key place) k few room

    with_first : get_or (book_with book count key place) (cell_of count) 0 ≡ key.front
    with_first =
        let here : cell_of count ≡ cell_of count + 0 = omega arith in
        ap (λ j. get_or (book_with book count key place) j 0) here ∙ with_own 0 (omega arith)

    -- what the book says of the new id
    pub with_key : key_in (book_with book count key place) count ≡ key
    unfolding key_in
    with_key =
        let front = with_first in
        let back = with_own 1 (omega arith) in
        let size = with_own 2 (omega arith) in
        λ i. record { front = front i; back = back i; size = size i }

    pub with_place : place_in (book_with book count key place) count ≡ place
    unfolding place_in
    with_place = with_own 3 (omega arith)

    pub with_earlier : earlier_in (book_with book count key place) count ≡ get_or book (bucket_of key) 0
    unfolding earlier_in
    with_earlier = with_own 4 (omega arith)

  -- and of an earlier one it says what it said
  module _ (i : ℕ) (before : i < count) where
    kept : (k : ℕ) → k < 5 → get_or (book_with book count key place) (cell_of i + k) 0 ≡ get_or book (cell_of i + k) 0
    kept k few = with_ahead (cell_of i + k) (omega arith) (λ e. omega (arith, bucket_below key))

    kept_first : get_or (book_with book count key place) (cell_of i) 0 ≡ get_or book (cell_of i) 0
    kept_first = with_ahead (cell_of i) (omega arith) (λ e. omega (arith, bucket_below key))

    pub kept_key : key_in (book_with book count key place) i ≡ key_in book i
    unfolding key_in
    kept_key =
        let front = kept_first in
        let back = kept 1 (omega arith) in
        let size = kept 2 (omega arith) in
        λ t. record { front = front t; back = back t; size = size t }

    pub kept_place : place_in (book_with book count key place) i ≡ place_in book i
    unfolding place_in
    kept_place = kept 3 (omega arith)

    pub kept_earlier : earlier_in (book_with book count key place) i ≡ earlier_in book i
    unfolding earlier_in
    kept_earlier = kept 4 (omega arith)
