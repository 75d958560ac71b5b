-- The book of ids: a cell for each bucket, then five for each id: its key's three numbers, where it lies in the text, and the id before
-- it in its bucket. A cell that names an id has its number and one, 0 is none.
use Rattle.std.specs.Prelude.{ℕ, zero, suc, ◌+◌, ◌*◌, ◌≤◌, ◌<◌, cond, List, [], ◌∷◌, ◌++◌, map, ◌≡◌, eqb, length, get_or, set}
use Rattle.std.proofs.lemmas.List.Edits.{sets}
use Rattle.std.proofs.Math.Seq.{slice}
use Rattle.numbers.specs.Bytes.{Bytes}
use Rattle.gtfs_ids.specs.declared.Key.{Key}
use Rattle.gtfs_ids.specs.Ids.{longest_id}
use Rattle.gtfs_ids.specs.Keys.{key_of, same_key, buckets, bucket_of}

abbrev pub cells_an_id : ℕ
cells_an_id = 5

-- where the cells of id i start
abbrev pub cell_of : ℕ → ℕ
cell_of i = buckets + cells_an_id * i

-- the cells that a book of so many ids takes
abbrev pub book_cells : ℕ → ℕ
book_cells most = cell_of most

unfoldable pub key_in : List ℕ → ℕ → Key
key_in book i = record { front = get_or book (cell_of i) 0; back = get_or book (cell_of i + 1) 0; size = get_or book (cell_of i + 2) 0 }

unfoldable pub place_in : List ℕ → ℕ → ℕ
place_in book i = get_or book (cell_of i + 3) 0

unfoldable pub earlier_in : List ℕ → ℕ → ℕ
earlier_in book i = get_or book (cell_of i + 4) 0

-- the keys of the first `count` ids
unfoldable pub keys_in : List ℕ → (count : ℕ) → List Key
keys_in book zero = []
keys_in book (suc count) = keys_in book count ++ (key_in book count ∷ [])

-- a key's number; `count`, the number of keys, where it is none of them
unfoldable pub key_number : List Key → Key → ℕ
key_number [] key = 0
key_number (first ∷ keys) key = let further = suc (key_number keys key) in cond (same_key first key) 0 further

-- the last of the first `count` ids in a bucket, as a cell names it
unfoldable pub last_in : List ℕ → (bucket count : ℕ) → ℕ
last_in book bucket zero = 0
last_in book bucket (suc count) =
    let further = last_in book bucket count in cond (eqb (bucket_of (key_in book count)) bucket) (suc count) further

-- a book of `count` ids, each bucket's from the last to the first, and no key twice
pub record Chained (book : List ℕ) (count : ℕ) : Type 0 where
  pub room : cell_of count ≤ length book
  pub heads : (bucket : ℕ) → bucket < buckets → get_or book bucket 0 ≡ last_in book bucket count
  pub links : (i : ℕ) → i < count → earlier_in book i ≡ last_in book (bucket_of (key_in book i)) i
  pub apart : (i j : ℕ) → i < j → j < count → key_in book i ≡ key_in book j → ⊥

-- the book with one id more, which lies at `place` of the text
unfoldable pub book_with : List ℕ → (count : ℕ) → Key → (place : ℕ) → List ℕ
book_with book count key place =
    set (sets book (cell_of count) (key.front ∷ key.back ∷ key.size ∷ place ∷ get_or book (bucket_of key) 0 ∷ [])) (bucket_of key) (suc count)

-- an id's bytes stand at that place of the text
pub record LiesAt (text : List ℕ) (place : ℕ) (id : List ℕ) : Type 0 where
  pub inside : place + length id ≤ length text
  pub says : slice place (place + length id) text ≡ id

-- what the book holds: these ids of the text, in their order, and where each lies there
pub record HoldsIds (text book : List ℕ) (ids : List (List ℕ)) : Type 0 where
  pub chained : Chained book (length ids)
  pub keys : keys_in book (length ids) ≡ map key_of ids
  pub short : (i : ℕ) → i < length ids → length (get_or ids i []) ≤ longest_id
  pub bytes : (i : ℕ) → i < length ids → Bytes (get_or ids i [])
  pub lies : (i : ℕ) → i < length ids → LiesAt text (place_in book i) (get_or ids i [])
