-- Document 02, E2: "Ids of 1 to 16 bytes are numbered by first appearance".
use Rattle.std.specs.Prelude.{ℕ, suc, ◌<◌, Bool, cond, ◌&&◌, List, [], ◌∷◌, ◌++◌, ◌≡◌, leb, ltb, length, get_or}
use Rattle.text.specs.Same.{same_bytes}

abbrev pub longest_id : ℕ
longest_id = 16

-- an id's length
unfoldable pub id_rule : List ℕ → Bool
id_rule id = leb 1 (length id) && leb (length id) longest_id

-- an id's number among those that appeared, compared byte by byte; as many as these are, if it is new
unfoldable pub number_of : List (List ℕ) → List ℕ → ℕ
number_of [] id = 0
number_of (first ∷ ids) id = let further = suc (number_of ids id) in cond (same_bytes first id) 0 further

-- one more appearance: a new id comes behind the others
unfoldable pub with_id : List (List ℕ) → List ℕ → List (List ℕ)
with_id ids id = cond (ltb (number_of ids id) (length ids)) ids (ids ++ (id ∷ []))

-- ids that are all different
pub record Different (ids : List (List ℕ)) : Type 0 where
  pub apart : (i j : ℕ) → i < j → j < length ids → get_or ids i [] ≡ get_or ids j [] → ⊥
