-- Document 02, "Ids of 1 to 16 bytes are numbered by first appearance", by computing. Assumes nothing.
use mathlib.Core.Bool.{true, false}
use mathlib.Core.List.{[], ◌∷◌}
use mathlib.Core.Path.{◌≡◌, refl}
use Rattle.text.specs.Same.{same_bytes}
use Rattle.gtfs_ids.specs.Ids.{id_rule, number_of, with_id}
use Rattle.gtfs_ids.specs.Keys.{packed, packed_behind, key_of, same_key}

-- 1 to 16 bytes
pub id_lengths :
    (id_rule [] ≡ false) × (id_rule (65 ∷ []) ≡ true) × (id_rule (1 ∷ 2 ∷ 3 ∷ 4 ∷ 5 ∷ 6 ∷ 7 ∷ 8 ∷ 9 ∷ 10 ∷ 11 ∷ 12 ∷ 13 ∷ 14 ∷ 15 ∷ 16 ∷ []) ≡ true)
    × (id_rule (1 ∷ 2 ∷ 3 ∷ 4 ∷ 5 ∷ 6 ∷ 7 ∷ 8 ∷ 9 ∷ 10 ∷ 11 ∷ 12 ∷ 13 ∷ 14 ∷ 15 ∷ 16 ∷ 17 ∷ []) ≡ false)
unfolding id_rule
id_lengths = (refl, refl, refl, refl)

-- B, A, B: two ids, B first; A is the next
pub by_first_appearance :
    (with_id (with_id (with_id [] (66 ∷ [])) (65 ∷ [])) (66 ∷ []) ≡ (66 ∷ []) ∷ (65 ∷ []) ∷ []) × (number_of ((66 ∷ []) ∷ (65 ∷ []) ∷ []) (65 ∷ []) ≡ 1)
unfolding with_id number_of same_bytes
by_first_appearance = (refl, refl)

-- an id and the same with a zero byte ahead have the same worth and are not the same
pub zero_ahead : (packed (65 ∷ []) ≡ packed (0 ∷ 65 ∷ [])) × (same_key (key_of (65 ∷ [])) (key_of (0 ∷ 65 ∷ [])) ≡ false)
unfolding packed packed_behind key_of same_key
zero_ahead = (refl, refl)
