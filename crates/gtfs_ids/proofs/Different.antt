-- Ids numbered by first appearance are all different. Assumes nothing.
use Prim.Native.Nat.{ℕ, ◌+◌, ◌<◌}
use mathlib.Core.List.{List, [], ◌∷◌, ◌++◌}
use mathlib.Core.Path.{◌≡◌, sym, subst, ◌∙◌}
use native.Mathlib.Omega.{arith}
use borrow.Author.Tests.{ltb-true, ltb-false}
use lib.Dec.{ltb}
use lib.ListN.{length, get_or, length-append, get_or-append}
use lib.Seq.{get_or_at}
use Rattle.laws.proofs.Tests.{ifb}
use Rattle.gtfs_ids.specs.Ids.{number_of, with_id, Different}
use Rattle.gtfs_ids.proofs.Numbering.{number_points, number_first_place, number_known, known_or_new, with_known, with_new}

-- no id stands at two places
pub none_different : Different []
none_different = record { apart = λ i j before inside same. omega arith }

new_different : (ids : List (List ℕ)) (id : List ℕ) → number_of ids id ≡ length ids → Different ids → Different (ids ++ (id ∷ []))
new_different ids id new different = record { apart = at }
  where
    at : (i j : ℕ) → i < j → j < length (ids ++ (id ∷ [])) → get_or (ids ++ (id ∷ [])) i [] ≡ get_or (ids ++ (id ∷ [])) j [] → ⊥
    at i j before inside same =
        let many : length (ids ++ (id ∷ [])) ≡ length ids + 1 = length-append ids (id ∷ []) in
        let one : get_or (ids ++ (id ∷ [])) i [] ≡ get_or ids i [] = get_or-append ids (id ∷ []) [] i (omega arith) in
        ifb (λ t. ⊥) (ltb j (length ids))
        (λ earlier. different.apart i j before (ltb-true _ _ earlier)
        (sym one ∙ same ∙ get_or-append ids (id ∷ []) [] j (ltb-true _ _ earlier)))
        (λ last. number_first_place ids id i (omega arith)
        (sym one ∙ same ∙ get_or_at ids id [] [] j (omega (arith, ltb-false j (length ids) last))))

pub with_different : (ids : List (List ℕ)) (id : List ℕ) → Different ids → Different (with_id ids id)
with_different ids id different =
    known_or_new (Different (with_id ids id)) ids id
    (λ known. subst Different (sym (with_known ids id known)) different)
    (λ new. subst Different (sym (with_new ids id new)) (new_different ids id new different))

-- each of them is numbered by its place
pub number_at : (ids : List (List ℕ)) (i : ℕ) → Different ids → i < length ids → number_of ids (get_or ids i []) ≡ i
number_at ids i different inside =
    ifb (λ t. number_of ids (get_or ids i []) ≡ i) (ltb (number_of ids (get_or ids i [])) i)
    (λ earlier.
    let before : number_of ids (get_or ids i []) < i = ltb-true (number_of ids (get_or ids i [])) i earlier in
    absurd (different.apart (number_of ids (get_or ids i [])) i before inside (number_points ids (get_or ids i []) (omega arith))))
    (λ not_earlier. omega (arith, number_known ids i inside, ltb-false (number_of ids (get_or ids i [])) i not_earlier))
