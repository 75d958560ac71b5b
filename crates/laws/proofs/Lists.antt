-- Laws on lists that the library lacks. Assumes nothing.
use Prim.Native.Nat.{ℕ, suc, ◌+◌, ◌≤◌}
use mathlib.Core.List.{List, [], ◌∷◌, ◌++◌, append_assoc}
use mathlib.Core.Path.{◌≡◌, sym, ap, ◌∙◌}
use native.Mathlib.Nat.{add-zero}
use native.Mathlib.Omega.{arith}
use lib.ListN.{length, take, drop, set}
use lib.Seq.{drop-drop, drop-append_seam, sets, sets-eq}
use borrow.Rule.Slice.PartMut.{put_mid}

-- `front` stands at `at`, and `rest` behind it
pub drop_past {ℓ} : {A : Type ℓ} (s : List A) (at : ℕ) (front rest : List A)
    → drop at s ≡ front ++ rest → drop (at + length front) s ≡ rest
drop_past s at front rest e =
    sym (drop-drop (length front) at s) ∙ ap (drop (length front)) e ∙ drop-append_seam front rest

-- a run of stores right behind another is one run
pub sets_behind {ℓ} : {A : Type ℓ} (l : List A) (at : ℕ) (front more : List A)
    → sets (sets l at front) (at + length front) more ≡ sets l at (front ++ more)
sets_behind l at [] more = ap (λ k. sets l k more) (add-zero at)
sets_behind l at (a ∷ front) more =
    let next : at + suc (length front) ≡ suc at + length front = omega arith in
    ap (λ k. sets (sets (set l at a) (suc at) front) k more) next ∙ sets_behind (set l at a) (suc at) front more

-- more stored `long` behind the first store of `front`
pub sets_on {ℓ} : {A : Type ℓ} (l : List A) (at : ℕ) (front more : List A) (long : ℕ) {so_far then : List A} → length front ≡ long
    → so_far ≡ sets l at front → then ≡ sets so_far (at + long) more → then ≡ sets l at (front ++ more)
sets_on l at front more long size stored store =
    store
    ∙ ap (λ o. sets o (at + long) more) stored
    ∙ ap (λ k. sets (sets l at front) (at + k) more) (sym size)
    ∙ sets_behind l at front more

-- what `copy_from_slice` leaves of a part's slice is a run of stores
pub copied_over : (at long : ℕ) (l part more : List ℕ) → part ≡ more → long ≡ length more → at + length more ≤ length l
    → put_mid at long l part ≡ sets l at more
copied_over at long l part more same size inside =
    ap (λ x. take at l ++ (x ++ drop long (drop at l))) same
    ∙ ap (λ n. take at l ++ (more ++ drop n (drop at l))) size
    ∙ ap (λ t. take at l ++ (more ++ t)) (drop-drop (length more) at l)
    ∙ sym (append_assoc (take at l) more (drop (at + length more) l))
    ∙ sym (sets-eq more l at inside)
