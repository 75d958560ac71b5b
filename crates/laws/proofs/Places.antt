-- Laws on the elements of a list by their places. Assumes nothing.
use Prim.Native.Nat.{ℕ, zero, suc, ◌<◌}
use mathlib.Core.List.{List, [], ◌∷◌, Memᴰ}
use mathlib.Core.Path.{◌≡◌, refl, sym}
use native.Mathlib.Omega.{arith}
use lib.ListN.{length, get_or}

-- an element by its place is a member
pub member_at {ℓ} : {A : Type ℓ} (l : List A) (i : ℕ) (d : A) → i < length l → Memᴰ (get_or l i d) l
member_at [] i d h = absurd (let z : ⊥ = omega arith in z)
member_at (x ∷ l) zero d h = Memᴰ.head refl
member_at (x ∷ l) (suc i) d h = Memᴰ.tail (member_at l i d (omega arith))

-- a member has a place
pub place_of {ℓ} : {A : Type ℓ} (l : List A) (d : A) {a : A} → Memᴰ a l → (i : ℕ) × (i < length l) × (get_or l i d ≡ a)
place_of {A = A} [] d {a = a} m = elim m [ ]
place_of (x ∷ l) d (Memᴰ.head e) = (0, (let z : 0 < length (x ∷ l) = omega arith in z), sym e)
place_of (x ∷ l) d (Memᴰ.tail m) =
    let further = place_of l d m in (suc further.0, (let z : suc further.0 < length (x ∷ l) = omega (arith, further.1) in z), further.2)
