-- Laws on members of a list: a member is the head or stands later, and what a mapped list holds. Assumes nothing.
use mathlib.Core.List.Memᴰ
use mathlib.Core.List.{List, [], ◌∷◌, map, Memᴰ}
use mathlib.Core.Path.{◌≡◌, refl, ap}

pub head_or_later {ℓ κ} : {A : Type ℓ} (P : Type κ) {a b : A} {l : List A} → Memᴰ a (b ∷ l) → (a ≡ b → P) → (Memᴰ a l → P) → P
head_or_later P (Memᴰ.head e) here later = here e
head_or_later P (Memᴰ.tail m) here later = later m

pub mapped : {A B : Type 0} (f : A → B) {a : A} {l : List A} → Memᴰ a l → Memᴰ (f a) (map f l)
mapped f (Memᴰ.head e) = Memᴰ.head (ap f e)
mapped f (Memᴰ.tail m) = Memᴰ.tail (mapped f m)

pub mapped_from : {A B : Type 0} (f : A → B) (l : List A) {b : B} → Memᴰ b (map f l) → (a : A) × Memᴰ a l × (b ≡ f a)
mapped_from f [] m = absurd (Memᴰ.not-nil m)
mapped_from {A} f (x ∷ l) {b} m =
    head_or_later ((a : A) × Memᴰ a (x ∷ l) × (b ≡ f a)) m (λ e. (x, Memᴰ.head refl, e))
    (λ k. let found : (a : A) × Memᴰ a l × (b ≡ f a) = mapped_from f l k in (found.0, Memᴰ.tail found.1, found.2))
