-- Document 01's numbers are little-endian, by computing. Assumes nothing.
use mathlib.Core.List.{[], ◌∷◌}
use mathlib.Core.Path.{◌≡◌, refl}
use Rattle.numbers.specs.Numbers.{u16_at, u32_at}
use Rattle.numbers.specs.Over.{over}

-- Numbers are little-endian
pub little_endian : (u16_at (9 ∷ 1 ∷ 2 ∷ []) 1 ≡ 513) × (u32_at (1 ∷ 2 ∷ 3 ∷ 4 ∷ []) 0 ≡ 67305985)
unfolding u16_at u32_at
little_endian = (refl, refl)

-- a slice's first numbers change, and those behind stay
pub others_stay : over (1 ∷ 2 ∷ []) (7 ∷ 8 ∷ 9 ∷ []) ≡ 1 ∷ 2 ∷ 9 ∷ []
others_stay = refl
