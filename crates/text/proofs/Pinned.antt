-- Facts that pin decimal texts: 0, 10 and 2000 in digits. Assumes nothing.
use mathlib.Core.List.{[], ◌∷◌}
use mathlib.Core.Path.{◌≡◌, refl}
use Rattle.text.specs.Decimal.{digits_onto, decimal, number_text}

pub nought : number_text 0 ≡ 48 ∷ []
unfolding number_text decimal digits_onto
nought = refl

pub ten : number_text 10 ≡ 49 ∷ 48 ∷ []
unfolding number_text decimal digits_onto
ten = refl

pub two_thousand : number_text 2000 ≡ 50 ∷ 48 ∷ 48 ∷ 48 ∷ []
unfolding number_text decimal digits_onto
two_thousand = refl
