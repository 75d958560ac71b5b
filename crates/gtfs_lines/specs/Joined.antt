-- Texts without a mark, and parts joined again.
use Rattle.std.specs.Prelude.{ℕ, false, List, [], ◌∷◌, ◌++◌, ◌≡◌, eqb}

-- none of the bytes is the mark
abbrev pub Without : (mark : ℕ) → List ℕ → Type 0
Without mark [] = Unit {0}
Without mark (byte ∷ text) = (eqb byte mark ≡ false) × Without mark text

-- parts with the separator between each two
unfoldable pub joined : (separator : ℕ) → List (List ℕ) → List ℕ
joined separator [] = []
joined separator (last ∷ []) = last
joined separator (part ∷ next ∷ more) = part ++ separator ∷ joined separator (next ∷ more)
