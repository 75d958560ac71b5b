-- A number in decimal digits, as a list of ASCII codes, and such digits read back.
use Rattle.std.specs.Prelude.{ℕ, zero, suc, ◌+◌, ◌*◌, ◌-◌, ◌/◌, ◌%◌, ◌≤◌, cond, List, [], ◌∷◌, eqb}

-- a digit's character, and the digit of a character
abbrev pub digit_of : ℕ → ℕ
digit_of n = 48 + n

abbrev pub digit_in : ℕ → ℕ
digit_in character = character - 48

-- a number above 0 in decimal digits, ahead of `rest`; it has no more digits than its own value
unfoldable pub digits_onto : (most n : ℕ) → List ℕ → List ℕ
digits_onto zero n rest = rest
digits_onto (suc most) n rest =
    let more = digits_onto most (n / 10) (digit_of (n % 10) ∷ rest) in cond (eqb n 0) rest more

unfoldable pub decimal : ℕ → List ℕ → List ℕ
decimal n rest = digits_onto n n rest

-- the last digit always stands, so that 0 is a text too
unfoldable pub number_text : ℕ → List ℕ
number_text n = decimal (n / 10) (digit_of (n % 10) ∷ [])

-- digits read from the first on, behind digits that were worth `before`
unfoldable pub value_behind : (before : ℕ) → List ℕ → ℕ
value_behind before [] = before
value_behind before (character ∷ rest) = value_behind (10 * before + digit_in character) rest

unfoldable pub value_of : List ℕ → ℕ
value_of text = value_behind 0 text

-- nothing but digits
abbrev pub OnlyDigits : List ℕ → Type 0
OnlyDigits [] = Unit {0}
OnlyDigits (character ∷ rest) = (digit_of 0 ≤ character) × (character ≤ digit_of 9) × OnlyDigits rest
