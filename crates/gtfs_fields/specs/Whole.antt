-- Document 02, E2: whole numbers, of any number of digits.
use Rattle.std.specs.Prelude.{ℕ, Bool, true, cond, ◌&&◌, List, [], ◌∷◌, leb, ltb, length}
use Rattle.text.specs.Decimal.{digit_of, value_of}
use Rattle.std.specs.Prelude.{Option, Some, None}

abbrev pub is_digit : ℕ → Bool
is_digit character = leb (digit_of 0) character && leb character (digit_of 9)

unfoldable pub are_digits : List ℕ → Bool
are_digits [] = true
are_digits (character ∷ rest) = is_digit character && are_digits rest

-- one digit or more, and nothing else; zeros may stand ahead
unfoldable pub is_whole : List ℕ → Bool
is_whole field = ltb 0 (length field) && are_digits field

-- a whole number below the limit
unfoldable pub whole_below : ℕ → List ℕ → Option ℕ
whole_below limit field = cond (is_whole field && ltb (value_of field) limit) (Some (value_of field)) None
