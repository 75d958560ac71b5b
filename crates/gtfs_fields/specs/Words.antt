-- Document 02, E2: a time in GTFS's words, and one as it is written.
use Rattle.std.specs.Prelude.{ℕ, ◌/◌, ◌%◌, ◌<◌, List, [], ◌∷◌, ◌++◌, ◌≡◌, length}
use Rattle.text.specs.Decimal.{digit_of, number_text, value_of, OnlyDigits}
use Rattle.gtfs_fields.specs.Time.{colon, minutes_an_hour}

-- hours of a digit or more, a colon, two digits of 00 to 59, a colon, 00
pub record ClockTime (field : List ℕ) : Type 0 where
  pub hours : List ℕ
  pub tens : ℕ
  pub ones : ℕ
  pub says : field ≡ hours ++ (colon ∷ tens ∷ ones ∷ colon ∷ digit_of 0 ∷ digit_of 0 ∷ [])
  pub some : 0 < length hours
  pub hours_digits : OnlyDigits hours
  pub minutes_digits : OnlyDigits (tens ∷ ones ∷ [])
  pub minutes_below : value_of (tens ∷ ones ∷ []) < minutes_an_hour

-- a time as it is written down
abbrev pub time_text : (hours minutes : ℕ) → List ℕ
time_text hours minutes =
    number_text hours ++ (colon ∷ digit_of (minutes / 10) ∷ digit_of (minutes % 10) ∷ colon ∷ digit_of 0 ∷ digit_of 0 ∷ [])
