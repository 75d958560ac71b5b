-- Document 01, "The sheet": times print as day, hours, minutes, the last two in two digits, as `d1 10:00`.
use Rattle.std.specs.Prelude.{ℕ, ◌-◌, ◌/◌, ◌%◌, ◌<◌, ◌≡◌, List, [], ◌∷◌, ◌++◌, length, replicate}
use Rattle.text.specs.Decimal.{digit_of, decimal}
use Rattle.clock.specs.declared.TimeText.{TimeText}
use Rattle.clock.specs.Clock.{day_of, hour_of, minute_of_hour}

abbrev pub blank : ℕ
blank = 32

abbrev pub colon : ℕ
colon = 58

abbrev pub letter_d : ℕ
letter_d = 100

-- a blank, hours, a colon and minutes, in two digits each
unfoldable pub face_text : ℕ → List ℕ
face_text minute =
    blank ∷ digit_of (hour_of minute / 10) ∷ digit_of (hour_of minute % 10) ∷ colon
    ∷ digit_of (minute_of_hour minute / 10) ∷ digit_of (minute_of_hour minute % 10) ∷ []

unfoldable pub time_text : ℕ → List ℕ
time_text minute = letter_d ∷ decimal (day_of minute) (face_text minute)

-- the characters that the latest minute of 32 bits takes
abbrev pub widest : ℕ
widest = 14

-- the text stands at the end of the bytes, blanks ahead of it
unfoldable pub printed : ℕ → TimeText
printed minute =
    let start = widest - length (time_text minute) in
    record { bytes = replicate start blank ++ time_text minute; start = start }

-- what is answered: that text, and that it ends inside the bytes
pub record Printed (minute : ℕ) (text : TimeText) : Type 0 where
  pub says : text ≡ printed minute
  pub wide : length text.bytes ≡ widest
  pub inside : text.start < widest
