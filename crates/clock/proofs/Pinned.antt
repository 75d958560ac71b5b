-- Facts that pin the clock to document 01's own times. Assumes nothing.
use mathlib.Core.Path.{◌≡◌, refl}
use mathlib.Core.List.{[], ◌∷◌}
use Rattle.text.specs.Decimal.{digits_onto, decimal}
use Rattle.clock.specs.Clock.{day_of, day_start, since_midnight, hour_of, minute_of_hour, rounded_up}
use Rattle.clock.specs.Text.{face_text, time_text}

-- minute 0 opens day 1: d1 00:00
pub opens : time_text 0 ≡ 100 ∷ 49 ∷ 32 ∷ 48 ∷ 48 ∷ 58 ∷ 48 ∷ 48 ∷ []
unfolding time_text face_text decimal digits_onto day_of day_start since_midnight hour_of minute_of_hour
opens = refl

-- case W boards at 600: d1 10:00
pub boards : time_text 600 ≡ 100 ∷ 49 ∷ 32 ∷ 49 ∷ 48 ∷ 58 ∷ 48 ∷ 48 ∷ []
unfolding time_text face_text decimal digits_onto day_of day_start since_midnight hour_of minute_of_hour
boards = refl

-- the last minute of day 1 and the first of day 2: d1 23:59, d2 00:00
pub day_closes : time_text 1439 ≡ 100 ∷ 49 ∷ 32 ∷ 50 ∷ 51 ∷ 58 ∷ 53 ∷ 57 ∷ []
unfolding time_text face_text decimal digits_onto day_of day_start since_midnight hour_of minute_of_hour
day_closes = refl

pub next_opens : time_text 1440 ≡ 100 ∷ 50 ∷ 32 ∷ 48 ∷ 48 ∷ 58 ∷ 48 ∷ 48 ∷ []
unfolding time_text face_text decimal digits_onto day_of day_start since_midnight hour_of minute_of_hour
next_opens = refl

-- the last minute of the seven days, and the latest that a plan prints: d7 23:59, d8 01:59
pub week_closes : time_text 10079 ≡ 100 ∷ 55 ∷ 32 ∷ 50 ∷ 51 ∷ 58 ∷ 53 ∷ 57 ∷ []
unfolding time_text face_text decimal digits_onto day_of day_start since_midnight hour_of minute_of_hour
week_closes = refl

pub latest : time_text 10199 ≡ 100 ∷ 56 ∷ 32 ∷ 48 ∷ 49 ∷ 58 ∷ 53 ∷ 57 ∷ []
unfolding time_text face_text decimal digits_onto day_of day_start since_midnight hour_of minute_of_hour
latest = refl

-- a day past the ninth has all its digits: d10 00:00
pub tenth_day : time_text 12960 ≡ 100 ∷ 49 ∷ 48 ∷ 32 ∷ 48 ∷ 48 ∷ 58 ∷ 48 ∷ 48 ∷ []
unfolding time_text face_text decimal digits_onto day_of day_start since_midnight hour_of minute_of_hour
tenth_day = refl

-- ticks 0, 1, 256, 257, and case W's expected 172,800
pub ticks : rounded_up 0 ∷ rounded_up 1 ∷ rounded_up 256 ∷ rounded_up 257 ∷ rounded_up 172800 ∷ [] ≡ 0 ∷ 1 ∷ 1 ∷ 2 ∷ 675 ∷ []
unfolding rounded_up
ticks = refl
