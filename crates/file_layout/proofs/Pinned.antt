-- Document 01's rules of the file's sections and classes, at both sides of each line. Each statement holds by computing. Assumes nothing.
use Prim.Native.Nat.{ℕ}
use mathlib.Core.Bool.{true, false}
use mathlib.Core.List.{[], ◌∷◌}
use mathlib.Core.Path.{◌≡◌, refl}
use lib.ListN.{replicate}
use Rattle.timetable.specs.Verdict.{fine, fault, refused}
use Rattle.timetable.specs.Classes.{sum, shares_rule}
use Rattle.timetable.specs.Rows.{own_rule}
use Rattle.timetable.specs.declared.Row.{Row}
use Rattle.file_layout.specs.declared.Trailer.{Trailer}
use Rattle.std.specs.Prelude.{Ok}
use Rattle.file_layout.specs.Format.{version_one}
use Rattle.numbers.specs.Numbers.{u16_at}
use Rattle.file_layout.specs.Decode.{shares_from, table_at, block_end}
use Rattle.file_layout.specs.Check.{length_rule, trailer_rule, ranges_of, class_verdict, classes_verdict, sections_join, answer_of}

-- file length: 20 to 27,920 bytes
pub lengths : (length_rule version_one (replicate 19 0) ≡ false) × (length_rule version_one (replicate 20 0) ≡ true)
    × (length_rule version_one (replicate 27920 0) ≡ true) × (length_rule version_one (replicate 27921 0) ≡ false)
unfolding length_rule
lengths = (refl, refl, refl, refl)

-- a trailer by its first four numbers
abbrev numbers : (version stops rows classes : ℕ) → Trailer
numbers v s n k = record { version = v; stops = s; rows = n; classes = k; rowstart = 0; tablestart = 0 }

-- version 1
pub version_line : (trailer_rule version_one (numbers 0 2 0 1) ≡ false) × (trailer_rule version_one (numbers 1 2 0 1) ≡ true)
    × (trailer_rule version_one (numbers 2 2 0 1) ≡ false)
unfolding trailer_rule
version_line = (refl, refl, refl)

-- S is 2 to 200
pub stops_line : (trailer_rule version_one (numbers 1 1 0 1) ≡ false) × (trailer_rule version_one (numbers 1 2 0 1) ≡ true)
    × (trailer_rule version_one (numbers 1 200 0 1) ≡ true) × (trailer_rule version_one (numbers 1 201 0 1) ≡ false)
unfolding trailer_rule
stops_line = (refl, refl, refl, refl)

-- n is 0 to 2,000
pub rows_line : (trailer_rule version_one (numbers 1 2 2000 1) ≡ true) × (trailer_rule version_one (numbers 1 2 2001 1) ≡ false)
unfolding trailer_rule
rows_line = (refl, refl)

-- K is 1 to 16
pub classes_line : (trailer_rule version_one (numbers 1 2 0 0) ≡ false) × (trailer_rule version_one (numbers 1 2 0 1) ≡ true)
    × (trailer_rule version_one (numbers 1 2 0 16) ≡ true) × (trailer_rule version_one (numbers 1 2 0 17) ≡ false)
unfolding trailer_rule
classes_line = (refl, refl, refl, refl)

-- minutes in rows are 0 to 10,079
abbrev landing : ℕ → Row
landing minute = record { board = 0; land = 1; departure = 0; arrival = minute; trip = 0; class = 0 }

pub last_minute_lem : (own_rule (ranges_of version_one (numbers 1 2 0 1)) (landing 10079) ≡ true)
    × (own_rule (ranges_of version_one (numbers 1 2 0 1)) (landing 10080) ≡ false)
unfolding own_rule
last_minute_lem = (refl, refl)

-- two sections in either order, and with no row both ways
pub either_order : (sections_join 0 48 48 76 76 ≡ true) × (sections_join 28 76 0 28 76 ≡ true)
    × (sections_join 0 0 0 28 28 ≡ true) × (sections_join 28 28 0 28 28 ≡ true)
unfolding sections_join
either_order = (refl, refl, refl, refl)

-- one starts at 0, the other starts where that one ends, and the second ends where the trailer starts: no gap and no overlap
pub no_gap : (sections_join 1 49 49 76 76 ≡ false) × (sections_join 0 48 49 77 77 ≡ false) × (sections_join 0 48 48 76 77 ≡ false)
    × (sections_join 29 77 1 29 77 ≡ false) × (sections_join 29 77 0 28 77 ≡ false) × (sections_join 28 76 0 28 77 ≡ false)
unfolding sections_join
no_gap = (refl, refl, refl, refl, refl, refl)

pub no_overlap : (sections_join 0 48 47 76 76 ≡ false) × (sections_join 0 48 0 28 48 ≡ false) × (sections_join 27 76 0 28 76 ≡ false)
    × (sections_join 0 48 48 76 75 ≡ false)
unfolding sections_join
no_overlap = (refl, refl, refl, refl)

-- M's two bytes fit, else 2; M, else 3; shares fit, else 2; sum and last share, else 3
pub class_order : (class_verdict version_one (121 ∷ 0 ∷ []) 1 5 0 ≡ fault 2 0) × (class_verdict version_one (121 ∷ 0 ∷ []) 2 5 0 ≡ fault 3 5)
    × (class_verdict version_one (120 ∷ 0 ∷ []) 2 5 0 ≡ fault 2 0)
    × (class_verdict version_one (1 ∷ 0 ∷ 254 ∷ 15 ∷ 1 ∷ 0 ∷ []) 5 5 0 ≡ fault 2 0)
    × (class_verdict version_one (1 ∷ 0 ∷ 254 ∷ 15 ∷ 1 ∷ 0 ∷ []) 6 5 0 ≡ fault 3 5)
    × (class_verdict version_one (1 ∷ 0 ∷ 0 ∷ 16 ∷ 0 ∷ 0 ∷ []) 6 5 0 ≡ fault 3 5)
    × (class_verdict version_one (1 ∷ 0 ∷ 255 ∷ 15 ∷ 1 ∷ 0 ∷ []) 6 5 0 ≡ fine)
unfolding class_verdict u16_at block_end table_at shares_from shares_rule sum
class_order = (refl, refl, refl, refl, refl, refl, refl)

-- class by class: all tests of a class come before the next class, and a class's fault names it
pub class_by_class : (classes_verdict version_one (0 ∷ 0 ∷ 0 ∷ 16 ∷ 0 ∷ 0 ∷ 0 ∷ 16 ∷ []) 8 0 0 2 ≡ fine)
    × (classes_verdict version_one (0 ∷ 0 ∷ 0 ∷ 16 ∷ 0 ∷ 0 ∷ 1 ∷ 16 ∷ []) 8 0 0 2 ≡ fault 3 1)
    × (classes_verdict version_one (0 ∷ 0 ∷ 0 ∷ 16 ∷ []) 4 0 0 2 ≡ fault 2 0)
    × (classes_verdict version_one (0 ∷ 0 ∷ 1 ∷ 16 ∷ []) 4 0 0 2 ≡ fault 3 0)
unfolding classes_verdict class_verdict u16_at block_end table_at shares_from shares_rule sum
class_by_class = (refl, refl, refl, refl)

-- The check answers a sound file with S, n and K; a refusal carries its number and place and nothing else
pub answers : (answer_of (Ok (numbers 1 3 4 2)) ≡ record { number = 0; place = 0; values = 3 ∷ 4 ∷ 2 ∷ [] })
    × (answer_of (refused 5 7) ≡ record { number = 5; place = 7; values = [] })
unfolding answer_of
answers = (refl, refl)
