-- Document 01, "House delay tables": what is answered to a pair number and a minute.
use Rattle.std.specs.Prelude.{ℕ, ◌<◌, ◌≤◌, Bool, cond, ◌&&◌, ◌⊎◌, [], ◌∷◌, ltb, leb, length, Result, Ok, Err}
use Rattle.timetable.specs.declared.Refusal.{Refusal}
use Rattle.timetable.specs.Verdict.{refused}
use Rattle.file_layout.specs.Check.{Answer}
use Rattle.house.specs.House.{house_pairs, pair_of, maximum, cumulative}

-- a pair number of the eight, and a minute not above its M
unfoldable pub in_house : (pair minute : ℕ) → Bool
in_house pair minute = ltb pair (length house_pairs) && leb minute (maximum (pair_of pair))

-- the same in words, and its opposite: pair number above 7 or minute above M
abbrev pub Inside : (pair minute : ℕ) → Type 0
Inside pair minute = (pair < length house_pairs) × (minute ≤ maximum (pair_of pair))

abbrev pub Outside : (pair minute : ℕ) → Type 0
Outside pair minute = (length house_pairs ≤ pair) ⊎ (maximum (pair_of pair) < minute)

-- The cumulative share by the rule. Pair number above 7 or minute above M: refusal 6
unfoldable pub house_share : (pair minute : ℕ) → Result ℕ (Refusal ℕ)
house_share pair minute =
    cond (in_house pair minute) (Ok (cumulative (pair_of pair).change (pair_of pair).parameter minute)) (refused 6 0)

-- A case of the answer by document 01's number, place and values: a share has number 0 and place 0
unfoldable pub house_answer : Result ℕ (Refusal ℕ) → Answer
house_answer (Ok share) = record { number = 0; place = 0; values = share ∷ [] }
house_answer (Err refusal) = record { number = refusal.number; place = refusal.place; values = [] }
