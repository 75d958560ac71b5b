-- Document 02, E1, both sides of each line, and its plausible errors: one timetable for each, on which the wrong reading would answer
-- otherwise. The edits under must-fail/ make each reading in turn, and are refused here.
use Rattle.std.specs.Prelude.{ℕ, ◌-◌, ◌*◌, List, [], ◌∷◌}
use Rattle.timetable.specs.Timetable.{Timetable}
use Rattle.timetable.specs.Classes.{share_total}
use Rattle.timetable.specs.declared.Row.{Row}
use Rattle.query.specs.Query.{most_margin, plain_query, with_code, with_margin}
use Rattle.plans.specs.Examples.{Case, plan_told, row, on_time, timetable}

-- a class so many ticks late in the mean: 16 of 4,096 landings a minute late are one tick
abbrev pub ticks_late : ℕ → List ℕ
ticks_late ticks = (share_total - 16 * ticks) ∷ (16 * ticks) ∷ []

-- boats from stop 0 to stop 2, all planned to land at minute 100: worth 25,600 ticks on time, and so many more by their class
abbrev pub boat : (departure trip class : ℕ) → Row
boat departure trip class = row 0 2 departure 100 trip class

-- an earlier boat that gains ten ticks, and one that gains nine
abbrev pub gains_ten : Timetable
gains_ten = timetable (boat 10 0 0 ∷ boat 20 1 1 ∷ []) (on_time ∷ ticks_late 10 ∷ [])

abbrev pub gains_nine : Timetable
gains_nine = timetable (boat 10 0 0 ∷ boat 20 1 1 ∷ []) (on_time ∷ ticks_late 9 ∷ [])

-- both in one minute
abbrev pub one_minute : ℕ → Timetable
one_minute ticks = timetable (boat 10 0 0 ∷ boat 10 1 1 ∷ []) (on_time ∷ ticks_late ticks ∷ [])

-- three boats: the second gains ten ticks on the third, the first fifteen on the third and five on the second
abbrev pub three_boats : Timetable
three_boats = timetable (boat 10 0 0 ∷ boat 20 1 1 ∷ boat 30 2 2 ∷ []) (on_time ∷ ticks_late 5 ∷ ticks_late 15 ∷ [])

-- five minutes later without the first boat, whatever the margin: E is that of the first
abbrev pub five_minutes : Timetable
five_minutes = timetable (row 0 2 10 100 0 0 ∷ row 0 2 20 105 1 0 ∷ []) (on_time ∷ [])

-- one ride, of a row, worth so many ticks, landing at the latest at a minute
abbrev pub one_ride : (row worth latest bound : ℕ) → List ℕ
one_ride row worth latest bound = 1 ∷ worth ∷ latest ∷ bound ∷ row ∷ row ∷ worth ∷ []

unfoldable pub margin_cases : List Case
margin_cases =
    -- a row that gains exactly the margin is chosen; `<` for `≤` would leave it out
    record { answered = plan_told gains_ten (with_margin 10 (plain_query 0 2 0)); expected = one_ride 0 25600 100 0 }
    -- one tick less is not; with margin 1 it is
    ∷ record { answered = plan_told gains_nine (with_margin 10 (plain_query 0 2 0)); expected = one_ride 1 25609 101 0 }
    ∷ record { answered = plan_told gains_nine (plain_query 0 2 0); expected = one_ride 0 25600 100 0 }
    -- in the same minute it replaces the other, alone on the sheet; one that gains less does not
    ∷ record { answered = plan_told (one_minute 10) (with_margin 10 (plain_query 0 2 0)); expected = one_ride 0 25600 100 0 }
    ∷ record { answered = plan_told (one_minute 9) (with_margin 10 (plain_query 0 2 0)); expected = one_ride 1 25609 101 0 }
    -- the stop's current first chosen row counts, not a later one
    ∷ record { answered = plan_told three_boats (with_margin 10 (plain_query 0 2 0)); expected = one_ride 1 25605 101 0 }
    -- a stop's first row is chosen, however much the margin
    ∷ record { answered = plan_told gains_ten (with_margin most_margin (plain_query 0 2 20)); expected = one_ride 1 25610 101 0 }
    -- the margin in E would bound by 105; bounded by 100 only the first boat is left
    ∷ record { answered = plan_told five_minutes (with_margin most_margin (with_code 4 (plain_query 0 2 0))); expected = one_ride 0 25600 100 100 }
    ∷ record { answered = plan_told five_minutes (with_margin most_margin (plain_query 0 2 0)); expected = one_ride 1 26880 105 0 }
    ∷ []
