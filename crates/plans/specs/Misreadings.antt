-- Document 01, "Plausible errors to rule out": one timetable for each error, on which the wrong reading would answer otherwise. The edits under
-- must-fail/ make each reading in turn, and are refused here.
use Rattle.std.specs.Prelude.{List, [], ◌∷◌}
use Rattle.timetable.specs.Timetable.{Timetable}
use Rattle.plans.specs.Examples.{Case, query, plan_told, row, on_time, up_to_ten, timetable, w_with, w, w_twice, w_plan}

-- a late boat with an early planned arrival, and one on time
abbrev pub late_or_on_time : Timetable
late_or_on_time = timetable (row 0 2 10 20 0 1 ∷ row 0 2 12 25 1 0 ∷ []) (on_time ∷ up_to_ten ∷ [])

-- a boat that leaves at exactly a + M, and one behind it
abbrev pub safe_and_next : Timetable
safe_and_next = timetable (row 0 1 600 630 0 1 ∷ row 1 2 640 660 1 0 ∷ row 1 2 650 690 2 0 ∷ []) (on_time ∷ up_to_ten ∷ [])

-- two connections, of which the second is seldom needed
abbrev pub two_products : Timetable
two_products = timetable (row 0 1 10 20 0 1 ∷ row 1 2 20 31 1 1 ∷ row 1 2 30 41 2 1 ∷ []) (on_time ∷ (4093 ∷ 0 ∷ 3 ∷ []) ∷ [])

-- a boat that is caught only by landing on time, which has share 0
abbrev pub never_on_time : Timetable
never_on_time = timetable (row 0 1 10 20 0 1 ∷ row 1 2 20 31 1 0 ∷ row 1 2 30 41 2 0 ∷ []) (on_time ∷ (0 ∷ 0 ∷ 4096 ∷ []) ∷ [])

unfoldable pub misreadings : List Case
misreadings =
    -- a boat that leaves at the landing minute treated as missed: no plan
    record { answered = plan_told (w_with 640) (query 0 2 590 0); expected = w_plan 0 }
    -- one minute earlier as caught: a plan
    ∷ record { answered = plan_told (w_with 639) (query 0 2 590 0); expected = [] }
    -- E by planned arrival, 20 for 25: bounding too early, no plan within it
    ∷ record {
      answered = plan_told late_or_on_time (query 0 2 0 4);
      expected = 1 ∷ 6400 ∷ 25 ∷ 25 ∷ 1 ∷ 1 ∷ 6400 ∷ [];
    }
    -- the next ride after a safe one at exactly a + M added
    ∷ record {
      answered = plan_told safe_and_next (query 0 2 590 0);
      expected = 2 ∷ 168960 ∷ 660 ∷ 0 ∷ 0 ∷ 0 ∷ 168960 ∷ 1 ∷ 1 ∷ 168960 ∷ [];
    }
    -- each product rounded, not the sum
    ∷ record {
      answered = plan_told two_products (query 0 2 0 0);
      expected = 3 ∷ 7939 ∷ 43 ∷ 0 ∷ 0 ∷ 0 ∷ 7939 ∷ 1 ∷ 1 ∷ 7937 ∷ 2 ∷ 2 ∷ 10497 ∷ [];
    }
    -- a ride caught only at delays of share 0 left out
    ∷ record {
      answered = plan_told never_on_time (query 0 2 0 0);
      expected = 3 ∷ 10496 ∷ 41 ∷ 0 ∷ 0 ∷ 0 ∷ 10496 ∷ 1 ∷ 1 ∷ 7936 ∷ 2 ∷ 2 ∷ 10496 ∷ [];
    }
    -- the lowest row deciding among equals
    ∷ record {
      answered = plan_told w_twice (query 0 2 590 0);
      expected = 3 ∷ 172800 ∷ 690 ∷ 0 ∷ 0 ∷ 0 ∷ 172800 ∷ 1 ∷ 1 ∷ 168960 ∷ 4 ∷ 4 ∷ 176640 ∷ [];
    }
    -- the bound rounded up, 715 for 714: T 591, E 690 and q 5 give 591 + 123 and three quarters
    ∷ record { answered = plan_told w (query 0 2 591 5); expected = w_plan 714 }
    ∷ []
