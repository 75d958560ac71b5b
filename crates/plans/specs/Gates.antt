-- Document 02, E3, both sides of each line, and its plausible errors: at the very minute of a gate time a boat is caught, and with one minute more
-- it is missed. The edits under must-fail/ make each wrong reading in turn, and are refused here.
use Rattle.std.specs.Prelude.{ℕ, List, [], ◌∷◌}
use Rattle.timetable.specs.Timetable.{Timetable}
use Rattle.query.specs.Query.{most_gate, plain_query, with_code, with_margin, with_gate}
use Rattle.plans.specs.Examples.{Case, plan_told, row, on_time, up_to_ten, timetable, w, w_plan, one_trip}
use Rattle.plans.specs.Margins.{gains_nine, one_ride}
use Rattle.plans.specs.Misreadings.{safe_and_next}

-- W without the boat at 10:32, which the gate shuts out: the boat to the pier, then the one at 10:50
abbrev pub last_boat : List ℕ
last_boat = 2 ∷ 176640 ∷ 690 ∷ 0 ∷ 0 ∷ 0 ∷ 176640 ∷ 3 ∷ 3 ∷ 176640 ∷ []

-- the boat to the pier, worth so much, then both boats that go on from there
abbrev pub both_boats : (worth : ℕ) → List ℕ
both_boats worth = 3 ∷ worth ∷ 690 ∷ 0 ∷ 0 ∷ 0 ∷ worth ∷ 1 ∷ 1 ∷ 168960 ∷ 2 ∷ 2 ∷ 176640 ∷ []

-- a boat to the pier, where one boat goes on at 650, and a slow direct boat a minute behind it
abbrev pub slow_boat : Timetable
slow_boat = timetable (row 0 1 600 630 0 1 ∷ row 0 2 601 800 1 0 ∷ row 1 2 650 690 2 0 ∷ []) (on_time ∷ up_to_ten ∷ [])

-- by way of the pier
abbrev pub by_the_pier : (bound : ℕ) → List ℕ
by_the_pier bound = 2 ∷ 176640 ∷ 690 ∷ bound ∷ 0 ∷ 0 ∷ 176640 ∷ 2 ∷ 2 ∷ 176640 ∷ []

-- a direct boat at minute 0, and one a minute behind it that is seldom late
abbrev pub soon_or_sure : Timetable
soon_or_sure = timetable (row 0 1 0 4 0 0 ∷ row 0 1 1 2 1 1 ∷ []) (on_time ∷ (4095 ∷ 0 ∷ 0 ∷ 1 ∷ []) ∷ [])

unfoldable pub gate_cases : List Case
gate_cases =
    -- at the source: there from 597 on, the boat at 600 is caught with gate time 3 and missed with 4
    record { answered = plan_told w (with_gate 3 (plain_query 0 2 597)); expected = last_boat }
    ∷ record { answered = plan_told w (with_gate 4 (plain_query 0 2 597)); expected = [] }
    -- at a landing: on land at 630, the boat at 632 is caught with 2 and missed with 3; worths, the latest minute and the first boat stay
    ∷ record { answered = plan_told w (with_gate 2 (plain_query 0 2 590)); expected = w_plan 0 }
    ∷ record { answered = plan_told w (with_gate 3 (plain_query 0 2 590)); expected = last_boat }
    -- at a + M, 640: the boat at 650 is safe with 10, and with 11 nothing is
    ∷ record { answered = plan_told w (with_gate 10 (plain_query 0 2 590)); expected = last_boat }
    ∷ record { answered = plan_told w (with_gate 11 (plain_query 0 2 589)); expected = [] }
    -- so with a slow boat beside it: by the pier with 10, and with 11 the slow boat alone
    ∷ record { answered = plan_told slow_boat (with_gate 10 (plain_query 0 2 590)); expected = by_the_pier 0 }
    ∷ record { answered = plan_told slow_boat (with_gate 11 (plain_query 0 2 589)); expected = one_ride 1 204800 800 0 }
    -- and E is that of the safe one: 690 with 10, 800 with 11
    ∷ record { answered = plan_told slow_boat (with_gate 10 (with_code 4 (plain_query 0 2 590))); expected = by_the_pier 690 }
    ∷ record { answered = plan_told slow_boat (with_gate 11 (with_code 4 (plain_query 0 2 589))); expected = one_ride 1 204800 800 800 }
    -- the end of the window: a boat at 640 is the first at or after a + M + g with 0; with 1 it is the one at 650, and the first is still caught
    ∷ record {
      answered = plan_told safe_and_next (with_gate 0 (plain_query 0 2 590));
      expected = 2 ∷ 168960 ∷ 660 ∷ 0 ∷ 0 ∷ 0 ∷ 168960 ∷ 1 ∷ 1 ∷ 168960 ∷ [];
    }
    ∷ record { answered = plan_told safe_and_next (with_gate 1 (plain_query 0 2 590)); expected = both_boats 170880 }
    -- the start of the window: the boat at 640 is caught by who lands on time with 10
    ∷ record { answered = plan_told safe_and_next (with_gate 10 (plain_query 0 2 590)); expected = both_boats 172800 }
    -- E is 690 and the bound 590 + 5 × 100 / 4, as without a gate
    ∷ record { answered = plan_told w (with_gate 2 (with_code 4 (plain_query 0 2 590))); expected = w_plan 690 }
    ∷ record { answered = plan_told w (with_gate 2 (with_code 5 (plain_query 0 2 590))); expected = w_plan 715 }
    -- who stays aboard passes no gate
    ∷ record { answered = plan_told one_trip (with_gate most_gate (plain_query 0 2 570)); expected = 1 ∷ 169920 ∷ 670 ∷ 0 ∷ 0 ∷ 1 ∷ 169920 ∷ [] }
    -- with a margin too: the later boat alone is chosen, caught by who is there at 15, missed from 16 on
    ∷ record { answered = plan_told gains_nine (with_gate 5 (with_margin 10 (plain_query 0 2 15))); expected = one_ride 1 25609 101 0 }
    ∷ record { answered = plan_told gains_nine (with_gate 5 (with_margin 10 (plain_query 0 2 16))); expected = [] }
    -- with a bound a larger gate time can help: it shuts out the boat whose E bounds all
    ∷ record { answered = plan_told soon_or_sure (with_code 4 (plain_query 0 1 0)); expected = one_ride 0 1024 4 4 }
    ∷ record { answered = plan_told soon_or_sure (with_gate 1 (with_code 4 (plain_query 0 1 0))); expected = one_ride 1 513 5 5 }
    ∷ []
