-- Demand 3's numbers of a small plan: a boat that lands at 630, seldom a minute later, and the two boats that it catches then; the same with
-- gates. And what a margin costs on another.
use Rattle.std.specs.Prelude.{ℕ, ◌*◌, ◌^◌, List, [], ◌∷◌, map, length}
use Rattle.std.proofs.Math.Option.{Option, none, some}
use Rattle.timetable.specs.Timetable.{Timetable}
use Rattle.timetable.specs.Classes.{share_total}
use Rattle.query.specs.declared.Query.{Query}
use Rattle.query.specs.Query.{plain_query, with_margin, with_gate}
use Rattle.plans.specs.Rides.{Ride, ride_of}
use Rattle.plans.specs.Examples.{Case, query, plan_told, row, on_time, timetable}
use Rattle.plans.specs.Margins.{ticks_late}
use Rattle.demands.specs.SafePlan.{expected_of}
use Rattle.demands.specs.Walk.{choices, weight, weighted_arrivals, longest_way}

abbrev pub small : Timetable
small = timetable (row 0 1 600 630 0 1 ∷ row 1 2 630 660 1 0 ∷ row 1 2 631 690 2 0 ∷ []) (on_time ∷ (4095 ∷ 1 ∷ []) ∷ [])

abbrev pub asked : Query
asked = query 0 2 590 0

abbrev pub small_rides : List Ride
small_rides = ride_of small 0 0 ∷ ride_of small 1 1 ∷ ride_of small 2 2 ∷ []

abbrev pub turned_round : List Ride
turned_round = ride_of small 2 2 ∷ ride_of small 1 1 ∷ ride_of small 0 0 ∷ []

-- the same where gates close a minute early and both boats leave a minute later, for the same arrivals
abbrev pub gated : Timetable
gated = timetable (row 0 1 600 630 0 1 ∷ row 1 2 631 660 1 0 ∷ row 1 2 632 690 2 0 ∷ []) (on_time ∷ (4095 ∷ 1 ∷ []) ∷ [])

abbrev pub gated_asked : Query
gated_asked = with_gate 1 (plain_query 0 2 590)

abbrev pub gated_rides : List Ride
gated_rides = ride_of gated 0 0 ∷ ride_of gated 1 1 ∷ ride_of gated 2 2 ∷ []

-- a safe plan too, listed backwards: the boat and the later of the two
abbrev pub later_boat : List Ride
later_boat = ride_of small 2 2 ∷ ride_of small 0 0 ∷ []

-- a boat to a pier where the earlier of two boats gains nine ticks, and a direct boat a minute behind it, worth eighteen ticks more
abbrev pub seconds : Timetable
seconds =
    timetable (row 0 1 10 20 0 0 ∷ row 0 2 11 100 1 2 ∷ row 1 2 20 100 2 0 ∷ row 1 2 21 100 3 1 ∷ [])
    (on_time ∷ ticks_late 9 ∷ ticks_late 18 ∷ [])

abbrev pub quick_rides : List Ride
quick_rides = ride_of seconds 0 0 ∷ ride_of seconds 2 2 ∷ []

unfoldable pub expected_in : Option ℕ → List ℕ
expected_in none = []
expected_in (some x) = x ∷ []

unfoldable pub small_cases : List Case
small_cases =
    record { answered = plan_told small asked; expected = 3 ∷ 168962 ∷ 690 ∷ 0 ∷ 0 ∷ 0 ∷ 168962 ∷ 1 ∷ 1 ∷ 168960 ∷ 2 ∷ 2 ∷ 176640 ∷ [] }
    -- X, whatever order the rides are listed in
    ∷ record { answered = expected_in (expected_of asked small_rides); expected = 168962 ∷ [] }
    ∷ record { answered = expected_in (expected_of asked turned_round); expected = 168962 ∷ [] }
    ∷ record { answered = expected_in (expected_of asked later_boat); expected = 176640 ∷ [] }
    -- two choices, of 68,702,699,520 and 16,777,216 parts in 4,096^3
    ∷ record { answered = map weight (choices small_rides); expected = 68702699520 ∷ 16777216 ∷ [] }
    -- A, then 4,096^R × X, which is a little more
    ∷ record {
      answered = weighted_arrivals asked small_rides ∷ share_total ^ length small_rides * 168962 ∷ [];
      expected = 11610971638333440 ∷ 11610980228268032 ∷ [];
    }
    -- L: two of the three rides are boarded, in time or late
    ∷ record { answered = longest_way asked small_rides ∷ []; expected = 2 ∷ [] }
    -- with the gates X, A and L are the same; with a gate time of 2 the late boat has nothing to go on with
    ∷ record { answered = plan_told gated gated_asked; expected = 3 ∷ 168962 ∷ 690 ∷ 0 ∷ 0 ∷ 0 ∷ 168962 ∷ 1 ∷ 1 ∷ 168960 ∷ 2 ∷ 2 ∷ 176640 ∷ [] }
    ∷ record { answered = expected_in (expected_of gated_asked gated_rides); expected = 168962 ∷ [] }
    ∷ record { answered = weighted_arrivals gated_asked gated_rides ∷ longest_way gated_asked gated_rides ∷ []; expected = 11610971638333440 ∷ 2 ∷ [] }
    ∷ record { answered = plan_told gated (with_gate 2 (plain_query 0 2 590)); expected = [] }
    -- with margin 1 two rides; with margin 10 the direct boat, later by (10 − 1) × 2 ticks: as much as two rides along a way can lose
    ∷ record { answered = plan_told seconds (plain_query 0 2 0); expected = 2 ∷ 25600 ∷ 100 ∷ 0 ∷ 0 ∷ 0 ∷ 25600 ∷ 2 ∷ 2 ∷ 25600 ∷ [] }
    ∷ record { answered = plan_told seconds (with_margin 10 (plain_query 0 2 0)); expected = 1 ∷ 25618 ∷ 101 ∷ 0 ∷ 1 ∷ 1 ∷ 25618 ∷ [] }
    ∷ record { answered = longest_way (with_margin 10 (plain_query 0 2 0)) quick_rides ∷ []; expected = 2 ∷ [] }
    ∷ []
