-- Document 01's case W and its neighbours, as timetables, and an answer as a list of numbers.
use Rattle.std.specs.Prelude.{ℕ, List, [], ◌∷◌, ◌≡◌, length}
use Rattle.std.proofs.Math.Option.{Option, none, some}
use Rattle.timetable.specs.Timetable.{Timetable}
use Rattle.timetable.specs.declared.Row.{Row}
use Rattle.query.specs.declared.Query.{Query}
use Rattle.query.specs.Query.{plain_query, with_code}
use Rattle.plans.specs.Plan.{Plan, planned}
use Rattle.plans.specs.Worth.{Valued}

-- what is answered, and what document 01 says
pub record Case : Type 0 where
  pub answered : List ℕ
  pub expected : List ℕ

abbrev pub Hold : List Case → Type 0
Hold [] = Unit {0}
Hold (c ∷ cases) = (c.answered ≡ c.expected) × Hold cases

unfoldable pub told_rides : List Valued → List ℕ
told_rides [] = []
told_rides (v ∷ rides) = v.ride.board ∷ v.ride.leave ∷ v.worth ∷ told_rides rides

-- a plan: ride count, expected ticks, latest minute, bound, then three numbers a ride; refusal 8: nothing
unfoldable pub told : Option Plan → List ℕ
told none = []
told (some p) = length p.rides ∷ p.expected ∷ p.latest ∷ p.bound ∷ told_rides p.rides

-- with document 01's margin
abbrev pub query : (source target minute code : ℕ) → Query
query source target minute code = with_code code (plain_query source target minute)

abbrev pub plan_told : Timetable → Query → List ℕ
plan_told t q = told (planned t q)

abbrev pub row : (board land departure arrival trip class : ℕ) → Row
row board land departure arrival trip class =
    record { board = board; land = land; departure = departure; arrival = arrival; trip = trip; class = class }

-- W's two classes: M 0; and M 10, shares 2,048 at 0, 1,024 at 5, 1,024 at 10
abbrev pub on_time : List ℕ
on_time = 4096 ∷ []

abbrev pub up_to_ten : List ℕ
up_to_ten = 2048 ∷ 0 ∷ 0 ∷ 0 ∷ 0 ∷ 1024 ∷ 0 ∷ 0 ∷ 0 ∷ 0 ∷ 1024 ∷ []

abbrev pub timetable : List Row → List (List ℕ) → Timetable
timetable rows tables = record { stops = 3; rows = rows; tables = tables }

-- W with row 3 departing at a minute of choice
abbrev pub w_with : ℕ → Timetable
w_with departure =
    timetable (row 0 1 600 630 0 1 ∷ row 1 2 632 660 1 0 ∷ row 1 2 636 700 2 0 ∷ row 1 2 departure 690 3 0 ∷ [])
    (on_time ∷ up_to_ten ∷ [])

abbrev pub w : Timetable
w = w_with 650

-- a second row like row 3, as row 4 on trip 4
abbrev pub w_twice : Timetable
w_twice =
    timetable
    (row 0 1 600 630 0 1 ∷ row 1 2 632 660 1 0 ∷ row 1 2 636 700 2 0 ∷ row 1 2 650 690 3 0 ∷ row 1 2 650 690 4 0 ∷ [])
    (on_time ∷ up_to_ten ∷ [])

-- two rows of one trip
abbrev pub one_trip : Timetable
one_trip = timetable (row 0 1 600 620 0 1 ∷ row 1 2 625 660 0 1 ∷ []) (on_time ∷ up_to_ten ∷ [])

-- shares 4,095 and 1, landing at the target at 10
abbrev pub seldom_late : Timetable
seldom_late = timetable (row 0 2 5 10 0 0 ∷ []) ((4095 ∷ 1 ∷ []) ∷ [])

abbrev pub w_plan : ℕ → List ℕ
w_plan bound = 3 ∷ 172800 ∷ 690 ∷ bound ∷ 0 ∷ 0 ∷ 172800 ∷ 1 ∷ 1 ∷ 168960 ∷ 3 ∷ 3 ∷ 176640 ∷ []
