-- Document 01, "The sheet": the text that is printed for a file of sailings and a query, as a list of ASCII codes.
use Rattle.std.specs.Prelude.{ℕ, List, [], ◌∷◌, ◌++◌, length}
use Rattle.std.proofs.Math.Option.{Option, none, some}
use Rattle.timetable.specs.Verdict.{by_verdict}
use Rattle.file_layout.specs.declared.Format.{Format}
use Rattle.file_layout.specs.Decode.{decode}
use Rattle.query.specs.declared.Query.{Query}
use Rattle.query.specs.Query.{query_in}
use Rattle.plans.specs.Worth.{Valued}
use Rattle.plans.specs.Plan.{Plan, planned}
use Rattle.planner.specs.Admission.{no_room, admission}
use Rattle.text.specs.Decimal.{number_text}
use Rattle.clock.specs.Clock.{rounded_up}
use Rattle.clock.specs.Text.{blank, time_text}

-- every line ends so
abbrev pub newline : ℕ
newline = 10

-- an expected arrival is rounded up to a minute
abbrev pub expected_text : ℕ → List ℕ
expected_text ticks = time_text (rounded_up ticks)

-- the letters of `refused`
abbrev pub refused_word : List ℕ
refused_word = 114 ∷ 101 ∷ 102 ∷ 117 ∷ 115 ∷ 101 ∷ 100 ∷ []

-- the letters of `plan`
abbrev pub plan_word : List ℕ
plan_word = 112 ∷ 108 ∷ 97 ∷ 110 ∷ []

-- `refused 4`
unfoldable pub refused_text : ℕ → List ℕ
refused_text number = refused_word ++ (blank ∷ (number_text number ++ (newline ∷ [])))

-- a stop and a time there
unfoldable pub call_text : (stop minute : ℕ) → List ℕ
call_text stop minute = number_text stop ++ (blank ∷ time_text minute)

-- boarding stop and time, landing stop and time, expected
unfoldable pub line_text : (from departs to arrives worth : ℕ) → List ℕ
line_text from departs to arrives worth =
    call_text from departs ++ (blank ∷ (call_text to arrives ++ (blank ∷ (expected_text worth ++ (newline ∷ [])))))

unfoldable pub ride_text : Valued → List ℕ
ride_text v = line_text v.ride.from v.ride.departs v.ride.to v.ride.arrives v.worth

unfoldable pub rides_text : List Valued → List ℕ
rides_text [] = []
rides_text (v ∷ rides) = ride_text v ++ rides_text rides

-- First line: rides, expected, latest
unfoldable pub first_text : (rides expected latest : ℕ) → List ℕ
first_text rides expected latest =
    plan_word
    ++ (blank ∷ (number_text rides ++ (blank ∷ (expected_text expected ++ (blank ∷ (time_text latest ++ (newline ∷ [])))))))

unfoldable pub plan_text : Plan → List ℕ
plan_text p = first_text (length p.rides) p.expected p.latest ++ rides_text p.rides

-- A planning refusal prints alike
unfoldable pub planned_text : Option Plan → List ℕ
planned_text none = refused_text 8
planned_text (some p) = plan_text p

-- any refusal prints its number: 1 to 6 in their order, as all the room there need be is lent; then the plan or 8
unfoldable pub asked_text : Format → List ℕ → Query → List ℕ
asked_text f sailings q =
    by_verdict (λ number place. refused_text number) (planned_text (planned (decode f sailings) q)) (admission f sailings q no_room no_room)

unfoldable pub sheet_text : Format → (sailings query : List ℕ) → List ℕ
sheet_text f sailings query = asked_text f sailings (query_in query)
