-- Document 01, "The sailing file": the rules of a row about itself alone (4), of departures and of its trip (5).
use Rattle.std.specs.Prelude.{ℕ, suc, Bool, true, cond, not, ◌&&◌, List, [], ◌∷◌, ltb, leb, eqb}
use Rattle.std.proofs.Math.Option.{Option, none, some}
use Rattle.timetable.specs.declared.Row.{Row}
use Rattle.timetable.specs.declared.Ranges.{Ranges}
use Rattle.timetable.specs.Limits.{most_trips}
use Rattle.timetable.specs.Verdict.{Verdict, fine, or_else, unless}

-- Stops are below S and differ; departure is less than arrival; both are minutes of the seven days; trip is below 2,000; class is below K
unfoldable pub own_rule : Ranges → Row → Bool
own_rule g r =
    ltb r.board g.stops && ltb r.land g.stops && not (eqb r.board r.land)
    && ltb r.departure r.arrival && leb r.departure g.lastminute && leb r.arrival g.lastminute
    && ltb r.trip most_trips && ltb r.class g.classes

-- Departures never fall from row to row; `back` is the rows behind, nearest first
unfoldable pub departure_rule : List Row → Row → Bool
departure_rule [] r = true
departure_rule (p ∷ back) r = leb p.departure r.departure

-- The nearest earlier row of the same trip, found by looking back and stopping at the first
unfoldable pub last_of_trip : ℕ → List Row → Option Row
last_of_trip trip [] = none
last_of_trip trip (p ∷ back) = let further = last_of_trip trip back in cond (eqb p.trip trip) (some p) further

-- it must land at this row's boarding stop, no later than its departure
unfoldable pub follows : Option Row → Row → Bool
follows none r = true
follows (some p) r = eqb p.land r.board && leb p.arrival r.departure

unfoldable pub trip_rule : List Row → Row → Bool
trip_rule back r = follows (last_of_trip r.trip back) r

-- 4 before 5, at the row's own place
unfoldable pub row_verdict : Ranges → List Row → ℕ → Row → Verdict
row_verdict g back i r = or_else (unless (own_rule g r) 4 i) (unless (departure_rule back r && trip_rule back r) 5 i)

-- row by row: both tests of a row come before the next row
unfoldable pub rows_verdict : Ranges → List Row → ℕ → List Row → Verdict
rows_verdict g back i [] = fine
rows_verdict g back i (r ∷ rows) = let later = rows_verdict g (r ∷ back) (suc i) rows in or_else (row_verdict g back i r) later
