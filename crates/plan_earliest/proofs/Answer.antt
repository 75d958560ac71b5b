-- From the start on, the target's cell comes to be the earliest safe arrival. Uses what a sound file gives a planner.
use Prim.Native.Nat.{ℕ, ◌<◌}
use mathlib.Core.List.{List}
use mathlib.Core.Logic.{◌≢◌}
use mathlib.Core.Path.{◌≡◌}
use Rattle.plans.specs.Journeys.{ready_at}
use Rattle.plans.specs.Plan.{earliest}
use Rattle.plan_cells.specs.Cells.{missing}
use Rattle.plan_rows.specs.declared.sailings.Sailings.{Sailings}
use Rattle.plan_rows.specs.Sailings.{rows_of, timetable_of}
use Rattle.plan_rows.specs.Reading.{Cut}
use Rattle.query.specs.declared.Query.{Query}
use Rattle.std.specs.Prelude.{None, Some}
use Rattle.plan_earliest.specs.Arrival.{arrival}
use Rattle.plan_earliest.specs.Swept.{Swept, EarliestReached}
use Rattle.plan_earliest.proofs.Final.{SetOut, sets_sail, none_arrives, cell_arrives}
use Rattle.plan_earliest.proofs.InFile.{seaworthy}

module _
    (sailings : Sailings)
    (q : Query)
    (first : ℕ)
    (apart : q.source ≢ q.target)
    (small : q.minute < 65536)
    (cut : Cut (rows_of sailings) (ready_at q) first)
    {start : List ℕ}
    (out : SetOut q.source q.minute start)
    {answer : ℕ}
    (found :
    Swept (timetable_of sailings) q.gate q.source q.minute first start
    → EarliestReached (timetable_of sailings) q.gate q.source q.minute q.target answer)
  where
    swept : EarliestReached (timetable_of sailings) q.gate q.source q.minute q.target answer
    swept = found (sets_sail (timetable_of sailings) (seaworthy sailings.file.now sailings.places sailings.readable) q.gate q.source q.minute first cut out)

    pub answers_none : answer ≡ missing → None ≡ arrival (earliest (timetable_of sailings) q)
    answers_none e = none_arrives (timetable_of sailings) (seaworthy sailings.file.now sailings.places sailings.readable) q apart small swept e

    pub answers_some : (answer ≡ missing → ⊥) → Some answer ≡ arrival (earliest (timetable_of sailings) q)
    answers_some real = cell_arrives (timetable_of sailings) (seaworthy sailings.file.now sailings.places sailings.readable) q apart small swept real
