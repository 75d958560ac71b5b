use Prim.Native.Nat.{ℕ, ◌-◌, ◌≤◌, ◌<◌}
use Rattle.timetable.specs.Timetable.{row_of}
use Rattle.plan_rows.specs.Sailings.{rows_of}
use Rattle.plan_rows.proofs.sailings.Sailings.rows_before.Given as goal

abbrev pub invariant-loop-low : goal.invariant-loop-low
invariant-loop-low l =
    (l.low ≤ l.high) × (l.high ≤ l.self.places.rows)
    × ((i : ℕ) → i < l.low → (row_of (rows_of l.self) i).departure < l.minute)
    × ((i : ℕ) → l.high ≤ i → i < l.self.places.rows → l.minute ≤ (row_of (rows_of l.self) i).departure)

abbrev pub decreases-loop-low : goal.decreases-loop-low
decreases-loop-low l = l.high - l.low
