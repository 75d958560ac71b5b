-- Document 01, "Expected arrival in ticks": the scan of the rows from row i on, and what it says of row i.
use Rattle.std.specs.Prelude.{ℕ, suc, List, drop}
use Rattle.std.proofs.Math.Option.{Option}
use Rattle.timetable.specs.Timetable.{Timetable, row_of}
use Rattle.plans.specs.Worth.{Valued}
use Rattle.plans.specs.Chosen.{Aim, Scan, scan, best_of, next_of, row_ride}

module _ (aim : Aim) (t : Timetable) where
  unfoldable pub scan_from : ℕ → Scan
  scan_from i = scan aim t.tables i (drop i t.rows)

  -- the chosen rows from row i on
  unfoldable pub chosen_from : ℕ → List Valued
  chosen_from i = (scan_from i).chosen

  -- the best ride of row i, where there is such a row
  unfoldable pub best_at : ℕ → Option Valued
  best_at i = best_of aim t.tables i (row_of t.rows i) (scan_from (suc i))

  -- the best ride of a trip's first row from row i on
  unfoldable pub next_from : ℕ → ℕ → Option Valued
  next_from i trip = next_of (scan_from i).weighed trip

  -- getting off where row i lands
  unfoldable pub off_at : ℕ → Option ℕ
  off_at i = aim.off (row_ride t.tables i (row_of t.rows i)) (chosen_from (suc i))
