-- What the scan of the rows in reach holds, and what the cells hold of it.
use Rattle.std.specs.Prelude.{ℕ, List}
use Rattle.plans.specs.Chosen.{Scan}
use Rattle.plan_scan.specs.Scanned.{scan_in}
use Rattle.plan_scan.specs.Held.{Held}
use Rattle.plan_scan.specs.declared.reach.Reach.{Reach}

abbrev pub scan_of : Reach → Scan
scan_of r = scan_in r.sailings.file.now r.sailings.places r.goal r.first r.end

-- the rows from i on are weighed
abbrev pub HeldFrom : Reach → (i : ℕ) (w limits : List ℕ) → Type 0
HeldFrom r i w limits = Held r.sailings.file.now r.sailings.places r.goal r.first r.end i w limits
