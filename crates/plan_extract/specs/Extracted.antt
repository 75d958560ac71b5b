-- Document 01, "Expected arrival in ticks": the rides of a plan, from its first row on.
use Rattle.std.specs.Prelude.{ℕ, ◌≤◌, ◌<◌, List, ◌≡◌}
use Rattle.std.proofs.Math.Option.{some}
use Rattle.timetable.specs.Limits.{most_stops}
use Rattle.plans.specs.Worth.{Valued, first_open}
use Rattle.plans.specs.Plan.{up_to, extract}
use Rattle.plans.specs.declared.Goal.{Goal}
use Rattle.plan_rows.specs.declared.SectionPlaces.{SectionPlaces}
use Rattle.plan_scan.specs.declared.reach.Reach.{Reach}
use Rattle.plan_scan.specs.Scanned.{scan_in, ScanHeld}

-- the first chosen ride that one who is ready at a stop at a minute can board: it boards at row `boarding`
pub record FirstRide (chosen : List Valued) (boarding : ℕ) : Type 0 where
  pub stop : ℕ
  pub minute : ℕ
  pub ride : Valued
  pub stop_inside : stop < most_stops
  pub is_first : first_open chosen stop minute ≡ some ride
  pub boards_at : ride.ride.board ≡ boarding

-- that ride, and what it leads to
abbrev pub plan_from : (gate target : ℕ) {chosen : List Valued} {boarding : ℕ} → FirstRide chosen boarding → List Valued
plan_from gate target {chosen} f = extract gate target (up_to f.stop f.minute (some f.ride)) chosen

-- the cells after the scan of the rows from some row to before `end`, and the first ride of a plan among those chosen there
pub record PlanAhead (file : List ℕ) (s : SectionPlaces) (goal : Goal) (boarding end : ℕ) (work : List ℕ) : Type 0 where
  pub first : ℕ
  pub ordered : first ≤ end
  pub held : ScanHeld work s.rows first end (scan_in file s goal first end)
  pub begins : FirstRide (scan_in file s goal first end).chosen boarding

-- the rides of that plan
abbrev pub rides_ahead :
    {file : List ℕ} {s : SectionPlaces} {goal : Goal} {boarding end : ℕ} {work : List ℕ} → PlanAhead file s goal boarding end work → List Valued
rides_ahead {goal = goal} p = plan_from goal.gate goal.target p.begins

-- the plan whose first row is `boarding`, among those in reach
abbrev pub PlanFrom : Reach → (boarding : ℕ) (work : List ℕ) → Type 0
PlanFrom r boarding work = PlanAhead r.sailings.file.now r.sailings.places r.goal boarding r.end work
