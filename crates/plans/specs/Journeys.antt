-- Document 01, "Rides, safe journeys, plans", and document 02, E3: a safe journey, the earliest safe arrival E and the bound.
use Rattle.std.specs.Prelude.{ℕ, ◌+◌, ◌-◌, ◌*◌, ◌/◌, ◌≤◌, Bool, cond, ◌||◌, ◌⊎◌, ◌≡◌, T, leb, eqb}
use Rattle.timetable.specs.Timetable.{Timetable}
use Rattle.query.specs.declared.Query.{Query}
use Rattle.query.specs.Query.{fewest_quarters}
use Rattle.plans.specs.declared.Goal.{Goal}
use Rattle.plans.specs.Rides.{Ride, IsRide, lands_by, ready, boards}

-- a safe journey that goes on from ride r and whose last ride has a + M = end: the last one leaves at the target;
-- each next ride boards where the last one landed, at or after a + M + g
pub data Onward (t : Timetable) (gate target : ℕ) : Ride → ℕ → Type 0 where
  leaves : {r : Ride} → IsRide t r → r.to ≡ target → Onward t gate target r (lands_by r)
  changes :
      {r next : Ride} {end : ℕ} → IsRide t r → T (boards next r.to (ready gate (lands_by r))) → Onward t gate target next end
      → Onward t gate target r end

-- row i begins a safe journey to the target
abbrev pub Begins : Timetable → (gate target i : ℕ) → Type 0
Begins t gate target i = (r : Ride) × (end : ℕ) × (r.board ≡ i) × Onward t gate target r end

-- when one who stands at the source at query minute T is ready to board
abbrev pub ready_at : Query → ℕ
ready_at q = ready q.gate q.minute

-- A safe journey boards first at the source, at or after query minute T plus g
pub record Journey (t : Timetable) (q : Query) (end : ℕ) : Type 0 where
  pub first : Ride
  pub in_time : T (boards first q.source (ready_at q))
  pub onward : Onward t q.gate q.target first end

-- The earliest safe arrival E is the least a + M of a last ride
pub record IsEarliest (t : Timetable) (q : Query) (e : ℕ) : Type 0 where
  pub reached : Journey t q e
  pub least : (end : ℕ) → Journey t q end → e ≤ end

-- Bound code q is 0 (no bound) or counts quarters, of which four reach E
abbrev pub CodeStands : ℕ → Type 0
CodeStands code = (code ≡ 0) ⊎ (fewest_quarters ≤ code)

-- The bound is T + q(E − T)/4 rounded down; 0 stands for no bound
abbrev pub bound_of : Query → ℕ → ℕ
bound_of q e = cond (eqb q.code 0) 0 (q.minute + q.code * (e - q.minute) / 4)

-- what a query aims at, within a bound
abbrev pub goal_of : Query → (bound : ℕ) → Goal
goal_of q bound = record { target = q.target; bound = bound; margin = q.margin; gate = q.gate }

-- a minute is within the bound
abbrev pub within : ℕ → ℕ → Bool
within bound minute = eqb bound 0 || leb minute bound
