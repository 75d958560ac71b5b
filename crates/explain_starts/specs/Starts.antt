-- The last minute at which a safe journey to a target can be started from a stop.
use Rattle.std.specs.Prelude.{ℕ, ◌+◌, ◌*◌, ◌≤◌, ◌<◌, Bool, true, false, List, ◌≡◌, length, Option, Some, None, Ok}
use Rattle.timetable.specs.Timetable.{Timetable}
use Rattle.file_layout.specs.declared.Format.{Format}
use Rattle.file_layout.specs.declared.Trailer.{Trailer}
use Rattle.file_layout.specs.Check.{checked_as}
use Rattle.query.specs.Query.{plain_query, with_gate, QueryFits}
use Rattle.plans.specs.Journeys.{Journey}
use Rattle.plan_rows.specs.Sections.{Plannable}

-- there is a safe journey with a gate time from `source`, at or after `minute`, to `target`
abbrev pub Starts : Timetable → (source target gate minute : ℕ) → Type 0
Starts t source target gate minute = (end : ℕ) × Journey t (with_gate gate (plain_query source target minute)) end

-- of the minutes 0 to `last`: the last at which there is one, or that there is none at any of them
pub data LastStart (t : Timetable) (source target gate last : ℕ) : Option ℕ → Type 0 where
  until :
      {minute : ℕ} → minute ≤ last → Starts t source target gate minute
      → ((later : ℕ) → minute < later → later ≤ last → Starts t source target gate later → ⊥) → LastStart t source target gate last (Some minute)
  never : ((minute : ℕ) → minute ≤ last → Starts t source target gate minute → ⊥) → LastStart t source target gate last None

-- an answer that is true exactly where there is one
pub record Tells (there : Type 0) (answer : Bool) : Type 0 where
  pub yes : answer ≡ true → there
  pub no : answer ≡ false → there → ⊥

-- a sound file of a version that can be planned in, by its trailer; two of its stops that differ; a gate time that keeps its rule; work of at least 4n + 2,500 numbers
pub record StartFits (f : Format) (file : List ℕ) (trailer : Trailer) (source target gate : ℕ) (work : List ℕ) : Type 0 where
  pub plannable : Plannable f
  pub sound : checked_as f file ≡ Ok trailer
  pub fits : QueryFits trailer.stops f.lastminute (with_gate gate (plain_query source target 0))
  pub room : 4 * trailer.rows + 2500 ≤ length work
