-- Document 01, "Numbers returned on refusal": the booking desk's answer and its bytes afterwards, for every version, file, query and room.
use Rattle.std.specs.Prelude.{ℕ, ◌+◌, List, [], ◌∷◌, ◌++◌, length}
use Rattle.std.proofs.Math.Option.{Option, none, some}
use Rattle.timetable.specs.Verdict.{by_verdict}
use Rattle.file_layout.specs.declared.Format.{Format}
use Rattle.file_layout.specs.Decode.{decode}
use Rattle.numbers.specs.Numbers.{u32_bytes}
use Rattle.numbers.specs.Over.{over}
use Rattle.query.specs.declared.Query.{Query}
use Rattle.plans.specs.Plan.{Plan, planned}
use Rattle.plans.specs.Worth.{Valued}
use Rattle.planner.specs.Admission.{no_room, admission}
use Rattle.planner.specs.declared.Room.{Room}

-- its answer, and what its bytes hold afterwards
pub record DeskOutcome : Type 0 where
  pub answer : ℕ
  pub bytes : List ℕ

-- 10,000 plus the refusal; no byte changes
abbrev pub refusals : ℕ
refusals = 10000

abbrev pub refused : ℕ → List ℕ → DeskOutcome
refused number out = record { answer = refusals + number; bytes = out }

-- The plan goes to its bytes as little-endian u32, 12 bytes a ride: boarding row, leaving row, worth
unfoldable pub ride_bytes : Valued → List ℕ
ride_bytes v = u32_bytes v.ride.board ++ (u32_bytes v.ride.leave ++ u32_bytes v.worth)

unfoldable pub plan_bytes : List Valued → List ℕ
plan_bytes [] = []
plan_bytes (v ∷ rides) = ride_bytes v ++ plan_bytes rides

-- the ride count, or 8; other bytes stay
unfoldable pub desk_answered : Option Plan → List ℕ → DeskOutcome
desk_answered none out = refused 8 out
desk_answered (some p) out = record { answer = length p.rides; bytes = over (plan_bytes p.rides) out }

-- 12n bytes
abbrev pub byte_room : ℕ → Room
byte_room lent = record { lent = lent; perrow = 12; perstop = 0; fixed = 0 }

-- refusals 1 to 7 in their order, room below 12n being 7; then the plan or 8
unfoldable pub desk_outcome : Format → List ℕ → Query → List ℕ → DeskOutcome
desk_outcome f file q out =
    by_verdict (λ number place. refused number out) (desk_answered (planned (decode f file) q) out)
    (admission f file q no_room (byte_room (length out)))
