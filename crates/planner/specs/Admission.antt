-- Document 01, "Numbers returned on refusal": the refusals 1 to 7 in their order, for every call on a file and a query.
use Rattle.std.specs.Prelude.{ℕ, ◌+◌, ◌*◌, ◌<◌, Bool, ◌&&◌, List, ◌≡◌, leb, Result, Ok}
use Rattle.timetable.specs.Verdict.{Verdict, fine, or_else, unless, by_verdict, refused}
use Rattle.timetable.specs.declared.Refusal.{Refusal}
use Rattle.file_layout.specs.declared.Format.{Format}
use Rattle.file_layout.specs.declared.Trailer.{Trailer}
use Rattle.file_layout.specs.Decode.{trailer_of}
use Rattle.file_layout.specs.Check.{file_verdict}
use Rattle.query.specs.declared.Query.{Query}
use Rattle.query.specs.Query.{query_rule}
use Rattle.plan_rows.specs.Sections.{Plannable}
use Rattle.planner.specs.declared.Room.{Room}

-- what a room needs in a file of n rows and S stops
abbrev pub needs : Room → Trailer → ℕ
needs room h = room.perrow * h.rows + room.perstop * h.stops + room.fixed

unfoldable pub enough : Room → Trailer → Bool
enough room h = leb (needs room h) room.lent

-- work is 4n + 2,500 numbers
abbrev pub work_room : ℕ → Room
work_room lent = record { lent = lent; perrow = 4; perstop = 0; fixed = 2500 }

-- a plan slice is 3n
abbrev pub plan_room : ℕ → Room
plan_room lent = record { lent = lent; perrow = 3; perstop = 0; fixed = 0 }

-- where a call needs one room alone
abbrev pub no_room : Room
no_room = record { lent = 0; perrow = 0; perstop = 0; fixed = 0 }

-- 6, then 7, by a sound file's trailer
unfoldable pub call_verdict : Format → Trailer → Query → Room → Room → Verdict
call_verdict f h q work other =
    or_else (unless (query_rule h.stops f.lastminute q) 6 0) (unless (enough work h && enough other h) 7 0)

-- 1 to 5 as the check gives them, then 6, 7
unfoldable pub admission : Format → List ℕ → Query → Room → Room → Verdict
admission f file q work other = let behind = call_verdict f (trailer_of f file) q work other in or_else (file_verdict f file) behind

-- an admitted call goes on with the trailer; a refusal carries its number and place and nothing else
unfoldable pub admitted : Format → List ℕ → Query → Room → Room → Result Trailer (Refusal ℕ)
admitted f file q work other = by_verdict refused (Ok (trailer_of f file)) (admission f file q work other)

-- so few are needed that no sum of them wraps
pub record SmallRoom (room : Room) : Type 0 where
  pub perrow : room.perrow < 65536
  pub perstop : room.perstop < 65536
  pub fixed : room.fixed < 65536

-- a call on a file of a version that can be planned in, admitted, with the file's trailer
pub record Admits (f : Format) (file : List ℕ) (trailer : Trailer) (q : Query) (work other : Room) : Type 0 where
  pub plannable : Plannable f
  pub fine_call : admission f file q work other ≡ fine
  pub read : trailer ≡ trailer_of f file
