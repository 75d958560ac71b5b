-- Document 01, "Numbers returned on refusal": what a step of the check answers, by its verdict.
use Rattle.std.specs.Prelude.{ℕ, Result, Ok}
use Rattle.timetable.specs.Verdict.{Verdict, by_verdict, refused}
use Rattle.timetable.specs.declared.Refusal.{Refusal}

-- what was read is handed on where there is no fault; a fault is its number and place
abbrev pub read_by : {A : Type 0} → A → Verdict → Result A (Refusal ℕ)
read_by read v = by_verdict refused (Ok read) v
