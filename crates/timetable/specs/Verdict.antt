-- Document 01, "Numbers returned on refusal": the first fault, by its number and its place.
use Rattle.std.specs.Prelude.{ℕ, Bool, true, false, Result, Ok, Err}
use Rattle.timetable.specs.declared.Refusal.{Refusal}

pub data Verdict : Type 0 where
  fine : Verdict
  fault : (number place : ℕ) → Verdict

-- the first of two that is a fault
abbrev pub or_else : Verdict → Verdict → Verdict
or_else fine later = later
or_else (fault number place) later = fault number place

-- a rule that holds is fine; broken, it is this fault
abbrev pub unless : Bool → ℕ → ℕ → Verdict
unless true number place = fine
unless false number place = fault number place

-- what is answered by a verdict: a fault by its number and place, or what there is to answer without one
abbrev pub by_verdict : {A : Type 0} → (ℕ → ℕ → A) → A → Verdict → A
by_verdict refused answered fine = answered
by_verdict refused answered (fault number place) = refused number place

-- a refusal of what was to be answered
abbrev pub refused : {A : Type 0} → (number place : ℕ) → Result A (Refusal ℕ)
refused number place = Err (record { number = number; place = place })

-- the fault that an answer tells
abbrev pub told_fault : {A : Type 0} → Result A (Refusal ℕ) → Verdict
told_fault (Ok answered) = fine
told_fault (Err refusal) = fault refusal.number refusal.place
