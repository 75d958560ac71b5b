-- Document 02, E4: what is answered to a landing, and what the tally holds afterwards.
use Rattle.std.specs.Prelude.{ℕ, List, [], Result, Ok, Err}
use Rattle.timetable.specs.Verdict.{Verdict, or_else, unless, by_verdict, refused}
use Rattle.timetable.specs.declared.Refusal.{Refusal}
use Rattle.file_layout.specs.declared.Format.{Format}
use Rattle.file_layout.specs.Check.{Answer}
use Rattle.tally.specs.declared.Landing.{Landing}
use Rattle.tally.specs.Tally.{counts_rule, room_rule, minutes_rule, with_landing}

-- 14 a minute above the last; 15 a given count above its limit, or a landing for a count at it
unfoldable pub landing_verdict : Format → Landing → List ℕ → Verdict
landing_verdict f l tally =
    or_else (unless (minutes_rule f l) 14 0) (or_else (unless (counts_rule tally) 15 0) (unless (room_rule f.delay l tally) 15 0))

pub record TallyOutcome : Type 0 where
  pub answer : Result Unit (Refusal ℕ)
  pub tally : List ℕ

-- the landing is counted; a refusal leaves the tally unchanged
unfoldable pub landing_outcome : Format → Landing → List ℕ → TallyOutcome
landing_outcome f l tally =
    by_verdict (λ number place. record { answer = refused number place; tally = tally })
    (record { answer = Ok tt; tally = with_landing f.delay l tally }) (landing_verdict f l tally)

-- A case of an answer by document 01's number, place and values: one that is no refusal has number 0 and place 0
unfoldable pub tally_answer : Result Unit (Refusal ℕ) → Answer
tally_answer (Ok counted) = record { number = 0; place = 0; values = [] }
tally_answer (Err refusal) = record { number = refusal.number; place = refusal.place; values = [] }
