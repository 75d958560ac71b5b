-- Document 02, E4: what is answered to a tally whose table is asked for, and what the numbers lent hold afterwards.
use Rattle.std.specs.Prelude.{ℕ, List, [], ◌∷◌, ltb, Result, Ok, Err}
use Rattle.numbers.specs.Over.{over}
use Rattle.timetable.specs.Verdict.{Verdict, or_else, unless, by_verdict, refused}
use Rattle.timetable.specs.declared.Refusal.{Refusal}
use Rattle.file_layout.specs.declared.Format.{Format}
use Rattle.file_layout.specs.Check.{Answer}
use Rattle.tally.specs.Tally.{apart, count_at, counts_rule}
use Rattle.tally_table.specs.declared.Table.{Table}
use Rattle.tally_table.specs.Table.{landings_tallied, greatest_late, table_of}

-- 15 a given count, the apart one included, above its limit; 16 nothing tallied, also if landings stand apart
unfoldable pub table_verdict : Format → List ℕ → Verdict
table_verdict f tally = or_else (unless (counts_rule tally) 15 0) (unless (ltb 0 (landings_tallied f.delay tally)) 16 0)

pub record TableOutcome : Type 0 where
  pub answer : Result Table (Refusal ℕ)
  pub shares : List ℕ

-- a table as it is answered: M, the landings that it rests on, and those that stand apart
abbrev pub tabled : (m landings standing : ℕ) → Result Table (Refusal ℕ)
tabled m landings standing = Ok (record { delay = m; landings = landings; apart = standing })

-- M, the landings tallied and the apart count, which is answered beside them
unfoldable pub made_of : Format → List ℕ → Result Table (Refusal ℕ)
made_of f tally = tabled (greatest_late f.delay tally) (landings_tallied f.delay tally) (count_at tally (apart f.delay))

-- the table's shares go to the first numbers lent, and the others stay; a refusal leaves all of them
unfoldable pub table_outcome : Format → (tally shares : List ℕ) → TableOutcome
table_outcome f tally shares =
    by_verdict (λ number place. record { answer = refused number place; shares = shares })
    (record { answer = made_of f tally; shares = over (table_of f.delay tally) shares }) (table_verdict f tally)

-- A case of an answer by document 01's number, place and values: one that is no refusal has number 0 and place 0
unfoldable pub table_answer : Result Table (Refusal ℕ) → Answer
table_answer (Ok made) = record { number = 0; place = 0; values = made.delay ∷ made.landings ∷ made.apart ∷ [] }
table_answer (Err refusal) = record { number = refusal.number; place = refusal.place; values = [] }
