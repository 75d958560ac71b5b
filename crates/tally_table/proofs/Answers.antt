-- What is answered to a tally, rule by rule. Assumes nothing.
use Prim.Native.Nat.{ℕ, ◌<◌, ◌≤◌}
use mathlib.Core.Bool.{true, false}
use mathlib.Core.List.{List}
use mathlib.Core.Path.{◌≡◌}
use borrow.Author.Tests.{lt-ltb, le-ltb}
use Rattle.numbers.specs.Over.{over}
use Rattle.timetable.specs.Verdict.{refused}
use Rattle.file_layout.specs.declared.Format.{Format}
use Rattle.tally.specs.Tally.{counts_rule}
use Rattle.tally_table.specs.Table.{landings_tallied, table_of}
use Rattle.tally_table.specs.Outcome.{TableOutcome, table_verdict, made_of, table_outcome}

-- a tally of which no table is made leaves the numbers lent
abbrev pub not_made : (number : ℕ) → List ℕ → TableOutcome
not_made number shares = record { answer = refused number 0; shares = shares }

module _ (f : Format) (tally shares : List ℕ) where
  pub counts_refused : counts_rule tally ≡ false → table_outcome f tally shares ≡ not_made 15 shares
  unfolding table_outcome table_verdict
  counts_refused above = simp above

  pub nothing_tallied : counts_rule tally ≡ true → landings_tallied f.delay tally ≤ 0 → table_outcome f tally shares ≡ not_made 16 shares
  unfolding table_outcome table_verdict
  nothing_tallied kept none = simp (kept, le-ltb 0 (landings_tallied f.delay tally) none)

  pub table_made : counts_rule tally ≡ true → 0 < landings_tallied f.delay tally
      → table_outcome f tally shares ≡ record { answer = made_of f tally; shares = over (table_of f.delay tally) shares }
  unfolding table_outcome table_verdict
  table_made kept some = simp (kept, lt-ltb 0 (landings_tallied f.delay tally) some)
