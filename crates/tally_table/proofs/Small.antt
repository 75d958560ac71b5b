-- The numbers of every answer are small. Assumes nothing.
use Prim.Native.Nat.{ℕ, suc, ◌*◌, ◌≤◌}
use mathlib.Core.Bool.{true}
use mathlib.Core.List.{List}
use mathlib.Core.Logic.{⊎_elim}
use mathlib.Core.Path.{◌≡◌, refl}
use native.Mathlib.Omega.{arith}
use Rattle.laws.proofs.Tests.{ifb}
use Rattle.std.specs.Prelude.{Result, Ok, Err}
use Rattle.std.specs.Result.{MatchResult}
use Rattle.timetable.specs.Verdict.{refused}
use Rattle.timetable.specs.declared.Refusal.{Refusal}
use Rattle.tally_table.specs.declared.Table.{Table}
use Rattle.tally_table.specs.Outcome.{tabled}
use Rattle.file_layout.specs.declared.Format.{Format}
use Rattle.tally.specs.Tally.{apart, most_count, counts_rule}
use Rattle.tally.proofs.Ends.{counts_kept, counts_broken}
use Rattle.tally_table.specs.Outcome.{table_outcome}
use Rattle.tally_table.proofs.Sums.{first_within}
use Rattle.tally_table.proofs.TableEnding.{table_ends}
use Rattle.tally_table.proofs.Endings.{table_refused, table_told}

module _ (f : Format) (tally shares : List ℕ) where
  pub refused_small : (number place : ℕ) → (table_outcome f tally shares).answer ≡ refused number place → (number ≤ 16) × (place ≤ 0)
  refused_small number place told =
      let found = table_refused (table_ends f tally shares) told in
      (⊎_elim (λ e. omega arith) (λ e. omega arith) found.1, omega (arith, found.2))

  -- a table's M, the landings that it rests on and those that stand apart
  pub table_small : (m landings standing : ℕ) → (table_outcome f tally shares).answer ≡ tabled m landings standing
      → (m ≤ f.delay) × (landings ≤ suc f.delay * most_count) × (standing ≤ most_count)
  table_small m landings standing told =
      let found = table_told (table_ends f tally shares) told in
      let stands = found.1 in
      let kept : counts_rule tally ≡ true =
      ifb (λ t. counts_rule tally ≡ t → counts_rule tally ≡ true) (counts_rule tally) (λ yes same. same)
      (λ no same. absurd (found.0 (counts_broken tally same))) refl
      in (
        stands.greatest.no_later,
        omega (arith, stands.rests_on, first_within tally (suc f.delay) kept),
        omega (arith, stands.stand_apart, counts_kept tally kept (apart f.delay)),
      )

  -- the same of whatever is answered; the first part names the outcome, for a tactic that looks for it
  pub table_fits : (table_outcome f tally shares ≡ table_outcome f tally shares)
      × MatchResult (table_outcome f tally shares).answer
      (λ table. (table.delay ≤ f.delay) × (table.landings ≤ suc f.delay * most_count) × (table.apart ≤ most_count))
      (λ refusal. (refusal.number ≤ 16) × (refusal.place ≤ 0))
  table_fits = (refl, of_answer (table_outcome f tally shares).answer refl)
    where
      of_answer : (answer : Result Table (Refusal ℕ)) → (table_outcome f tally shares).answer ≡ answer
          → MatchResult answer (λ table. (table.delay ≤ f.delay) × (table.landings ≤ suc f.delay * most_count) × (table.apart ≤ most_count))
          (λ refusal. (refusal.number ≤ 16) × (refusal.place ≤ 0))
      of_answer (Ok table) told = table_small table.delay table.landings table.apart told
      of_answer (Err refusal) told = refused_small refusal.number refusal.place told
