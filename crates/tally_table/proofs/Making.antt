-- Making a table step by step: what each step needs, and that the steps together are the outcome. Assumes nothing.
use Prim.Native.Nat.{ℕ, ◌+◌, ◌<◌}
use mathlib.Core.Bool.{true}
use mathlib.Core.List.{List}
use mathlib.Core.Path.{◌≡◌, ap, sym, ◌∙◌}
use native.Mathlib.Numerals.{add-one}
use native.Mathlib.Omega.{arith}
use lib.ListN.{take}
use Rattle.numbers.specs.Over.{over}
use Rattle.timetable.specs.Classes.{sum}
use Rattle.tally_table.specs.Outcome.{tabled}
use Rattle.file_layout.specs.declared.Format.{Format}
use Rattle.delay_tables.specs.Rising.{shares_of_cumulative}
use Rattle.tally.specs.Tally.{count_at, counts_rule}
use Rattle.tally_table.specs.Table.{landings_tallied, greatest_late, cumulative_shares, table_of}
use Rattle.tally_table.specs.Outcome.{TableOutcome, made_of, table_outcome}
use Rattle.tally_table.specs.Fits.{TableFits, SharesFit}
use Rattle.tally_table.proofs.Sums.{first_within}
use Rattle.tally_table.proofs.Greatest.{found_within}
use Rattle.tally_table.proofs.Shares.{landings_rise}
use Rattle.tally_table.proofs.Answers.{not_made, nothing_tallied, table_made}

module _ (f : Format) (tally shares : List ℕ) (fits : TableFits f tally shares) (kept : counts_rule tally ≡ true) where
  module _ (landings : ℕ) (counted : landings ≡ sum (take (f.delay + 1) tally)) where
    tallied : landings ≡ landings_tallied f.delay tally
    tallied = counted ∙ ap (λ (n : ℕ). sum (take n tally)) (add-one f.delay)

    pub none_tallied : landings ≡ 0 → table_outcome f tally shares ≡ not_made 16 shares
    none_tallied none = nothing_tallied f tally shares kept (omega (arith, tallied))

    module _ (delay : ℕ) (found : delay ≡ greatest_late f.delay tally) (some : 0 < landings) where
      pub shares_fit : SharesFit tally landings delay shares
      shares_fit = record {
        delays = omega (arith, fits.sized, found_within f.delay tally);
        room = omega (arith, fits.room, found_within f.delay tally);
        some = some;
        among = omega (arith, tallied, landings_rise tally delay f.delay (omega (arith, found_within f.delay tally)));
        small = omega (arith, counted, first_within tally (f.delay + 1) kept, fits.limits.landings);
      }

      made : table_outcome f tally shares ≡ record { answer = made_of f tally; shares = over (table_of f.delay tally) shares }
      made = table_made f tally shares kept (omega (arith, tallied))

      pub answer_made : (standing : ℕ) → standing ≡ count_at tally (f.delay + 1) → tabled delay landings standing ≡ (table_outcome f tally shares).answer
      unfolding made_of
      answer_made standing read =
          ap (λ (d : ℕ). tabled d landings standing) found
          ∙ ap (λ (n : ℕ). tabled (greatest_late f.delay tally) n standing) tallied
          ∙ ap (tabled (greatest_late f.delay tally) (landings_tallied f.delay tally)) (read ∙ ap (count_at tally) (add-one f.delay))
          ∙ sym (ap (λ (o : TableOutcome). o.answer) made)

      pub shares_made : (put : List ℕ) → put ≡ over (shares_of_cumulative (cumulative_shares landings tally delay)) shares
          → put ≡ (table_outcome f tally shares).shares
      unfolding table_of
      shares_made put is =
          is
          ∙ ap (λ (d : ℕ). over (shares_of_cumulative (cumulative_shares landings tally d)) shares) found
          ∙ ap (λ (n : ℕ). over (shares_of_cumulative (cumulative_shares n tally (greatest_late f.delay tally))) shares) tallied
          ∙ sym (ap (λ (o : TableOutcome). o.shares) made)
