-- The making of a table ends in one of three ways. Assumes nothing.
use Prim.Native.Nat.{ℕ, zero, suc, pred, ◌+◌, ◌<◌, ◌≤◌}
use mathlib.Core.List.{List}
use mathlib.Core.Path.{◌≡◌, refl, ap, sym, subst, ◌∙◌}
use native.Mathlib.Omega.{arith}
use lib.Dec.{ltb}
use lib.ListN.{length, get_or, take, drop, length-append, length-drop}
use lib.Seq.{take_at, drop_at}
use borrow.Author.Tests.{ltb-true, ltb-false}
use Rattle.laws.proofs.Tests.{ifb}
use Rattle.numbers.specs.Over.{over}
use Rattle.timetable.specs.Timetable.{maximum_delay}
use Rattle.file_layout.specs.declared.Format.{Format}
use Rattle.delay_tables.specs.Rising.{MadeOf, cumulative_of_shares}
use Rattle.tally.specs.Tally.{apart, count_at, counts_rule}
use Rattle.tally_table.specs.Table.{landings_tallied, cumulative_shares, greatest_late, table_of}
use Rattle.tally_table.specs.Outcome.{TableOutcome, made_of, table_outcome}
use Rattle.tally_table.specs.Returned.{NoneTallied, TableStands, TableEnds, above, nothing, table}
use Rattle.tally_table.proofs.Shares.{sum_more, landings_rise, first_landings}
use Rattle.tally_table.proofs.Greatest.{found_greatest, found_within}
use Rattle.tally_table.proofs.Tables.{cumulative_length, cumulative_at, table_accepted}
use Rattle.tally.proofs.Ends.{none_above, counts_broken}
use Rattle.tally_table.proofs.Answers.{counts_refused, nothing_tallied, table_made}

-- a tally whose landings sum to nothing has none at any lateness
pub none_at : (top : ℕ) (tally : List ℕ) → landings_tallied top tally ≤ 0 → NoneTallied top tally
none_at top tally none zero inside = omega (arith, first_landings tally, landings_rise tally 0 top inside)
none_at top tally none (suc x) inside = omega (arith, sum_more tally (suc x), landings_rise tally (suc x) top inside)

module _ (f : Format) (tally shares : List ℕ) (some : 0 < landings_tallied f.delay tally) where
  abbrev m : ℕ
  m = greatest_late f.delay tally

  made : MadeOf (cumulative_shares (landings_tallied f.delay tally) tally m) (table_of f.delay tally)
  made = table_accepted f.delay tally some

  -- M + 1 shares
  many : length (table_of f.delay tally) ≡ suc m
  many = made.one_each ∙ cumulative_length (landings_tallied f.delay tally) tally m

  first_shares : take (suc m) (over (table_of f.delay tally) shares) ≡ table_of f.delay tally
  first_shares = take_at (table_of f.delay tally) (drop (length (table_of f.delay tally)) shares) (suc m) many

  table_stands : TableStands f tally shares (over (table_of f.delay tally) shares) m (landings_tallied f.delay tally) (count_at tally (apart f.delay))
  table_stands = record {
    greatest = found_greatest f.delay tally some;
    rests_on = refl;
    some = some;
    stand_apart = refl;
    made = subst (MadeOf (cumulative_shares (landings_tallied f.delay tally) tally m)) (sym first_shares) made;
    cumulative = λ x inside.
        ap (λ (l : List ℕ). get_or (cumulative_of_shares l) x 0) first_shares
        ∙ ap (λ (l : List ℕ). get_or l x 0) made.sums_back ∙ cumulative_at (landings_tallied f.delay tally) tally m x inside;
    maximum = ap maximum_delay first_shares ∙ ap pred many;
    others =
        drop_at (table_of f.delay tally) (drop (length (table_of f.delay tally)) shares) (suc m) many
        ∙ ap (λ (n : ℕ). drop n shares) many;
  }

pub table_ends : (f : Format) (tally shares : List ℕ)
    → TableEnds f tally shares (table_outcome f tally shares).answer (table_outcome f tally shares).shares
unfolding made_of
table_ends f tally shares =
    ifb (λ t. counts_rule tally ≡ t → Ends) (counts_rule tally)
    (λ kept same.
    ifb (λ t. ltb 0 landings ≡ t → Ends) (ltb 0 landings)
    (λ any again. by (table_made f tally shares same (ltb-true 0 landings again))
    (table (none_above tally same) (table_stands f tally shares (ltb-true 0 landings again))))
    (λ none again. by (nothing_tallied f tally shares same (ltb-false 0 landings again))
    (nothing (none_above tally same) (none_at f.delay tally (ltb-false 0 landings again)))) refl)
    (λ broken same. by (counts_refused f tally shares same) (above (counts_broken tally same))) refl
  where
    Ends : Type 0
    Ends = TableEnds f tally shares (table_outcome f tally shares).answer (table_outcome f tally shares).shares

    landings : ℕ
    landings = landings_tallied f.delay tally

    by : {o : TableOutcome} → table_outcome f tally shares ≡ o → TableEnds f tally shares o.answer o.shares → Ends
    by told ends = subst (λ (o : TableOutcome). TableEnds f tally shares o.answer o.shares) (sym told) ends

-- as many numbers as there were, where there is room for the longest table
pub table_in_room : (f : Format) (tally shares : List ℕ) → length shares ≡ suc f.delay → length (table_outcome f tally shares).shares ≡ length shares
table_in_room f tally shares room =
    ifb (λ t. counts_rule tally ≡ t → Kept) (counts_rule tally)
    (λ kept same.
    ifb (λ t. ltb 0 landings ≡ t → Kept) (ltb 0 landings)
    (λ any again. by (table_made f tally shares same (ltb-true 0 landings again)) (within (ltb-true 0 landings again)))
    (λ none again. by (nothing_tallied f tally shares same (ltb-false 0 landings again)) refl) refl)
    (λ broken same. by (counts_refused f tally shares same) refl) refl
  where
    Kept : Type 0
    Kept = length (table_outcome f tally shares).shares ≡ length shares

    landings : ℕ
    landings = landings_tallied f.delay tally

    by : {o : TableOutcome} → table_outcome f tally shares ≡ o → length o.shares ≡ length shares → Kept
    by told kept = ap (λ (o : TableOutcome). length o.shares) told ∙ kept

    within : 0 < landings → length (over (table_of f.delay tally) shares) ≡ length shares
    within some =
        length-append (table_of f.delay tally) (drop (length (table_of f.delay tally)) shares)
        ∙ (let whole : length (table_of f.delay tally) + length (drop (length (table_of f.delay tally)) shares) ≡ length shares =
        omega (arith, length-drop (length (table_of f.delay tally)) shares, many f tally shares some, found_within f.delay tally, room) in whole)
