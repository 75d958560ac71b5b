-- What the call for a table returns, for every tally and lent numbers, over its contract. Assumes nothing.
use Prim.Native.Nat.{ℕ, suc, ◌+◌, ◌≤◌}
use mathlib.Core.List.{List, [], ◌∷◌, ◌++◌}
use mathlib.Core.Logic.{◌↔◌, ◌⊎◌}
use mathlib.Core.Path.{◌≡◌, ap, sym, subst, ◌∙◌}
use native.Mathlib.Omega.{arith}
use lib.ListN.{length, take, drop}
use contract.Lifetimes.{Lfts}
use denote.Triple.Clauses.{AtExit}
use borrow.Fn.Kinds.{Dens, res_t, ended_of}
use Rattle.timetable.specs.Verdict.{fine}
use Rattle.timetable.specs.Verdict.{refused}
use Rattle.tally_table.specs.Outcome.{tabled}
use Rattle.file_layout.specs.Check.{class_verdict}
use Rattle.file_layout.specs.Decode.{table_at}
use Rattle.file_layout.specs.Format.{version_one}
use Rattle.file_encoding.specs.Encode.{table_bytes}
use Rattle.tally_table.specs.Outcome.{table_answer, table_outcome}
use Rattle.tally.specs.Returned.{CountAbove}
use Rattle.tally_table.specs.Returned.{NoneTallied, TableStands, TableEnds}
use Rattle.tally_table.proofs.Accepted.{stands_accepted}
use Rattle.tally_table.proofs.TableEnding.{table_ends, table_in_room}
use Rattle.tally_table.proofs.Endings.{table_refused, above_told, nothing_told, table_told, above_answered, nothing_answered, table_answered}
use Rattle.tally_table.proofs.table_of.Kinds as kinds
use Rattle.tally_table.proofs.table_of.Reads as reads

-- whatever answer and numbers the contract permits
module _ (κs : Lfts 2) (arguments : Dens κs kinds.ps) (answer : (res_t kinds.r κs).Denot) (ending : AtExit (ended_of 2 kinds.ps kinds.r) κs)
    (permitted : reads.Post κs arguments answer ending) where
  abbrev tally : List ℕ
  tally = arguments.0.now

  abbrev shares : List ℕ
  shares = arguments.1.0.now

  abbrev shares' : List ℕ
  shares' = ending.1.0.now

  ends : TableEnds version_one tally shares answer shares'
  ends =
      subst (λ s. TableEnds version_one tally shares answer s) (sym permitted.1)
      (subst (λ a. TableEnds version_one tally shares a (table_outcome version_one tally shares).shares) (sym permitted.0) (table_ends version_one tally shares))

  -- 15 exactly if a given count is above 1,000,000, the apart one included
  pub fifteen_exactly : (answer ≡ refused 15 0) ↔ CountAbove tally
  fifteen_exactly = (above_told ends, above_answered ends)

  -- 16 exactly if none is and no landing is 0 to 120 minutes late, whatever stands apart
  pub sixteen_exactly : (answer ≡ refused 16 0) ↔ ((CountAbove tally → ⊥) × NoneTallied 120 tally)
  sixteen_exactly = (nothing_told ends, λ none. nothing_answered ends none.0 none.1)

  -- otherwise a table
  pub else_a_table : (CountAbove tally → ⊥) → (NoneTallied 120 tally → ⊥) → (m landings standing : ℕ) × (answer ≡ tabled m landings standing)
  else_a_table kept some = table_answered ends kept some

  -- a refusal is one of the two, at place 0, and leaves the numbers lent
  pub refuses : (number place : ℕ) → answer ≡ refused number place → (shares' ≡ shares) × ((number ≡ 15) ⊎ (number ≡ 16)) × (place ≡ 0)
  refuses number place told = table_refused ends told

  -- a table is as document 02 says it: M, the landings that it rests on, those that stand apart, and its shares; other numbers stay
  pub table_stands : (m landings standing : ℕ) → answer ≡ tabled m landings standing → TableStands version_one tally shares shares' m landings standing
  table_stands m landings standing told = (table_told ends told).1

  pub same_length : length shares ≡ 121 → length shares' ≡ length shares
  same_length room = ap length permitted.1 ∙ table_in_room version_one tally shares room

  -- the check accepts it: in whatever file its block stands, ahead of where the blocks must end, the class has no fault
  pub check_accepts : (m landings standing : ℕ) → answer ≡ tabled m landings standing
      → (file rest : List ℕ) (end class at : ℕ) → drop at file ≡ table_bytes (take (suc m) shares') ++ rest
      → at + length (table_bytes (take (suc m) shares')) ≤ end
      → (class_verdict version_one file end class at ≡ fine) × (table_at file at ≡ take (suc m) shares')
  check_accepts m landings standing told file rest end class at there inside =
      stands_accepted (table_stands m landings standing told) (omega arith) file rest end class at there inside

  -- answered by number 0, place 0 and three values
  pub table_by_number : (m landings standing : ℕ) → answer ≡ tabled m landings standing
      → table_answer answer ≡ record { number = 0; place = 0; values = m ∷ landings ∷ standing ∷ [] }
  unfolding table_answer
  table_by_number m landings standing told = ap table_answer told
