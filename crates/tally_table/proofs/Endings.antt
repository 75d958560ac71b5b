-- What an ending tells of the answer, and the answer of the ending. Assumes nothing.
use Prim.Native.Nat.{ℕ}
use mathlib.Core.List.{List}
use mathlib.Core.Logic.{◌⊎◌, inl, inr}
use mathlib.Core.Path.{◌≡◌, refl, sym, ap, subst}
use native.Mathlib.Omega.{arith}
use Rattle.std.specs.Prelude.{Result}
use Rattle.timetable.specs.Verdict.{refused}
use Rattle.timetable.specs.declared.Refusal.{Refusal}
use Rattle.tally_table.specs.declared.Table.{Table}
use Rattle.tally_table.specs.Outcome.{tabled, table_answer}
use Rattle.file_layout.specs.declared.Format.{Format}
use Rattle.tally.specs.Returned.{CountAbove}
use Rattle.tally.proofs.Endings.{never, same_refusal}
use Rattle.tally_table.specs.Returned.{NoneTallied, TableStands, TableEnds}
use Rattle.tally_table.specs.Returned as ways

-- one table has one M, rests on so many landings, and has so many apart
same_table : {m landings standing n others apart : ℕ} → tabled m landings standing ≡ tabled n others apart
    → (m ≡ n) × (landings ≡ others) × (standing ≡ apart)
unfolding table_answer
same_table told = let same = ap (λ answer. (table_answer answer).values) told in (cc, cc, cc)

module _ {f : Format} {tally shares : List ℕ} where
  -- a refusal is 15 or 16 at place 0, and the numbers lent are unchanged
  pub table_refused : {answer : Result Table (Refusal ℕ)} {shares' : List ℕ} {number place : ℕ} → TableEnds f tally shares answer shares'
      → answer ≡ refused number place → (shares' ≡ shares) × ((number ≡ 15) ⊎ (number ≡ 16)) × (place ≡ 0)
  table_refused (ways.above high) told = let same = same_refusal told in (refl, inl (sym same.0), sym same.1)
  table_refused (ways.nothing kept none) told = let same = same_refusal told in (refl, inr (sym same.0), sym same.1)
  table_refused (ways.table kept stands) told = never (cc)

  pub above_told : {answer : Result Table (Refusal ℕ)} {shares' : List ℕ} {place : ℕ} → TableEnds f tally shares answer shares' → answer ≡ refused 15 place
      → CountAbove tally
  above_told (ways.above high) told = high
  above_told (ways.nothing kept none) told = absurd (omega (arith, same_refusal told))
  above_told (ways.table kept stands) told = never (cc)

  pub nothing_told : {answer : Result Table (Refusal ℕ)} {shares' : List ℕ} {place : ℕ} → TableEnds f tally shares answer shares' → answer ≡ refused 16 place
      → (CountAbove tally → ⊥) × NoneTallied f.delay tally
  nothing_told (ways.above high) told = absurd (omega (arith, same_refusal told))
  nothing_told (ways.nothing kept none) told = (kept, none)
  nothing_told (ways.table kept stands) told = never (cc)

  pub table_told : {answer : Result Table (Refusal ℕ)} {shares' : List ℕ} {m landings standing : ℕ} → TableEnds f tally shares answer shares'
      → answer ≡ tabled m landings standing → (CountAbove tally → ⊥) × TableStands f tally shares shares' m landings standing
  table_told (ways.above high) told = never (cc)
  table_told (ways.nothing kept none) told = never (cc)
  table_told {shares' = shares'} (ways.table kept stands) told =
      let same = same_table told in (kept, as_told same.0 same.1 same.2 stands)
    where
      as_told : {a b c d e g : ℕ} → a ≡ b → c ≡ d → e ≡ g → TableStands f tally shares shares' a c e → TableStands f tally shares shares' b d g
      as_told {b = b} {c = c} {d = d} {e = e} p q r s =
          subst (λ (k : ℕ). TableStands f tally shares shares' b d k) r
          (subst (λ (k : ℕ). TableStands f tally shares shares' b k e) q (subst (λ (k : ℕ). TableStands f tally shares shares' k c e) p s))

  pub above_answered : {answer : Result Table (Refusal ℕ)} {shares' : List ℕ} → TableEnds f tally shares answer shares' → CountAbove tally → answer ≡ refused 15 0
  above_answered (ways.above high) over = refl
  above_answered (ways.nothing kept none) over = absurd (kept over)
  above_answered (ways.table kept stands) over = absurd (kept over)

  pub nothing_answered : {answer : Result Table (Refusal ℕ)} {shares' : List ℕ} → TableEnds f tally shares answer shares' → (CountAbove tally → ⊥)
      → NoneTallied f.delay tally → answer ≡ refused 16 0
  nothing_answered (ways.above high) kept none = absurd (kept high)
  nothing_answered (ways.nothing below nothing) kept none = refl
  nothing_answered (ways.table below stands) kept none =
      never (omega (arith, stands.greatest.tallied, none _ stands.greatest.no_later))

  -- otherwise a table
  pub table_answered : {answer : Result Table (Refusal ℕ)} {shares' : List ℕ} → TableEnds f tally shares answer shares' → (CountAbove tally → ⊥)
      → (NoneTallied f.delay tally → ⊥) → (m landings standing : ℕ) × (answer ≡ tabled m landings standing)
  table_answered (ways.above high) kept some = absurd (kept high)
  table_answered (ways.nothing below none) kept some = absurd (some none)
  table_answered (ways.table {m = m} {landings = landings} {standing = standing} below stands) kept some = (m, landings, standing, refl)
