-- What is true of what the call for a table returns: how it ends, in document 02's words.
use Rattle.std.specs.Prelude.{ℕ, suc, ◌<◌, ◌≤◌, List, ◌≡◌, get_or, take, drop, Result}
use Rattle.timetable.specs.Timetable.{maximum_delay}
use Rattle.timetable.specs.Verdict.{refused}
use Rattle.timetable.specs.declared.Refusal.{Refusal}
use Rattle.file_layout.specs.declared.Format.{Format}
use Rattle.delay_tables.specs.Rising.{cumulative_of_shares, MadeOf}
use Rattle.tally.specs.Tally.{apart, count_at}
use Rattle.tally.specs.Returned.{CountAbove}
use Rattle.tally_table.specs.declared.Table.{Table}
use Rattle.tally_table.specs.Table.{landings_tallied, landings_by, share_of, IsGreatest, cumulative_shares}
use Rattle.tally_table.specs.Outcome.{tabled}

-- no landing is tallied
abbrev pub NoneTallied : (top : ℕ) → List ℕ → Type 0
NoneTallied top tally = (x : ℕ) → x ≤ top → count_at tally x ≡ 0

-- a table as it is answered: M, the landings that it rests on, those that stand apart, and its shares in the first numbers lent
pub record TableStands (f : Format) (tally shares shares' : List ℕ) (m landings standing : ℕ) : Type 0 where
  pub greatest : IsGreatest f.delay tally m
  pub rests_on : landings ≡ landings_tallied f.delay tally
  pub some : 0 < landings
  pub stand_apart : standing ≡ count_at tally (apart f.delay)
  -- M + 1 shares that the rule of a class accepts, whose running sums are the cumulative shares
  pub made : MadeOf (cumulative_shares landings tally m) (take (suc m) shares')
  pub cumulative : (x : ℕ) → x ≤ m → get_or (cumulative_of_shares (take (suc m) shares')) x 0 ≡ share_of landings (landings_by tally x)
  pub maximum : maximum_delay (take (suc m) shares') ≡ m
  pub others : drop (suc m) shares' ≡ drop (suc m) shares

-- how the making of a table ends
pub data TableEnds (f : Format) (tally shares : List ℕ) : Result Table (Refusal ℕ) → List ℕ → Type 0 where
  above : CountAbove tally → TableEnds f tally shares (refused 15 0) shares
  nothing : (CountAbove tally → ⊥) → NoneTallied f.delay tally → TableEnds f tally shares (refused 16 0) shares
  table : {m landings standing : ℕ} {shares' : List ℕ} → (CountAbove tally → ⊥)
      → TableStands f tally shares shares' m landings standing → TableEnds f tally shares (tabled m landings standing) shares'
