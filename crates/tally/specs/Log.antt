-- Document 02, E4: the tally of a log, by counting its landings.
use Rattle.std.specs.Prelude.{ℕ, ◌+◌, ◌≤◌, ◌<◌, true, cond, List, [], ◌∷◌, ◌≡◌, eqb, length}
use Rattle.delay_tables.specs.Rising.{values_from}
use Rattle.file_layout.specs.declared.Format.{Format}
use Rattle.tally.specs.declared.Landing.{Landing}
use Rattle.tally.specs.Tally.{counts, count_at, place_of, most_count, minutes_rule}

-- how many landings of a log are counted at a place of its tally
unfoldable pub landings_at : (top : ℕ) → List Landing → ℕ → ℕ
landings_at top [] place = 0
landings_at top (l ∷ log) place = cond (eqb (place_of top l) place) 1 0 + landings_at top log place

-- the tally of a log
unfoldable pub tally_of : (top : ℕ) → List Landing → List ℕ
tally_of top log = values_from (landings_at top log) 0 (counts top)

-- what a log leaves of a tally: so many landings more at each place
pub record GrownBy (top : ℕ) (log : List Landing) (tally tally' : List ℕ) : Type 0 where
  pub adds : (place : ℕ) → count_at tally' place ≡ count_at tally place + landings_at top log place
  pub same_length : length tally' ≡ length tally

-- the same landings in another order
pub data Reordered : List Landing → List Landing → Type 0 where
  none : Reordered [] []
  same : {l : Landing} {log other : List Landing} → Reordered log other → Reordered (l ∷ log) (l ∷ other)
  swapped : {l m : Landing} {log : List Landing} → Reordered (l ∷ m ∷ log) (m ∷ l ∷ log)
  again : {log other third : List Landing} → Reordered log other → Reordered other third → Reordered log third

-- the minutes of every landing are within the version's last
pub data InWeeks (f : Format) : List Landing → Type 0 where
  none : InWeeks f []
  next : {l : Landing} {log : List Landing} → minutes_rule f l ≡ true → InWeeks f log → InWeeks f (l ∷ log)

-- no count of a log's tally passes the limit
abbrev pub InLimit : (top : ℕ) → List Landing → Type 0
InLimit top log = (place : ℕ) → place < counts top → landings_at top log place ≤ most_count
