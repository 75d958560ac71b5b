-- Looking back over the rows behind a row, one row at a time. Assumes nothing.
use Prim.Native.Nat.{◌-◌, ◌<◌, ◌≤◌, ℕ, zero, suc, ◌+◌, ◌*◌}
use mathlib.Core.Bool.{Bool, true, false, cond}
use mathlib.Core.List.{List}
use mathlib.Core.Option.{Option, none, some}
use mathlib.Core.Path.{◌≡◌, refl, ap, sym, ◌∙◌}
use native.Mathlib.Omega.{arith}
use borrow.Author.Tests.{ne_eqb}
use lib.Dec.{eqb}
use Rattle.timetable.specs.declared.Row.{Row}
use Rattle.timetable.specs.Rows.{last_of_trip}
use Rattle.timetable.proofs.Behind.{last_further}
use Rattle.file_layout.specs.Decode.{row_at}
use Rattle.file_check.specs.declared.Found.{Found}
use Rattle.std.specs.Prelude.{Some, None}
use Rattle.std.specs.Prelude as std
use Rattle.file_check.specs.Behind.{rows_behind, found_behind, row_found}

module _ (width : ℕ) (s : List ℕ) (start : ℕ) where
  -- the search stops at a row of the trip, else it goes on behind that row
  pub found_on : (trip left : ℕ) → 0 < left
      → found_behind trip width s start left
      ≡ cond (eqb (row_at s (start + width * (left - 1))).trip trip) (Some (record { row = row_at s (start + width * (left - 1)); place = left - 1 }))
      (found_behind trip width s start (left - 1))
  unfolding found_behind
  found_on trip zero more = absurd (omega arith)
  found_on trip (suc left) more = let one : suc left - 1 ≡ left = omega arith in rw one

  pub found_further : (trip left : ℕ) → 0 < left → (row : Row) → row ≡ row_at s (start + width * (left - 1)) → (row.trip ≡ trip → ⊥)
      → found_behind trip width s start left ≡ found_behind trip width s start (left - 1)
  found_further trip left more row read other =
      found_on trip left more ∙ simp (sym read, ne_eqb _ _ other)

  -- and ends where no row is left
  pub found_end : (trip left : ℕ) → left ≤ 0 → found_behind trip width s start left ≡ None
  unfolding found_behind
  found_end trip zero none_left = refl
  found_end trip (suc left) none_left = absurd (omega arith)

  -- looking back over the rows themselves goes on behind a row of another trip too
  pub last_behind : (trip i : ℕ) → ((row_at s (start + width * i)).trip ≡ trip → ⊥)
      → last_of_trip trip (rows_behind width s start (suc i)) ≡ last_of_trip trip (rows_behind width s start i)
  unfolding rows_behind
  last_behind trip i other = last_further trip (row_at s (start + width * i)) (rows_behind width s start i) other

  -- the row that is found is the nearest earlier row of the trip
  pub row_found_lem : (trip count : ℕ) → row_found (found_behind trip width s start count) ≡ last_of_trip trip (rows_behind width s start count)
  unfolding found_behind rows_behind last_of_trip
  row_found_lem trip zero = refl
  row_found_lem trip (suc count) =
      by_test (eqb (row_at s (start + width * count)).trip trip) (row_at s (start + width * count)) count
      (found_behind trip width s start count) (last_of_trip trip (rows_behind width s start count)) (row_found_lem trip count)
    where
      by_test : (b : Bool) (row : Row) (place : ℕ) (further : std.Option Found) (last : Option Row) → row_found further ≡ last
          → row_found (cond b (Some (record { row = row; place = place })) further) ≡ cond b (some row) last
      by_test true row place further last e = refl
      by_test false row place further last e = e

  pub nothing_found : (trip count : ℕ) → found_behind trip width s start count ≡ None → last_of_trip trip (rows_behind width s start count) ≡ none
  nothing_found trip count e = sym (row_found_lem trip count) ∙ ap row_found e

  pub last_found : (trip count : ℕ) (found : Found) → found_behind trip width s start count ≡ Some found
      → last_of_trip trip (rows_behind width s start count) ≡ some found.row
  last_found trip count found e = sym (row_found_lem trip count) ∙ ap row_found e
