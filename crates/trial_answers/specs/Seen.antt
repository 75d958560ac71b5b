-- Document 01, "Both sides of each line": a whole answer as six numbers, for the comparison with an independent second program.
use Rattle.std.specs.Prelude.{ℕ, cond, List, [], ◌∷◌, ◌++◌, leb, length, take, drop}
use Rattle.file_layout.specs.Check.{Answer}

-- number, place, the values; then 0
unfoldable pub six : Answer → List ℕ
six a = take 6 (a.number ∷ a.place ∷ (a.values ++ (0 ∷ 0 ∷ 0 ∷ 0 ∷ [])))

-- in the first six numbers of a buffer; one with less room stays as it is
unfoldable pub in_six : List ℕ → List ℕ → List ℕ
in_six numbers buffer = cond (leb 6 (length buffer)) (numbers ++ drop 6 buffer) buffer

unfoldable pub seen : Answer → List ℕ → List ℕ
seen a buffer = in_six (six a) buffer
