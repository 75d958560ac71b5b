-- Document 01, "Case W": its 92 bytes, and the same sailings with the tables first.
use Rattle.std.specs.Prelude.{ℕ, List, [], ◌∷◌, ◌++◌}

abbrev rows_w : List ℕ
rows_w =
    0 ∷ 0 ∷ 1 ∷ 0 ∷ 88 ∷ 2 ∷ 118 ∷ 2 ∷ 0 ∷ 0 ∷ 1 ∷ 0
    ∷ 1 ∷ 0 ∷ 2 ∷ 0 ∷ 120 ∷ 2 ∷ 148 ∷ 2 ∷ 1 ∷ 0 ∷ 0 ∷ 0
    ∷ 1 ∷ 0 ∷ 2 ∷ 0 ∷ 124 ∷ 2 ∷ 188 ∷ 2 ∷ 2 ∷ 0 ∷ 0 ∷ 0
    ∷ 1 ∷ 0 ∷ 2 ∷ 0 ∷ 138 ∷ 2 ∷ 178 ∷ 2 ∷ 3 ∷ 0 ∷ 0 ∷ 0 ∷ []

abbrev tables_w : List ℕ
tables_w =
    0 ∷ 0 ∷ 0 ∷ 16
    ∷ 10 ∷ 0 ∷ 0 ∷ 8 ∷ 0 ∷ 0 ∷ 0 ∷ 0 ∷ 0 ∷ 0 ∷ 0 ∷ 0 ∷ 0 ∷ 4 ∷ 0 ∷ 0 ∷ 0 ∷ 0 ∷ 0 ∷ 0 ∷ 0 ∷ 0 ∷ 0 ∷ 4 ∷ []

-- row offset 0, table offset 48
abbrev pub case_w : List ℕ
case_w = rows_w ++ tables_w ++ (1 ∷ 0 ∷ 3 ∷ 0 ∷ 4 ∷ 0 ∷ 2 ∷ 0 ∷ 0 ∷ 0 ∷ 0 ∷ 0 ∷ 48 ∷ 0 ∷ 0 ∷ 0 ∷ [])

-- the same sailings with the tables first: row offset 28, table offset 0
abbrev pub tables_first : List ℕ
tables_first = tables_w ++ rows_w ++ (1 ∷ 0 ∷ 3 ∷ 0 ∷ 4 ∷ 0 ∷ 2 ∷ 0 ∷ 28 ∷ 0 ∷ 0 ∷ 0 ∷ 0 ∷ 0 ∷ 0 ∷ 0 ∷ [])
