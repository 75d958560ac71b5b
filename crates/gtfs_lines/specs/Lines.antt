-- Document 02, E2: "Lines end in LF, CR LF or the file's end", and a line's fields.
use Rattle.std.specs.Prelude.{ℕ, zero, suc, Bool, false, cond, ◌&&◌, ◌||◌, List, [], ◌∷◌, Option, Some, None, eqb, length, get_or}

abbrev pub line_feed : ℕ
line_feed = 10

abbrev pub carriage_return : ℕ
carriage_return = 13

abbrev pub quote_mark : ℕ
quote_mark = 34

abbrev pub comma : ℕ
comma = 44

-- a byte ahead of the first part
unfoldable pub on_first : ℕ → List (List ℕ) → List (List ℕ)
on_first byte [] = (byte ∷ []) ∷ []
on_first byte (part ∷ parts) = (byte ∷ part) ∷ parts

-- a text cut at each separator: one part more than it has separators
unfoldable pub parts : (separator : ℕ) → List ℕ → List (List ℕ)
parts separator [] = [] ∷ []
parts separator (byte ∷ text) =
    let further = parts separator text in cond (eqb byte separator) ([] ∷ further) (on_first byte further)

-- a CR just before the LF belongs to the end
unfoldable pub without_return : List ℕ → List ℕ
without_return [] = []
without_return (byte ∷ line) =
    let further = without_return line in cond (eqb (length line) 0 && eqb byte carriage_return) [] (byte ∷ further)

-- every part but the last ended at an LF; the last one ends with the file, and is no line if it is empty
unfoldable pub ended : List (List ℕ) → List (List ℕ)
ended [] = []
ended (last ∷ []) = cond (eqb (length last) 0) [] (last ∷ [])
ended (part ∷ next ∷ parts) = without_return part ∷ ended (next ∷ parts)

unfoldable pub lines_of : List ℕ → List (List ℕ)
lines_of text = ended (parts line_feed text)

unfoldable pub fields_of : List ℕ → List (List ℕ)
fields_of line = parts comma line

-- the field of a column, counted from 1: nothing where the line has no such field, or there is no such column
unfoldable pub field_of : List ℕ → (column : Option ℕ) → List ℕ
field_of line None = []
field_of line (Some zero) = []
field_of line (Some (suc column)) = get_or (fields_of line) column []

unfoldable pub has_quote : List ℕ → Bool
has_quote [] = false
has_quote (byte ∷ line) = eqb byte quote_mark || has_quote line
