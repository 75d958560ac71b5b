-- The bytes at which a line or a field ends or is refused, and the plain bytes ahead of the first of them.
use Rattle.std.specs.Prelude.{ℕ, suc, Bool, cond, ◌||◌, List, [], ◌∷◌, eqb}
use Rattle.gtfs_lines.specs.Lines.{line_feed, quote_mark, comma}

abbrev pub marked_by : ℕ → Bool
marked_by byte = eqb byte comma || (eqb byte line_feed || eqb byte quote_mark)

-- how many bytes stand ahead of the first mark, or of the text's end
unfoldable pub plain_ahead : List ℕ → ℕ
plain_ahead [] = 0
plain_ahead (byte ∷ text) = let further = suc (plain_ahead text) in cond (marked_by byte) 0 further
