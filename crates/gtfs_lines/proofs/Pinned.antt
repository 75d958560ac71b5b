-- Cases that pin lines, fields and columns: what ends a line, what is empty, and what is another name. Assumes nothing.
use mathlib.Core.List.{[], ◌∷◌, ◌++◌}
use mathlib.Core.Path.{◌≡◌, refl}
use mathlib.Core.Bool.{true, false}
use Rattle.std.specs.Prelude.{Some, None}
use Rattle.text.specs.Same.{same_bytes}
use Rattle.gtfs_lines.specs.Lines.{line_feed, carriage_return, quote_mark, comma, on_first, parts, without_return, ended}
use Rattle.gtfs_lines.specs.Lines.{lines_of, fields_of, field_of, has_quote}
use Rattle.gtfs_lines.specs.Columns.{column_from, column_of, trip_name, stop_name}

-- the last line may end in an LF or not
pub two_lines : lines_of (97 ∷ line_feed ∷ 98 ∷ []) ≡ (97 ∷ []) ∷ (98 ∷ []) ∷ []
unfolding lines_of ended without_return parts on_first
two_lines = refl

pub two_lines_fed : lines_of (97 ∷ line_feed ∷ 98 ∷ line_feed ∷ []) ≡ (97 ∷ []) ∷ (98 ∷ []) ∷ []
unfolding lines_of ended without_return parts on_first
two_lines_fed = refl

-- and a CR belongs to an LF's end, one CR only
pub two_lines_returned : lines_of (97 ∷ carriage_return ∷ line_feed ∷ 98 ∷ carriage_return ∷ line_feed ∷ []) ≡ (97 ∷ []) ∷ (98 ∷ []) ∷ []
unfolding lines_of ended without_return parts on_first
two_lines_returned = refl

pub two_returns : lines_of (97 ∷ carriage_return ∷ carriage_return ∷ line_feed ∷ []) ≡ (97 ∷ carriage_return ∷ []) ∷ []
unfolding lines_of ended without_return parts on_first
two_returns = refl

pub return_at_end : lines_of (97 ∷ carriage_return ∷ []) ≡ (97 ∷ carriage_return ∷ []) ∷ []
unfolding lines_of ended without_return parts on_first
return_at_end = refl

-- an empty line is a line, but not behind the last LF
pub empty_between : lines_of (97 ∷ line_feed ∷ line_feed ∷ 98 ∷ []) ≡ (97 ∷ []) ∷ [] ∷ (98 ∷ []) ∷ []
unfolding lines_of ended without_return parts on_first
empty_between = refl

pub one_empty : lines_of (line_feed ∷ []) ≡ [] ∷ []
unfolding lines_of ended without_return parts on_first
one_empty = refl

pub no_line : lines_of [] ≡ []
unfolding lines_of ended without_return parts on_first
no_line = refl

-- a field may be empty, and a line without a comma has one
pub empty_field : fields_of (97 ∷ comma ∷ comma ∷ 98 ∷ []) ≡ (97 ∷ []) ∷ [] ∷ (98 ∷ []) ∷ []
unfolding fields_of parts on_first
empty_field = refl

pub two_empty : fields_of (comma ∷ []) ≡ [] ∷ [] ∷ []
unfolding fields_of parts on_first
two_empty = refl

pub one_field : fields_of [] ≡ [] ∷ []
unfolding fields_of parts on_first
one_field = refl

-- columns are counted from 1
pub first_field : field_of (97 ∷ comma ∷ 98 ∷ []) (Some 1) ≡ 97 ∷ []
unfolding field_of fields_of parts on_first
first_field = refl

pub no_column : field_of (97 ∷ comma ∷ 98 ∷ []) None ≡ []
unfolding field_of
no_column = refl

pub past_the_last : field_of (97 ∷ comma ∷ 98 ∷ []) (Some 3) ≡ []
unfolding field_of fields_of parts on_first
past_the_last = refl

-- a quote mark anywhere
pub quoted : has_quote (97 ∷ quote_mark ∷ []) ≡ true
unfolding has_quote
quoted = refl

pub unquoted : has_quote (97 ∷ 39 ∷ []) ≡ false
unfolding has_quote
unquoted = refl

-- a byte order mark ahead of a name makes another name
pub named : column_of trip_name trip_name ≡ Some 1
unfolding column_of column_from fields_of parts on_first same_bytes
named = refl

pub marked_name : column_of trip_name (239 ∷ 187 ∷ 191 ∷ trip_name) ≡ None
unfolding column_of column_from fields_of parts on_first same_bytes
marked_name = refl

-- of a column that stands twice the first counts
pub twice : column_of stop_name (trip_name ++ comma ∷ (stop_name ++ comma ∷ stop_name)) ≡ Some 2
unfolding column_of column_from fields_of parts on_first same_bytes
twice = refl
