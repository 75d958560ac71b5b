-- The first line of a text, what is behind it, and where its fields lie: the forms that the code computes.
use Rattle.std.specs.Prelude.{ℕ, suc, ◌-◌, ◌≤◌, ◌<◌, Bool, true, false, cond, ◌&&◌, List, [], ◌∷◌, Option, Some, None, ◌≡◌, eqb, ltb, length, drop, get_or}
use Rattle.std.proofs.Math.Seq.{slice}
use Rattle.gtfs_lines.specs.declared.Span.{Span}
use Rattle.gtfs_lines.specs.declared.Fields.{Fields}
use Rattle.gtfs_lines.specs.declared.Columns.{Columns}
use Rattle.gtfs_lines.specs.declared.Cut.{Cut}
use Rattle.gtfs_lines.specs.declared.Heading.{Heading}
use Rattle.gtfs_lines.specs.Columns.{columns_of}
use Rattle.gtfs_lines.specs.Lines.{line_feed, carriage_return, quote_mark, comma, without_return, field_of, has_quote}

-- what stands ahead of the first LF, and whether there is one
unfoldable pub ahead_of_feed : List ℕ → List ℕ
ahead_of_feed [] = []
ahead_of_feed (byte ∷ text) = let further = ahead_of_feed text in cond (eqb byte line_feed) [] (byte ∷ further)

unfoldable pub has_feed : List ℕ → Bool
has_feed [] = false
has_feed (byte ∷ text) = let further = has_feed text in cond (eqb byte line_feed) true further

-- the first line, and the text behind its end
unfoldable pub first_line : List ℕ → List ℕ
first_line text = cond (has_feed text) (without_return (ahead_of_feed text)) text

unfoldable pub behind_line : List ℕ → List ℕ
behind_line text = drop (suc (length (ahead_of_feed text))) text

-- no field
abbrev pub no_span : Span
no_span = record { from = 0; to = 0 }

abbrev pub no_fields : Fields
no_fields = record { trip = no_span; arrival = no_span; departure = no_span; stop = no_span; sequence = no_span }

-- a line that was cut, and a header that was read: none is where a quote mark stands in it
abbrev pub cut_of : Fields → (next : ℕ) → Cut
cut_of fields next = record { fields = fields; next = next }

abbrev pub cut : Fields → (next : ℕ) → Option Cut
cut fields next = Some (cut_of fields next)

abbrev pub heading_of : Columns → (next : ℕ) → Heading
heading_of columns next = record { columns = columns; next = next }

abbrev pub named : Columns → (next : ℕ) → Option Heading
named columns next = Some (heading_of columns next)

-- a field of a column that is wanted is kept
abbrev pub is_wanted : (wanted : Option ℕ) → (column : ℕ) → Bool
is_wanted None column = false
is_wanted (Some wanted) column = eqb wanted column

abbrev pub kept : (wanted : Option ℕ) → (column : ℕ) → (old new : Span) → Span
kept wanted column old new = cond (is_wanted wanted column) new old

unfoldable pub with_field : Columns → (column : ℕ) → Span → Fields → Fields
with_field columns column span fields =
    record {
      trip = kept columns.trip column fields.trip span;
      arrival = kept columns.arrival column fields.arrival span;
      departure = kept columns.departure column fields.departure span;
      stop = kept columns.stop column fields.stop span;
      sequence = kept columns.sequence column fields.sequence span;
    }

-- where the last field of a line ends whose LF stands at `at`: ahead of a CR, if one is there
unfoldable pub last_end : (text : List ℕ) (from at : ℕ) → ℕ
last_end text from at = cond (ltb from at && eqb (get_or text (at - 1) 0) carriage_return) (at - 1) at

-- what is told of a line, byte by byte, where each field is kept by `keep`, and what is kept by `told` with where the next line starts:
-- none, if a quote mark stands in it; `rest` is the text from `at` on, and the field of `column` starts at `from`
unfoldable pub read_from : {K R : Type 0} → (told : K → ℕ → R) → (keep : ℕ → Span → K → K) → (text : List ℕ) → (column from at : ℕ) → K
    → (rest : List ℕ) → Option R
read_from told keep text column from at kept [] = Some (told (keep column (record { from = from; to = at }) kept) at)
read_from told keep text column from at kept (byte ∷ rest) =
    let feed = Some (told (keep column (record { from = from; to = last_end text from at }) kept) (suc at)) in
    let next = read_from told keep text (suc column) (suc at) (suc at) (keep column (record { from = from; to = at }) kept) rest in
    let on = read_from told keep text column from (suc at) kept rest in
    cond (eqb byte line_feed) feed (cond (eqb byte quote_mark) None (cond (eqb byte comma) next on))

-- the line that starts at `start`
unfoldable pub read_at : {K R : Type 0} → (told : K → ℕ → R) → (keep : ℕ → Span → K → K) → (text : List ℕ) → (start : ℕ) → K → Option R
read_at told keep text start kept = read_from told keep text 1 start start kept (drop start text)

-- its fields
unfoldable pub cut_at : List ℕ → Columns → (start : ℕ) → Option Cut
cut_at text columns start = read_at cut_of (with_field columns) text start no_fields

-- the header is line 1: its columns and where the next line starts; a text that has no line has no column
unfoldable pub header_of : List ℕ → Option Heading
header_of text =
    cond (has_quote (first_line text)) None
    (named (columns_of (first_line text)) (length text - length (behind_line text)))

-- a field of a line that was cut: its bytes lie within the text, and are those of its column
pub record FieldCut (text line : List ℕ) (column : Option ℕ) (span : Span) : Type 0 where
  pub rises : span.from ≤ span.to
  pub inside : span.to ≤ length text
  pub says : slice span.from span.to text ≡ field_of line column

-- a line that was cut, which starts at `start`, and where the next one starts
pub record LineCut (text : List ℕ) (columns : Columns) (start : ℕ) (fields : Fields) (next : ℕ) : Type 0 where
  pub unquoted : has_quote (first_line (drop start text)) ≡ false
  pub onward : start < next
  pub inside : next ≤ length text
  pub behind : drop next text ≡ behind_line (drop start text)
  pub trip : FieldCut text (first_line (drop start text)) columns.trip fields.trip
  pub arrival : FieldCut text (first_line (drop start text)) columns.arrival fields.arrival
  pub departure : FieldCut text (first_line (drop start text)) columns.departure fields.departure
  pub stop : FieldCut text (first_line (drop start text)) columns.stop fields.stop
  pub sequence : FieldCut text (first_line (drop start text)) columns.sequence fields.sequence

-- the header is the text's first line, and the next one starts at `next`
pub record HeaderCut (text : List ℕ) (columns : Columns) (next : ℕ) : Type 0 where
  pub unquoted : has_quote (first_line text) ≡ false
  pub named : columns ≡ columns_of (first_line text)
  pub inside : next ≤ length text
  pub behind : drop next text ≡ behind_line text
