-- How a field ends: at the line's end, at a comma, or not at all since a quote mark stands in it. Assumes nothing.
use Prim.Native.Nat.{ℕ, suc, ◌+◌, ◌≤◌, ◌<◌}
use mathlib.Core.Bool.{true, false}
use mathlib.Core.List.{List, [], ◌∷◌, ◌++◌, append-nil}
use mathlib.Core.Path.{◌≡◌, sym, ap, subst⁻¹, ◌∙◌}
use native.Mathlib.Omega.{arith}
use lib.Dec.{eqb}
use lib.ListN.{length, drop, get_or, drop_of_length-le}
use lib.Seq.{slice, drop-cons, length-slice}
use Rattle.gtfs_lines.specs.declared.Span.{Span}
use Rattle.std.specs.Prelude.{Some, None}
use Rattle.gtfs_lines.specs.Lines.{line_feed, quote_mark, comma, without_return, fields_of, has_quote}
use Rattle.gtfs_lines.specs.Cut.{ahead_of_feed, first_line, behind_line, last_end, read_from}
use Rattle.gtfs_lines.specs.Joined.{Without}
use Rattle.gtfs_lines.proofs.Parts.{one_part, first_part}
use Rattle.gtfs_lines.proofs.Returns.{without_return_lem}
use Rattle.gtfs_lines.proofs.LineEnds.{quotes_ahead, quotes_on, quote_ahead}
use Rattle.gtfs_lines.proofs.LineEnds.{first_last, behind_last, ahead_feed, first_feed, behind_feed, first_comma, behind_comma}
use Rattle.gtfs_lines.proofs.Slices.{slice_behind, last_slice, last_rises, last_before}
use Rattle.gtfs_lines.proofs.Marked.{Marked, mark_splits, comma_left}

-- the field is the line's last, and the next line starts at `next`
pub record LastField (text : List ℕ) (from to next : ℕ) : Type 1 where
  pub rises : from ≤ to
  pub ahead : to ≤ next
  pub inside : next ≤ length text
  pub onward : from < length text → from < next
  pub fields : fields_of (first_line (drop from text)) ≡ slice from to text ∷ []
  pub unquoted : has_quote (first_line (drop from text)) ≡ false
  pub behind : behind_line (drop from text) ≡ drop next text
  pub reads : {K R : Type 0} (told : K → ℕ → R) (keep : ℕ → Span → K → K) (column : ℕ) (kept : K)
      → read_from told keep text column from from kept (drop from text) ≡ Some (told (keep column (record { from = from; to = to }) kept) next)

-- the same, in other words
pub last_as : {text : List ℕ} {from to to' next next' : ℕ} → LastField text from to next → to' ≡ to → next' ≡ next → LastField text from to' next'
last_as {text} {from} {to} {to'} {next} last p q =
    subst⁻¹ (λ n. LastField text from to' n) q (subst⁻¹ (λ t. LastField text from t next) p last)

-- a comma stands at `at`, and the line goes on behind it
pub record NextField (text : List ℕ) (from at : ℕ) : Type 1 where
  pub rises : from ≤ at
  pub inside : at < length text
  pub fields : fields_of (first_line (drop from text)) ≡ slice from at text ∷ fields_of (first_line (drop (suc at) text))
  pub quotes : has_quote (first_line (drop from text)) ≡ has_quote (first_line (drop (suc at) text))
  pub behind : behind_line (drop from text) ≡ behind_line (drop (suc at) text)
  pub reads : {K R : Type 0} (told : K → ℕ → R) (keep : ℕ → Span → K → K) (column : ℕ) (kept : K)
      → read_from told keep text column from from kept (drop from text)
      ≡ read_from told keep text (suc column) (suc at) (suc at) (keep column (record { from = from; to = at }) kept) (drop (suc at) text)

-- a quote mark stands in the field
pub record QuotedField (text : List ℕ) (from : ℕ) : Type 1 where
  pub quoted : has_quote (first_line (drop from text)) ≡ true
  pub reads : {K R : Type 0} (told : K → ℕ → R) (keep : ℕ → Span → K → K) (column : ℕ) (kept : K)
      → read_from told keep text column from from kept (drop from text) ≡ None

module _ {K R : Type 0} (told : K → ℕ → R) (keep : ℕ → Span → K → K) (text : List ℕ) (column from : ℕ) (kept : K) where
  -- a byte that is no mark belongs to the field
  read_byte : (at byte : ℕ) (rest : List ℕ) → eqb byte comma ≡ false → eqb byte line_feed ≡ false → eqb byte quote_mark ≡ false
      → read_from told keep text column from at kept (byte ∷ rest) ≡ read_from told keep text column from (suc at) kept rest
  unfolding read_from
  read_byte at byte rest no_comma no_feed no_quote = simp (no_comma, no_feed, no_quote)

  -- and so do all plain bytes
  read_plain : (at : ℕ) (plain rest : List ℕ) → Without comma plain → Without line_feed plain → Without quote_mark plain
      → read_from told keep text column from at kept (plain ++ rest) ≡ read_from told keep text column from (at + length plain) kept rest
  read_plain at [] rest commas feeds quotes = ap (λ n. read_from told keep text column from n kept rest) (omega arith)
  read_plain at (byte ∷ plain) rest commas feeds quotes =
      read_byte at byte (plain ++ rest) commas.0 feeds.0 quotes.0
      ∙ read_plain (suc at) plain rest commas.1 feeds.1 quotes.1
      ∙ ap (λ n. read_from told keep text column from n kept rest) (omega arith)

module _ {text : List ℕ} {from at : ℕ} (m : Marked text from at) where
  whole_field : from + length (slice from at text) ≡ at
  whole_field = omega (arith, length-slice from at text m.inside, m.rises)

  read_to : {K R : Type 0} (told : K → ℕ → R) (keep : ℕ → Span → K → K) (column : ℕ) (kept : K)
      → read_from told keep text column from from kept (drop from text) ≡ read_from told keep text column from at kept (drop at text)
  read_to told keep column kept =
      ap (read_from told keep text column from from kept) (slice_behind text from at m.rises m.inside)
      ∙ read_plain told keep text column from kept from (slice from at text) (drop at text) m.no_comma m.no_feed m.no_quote
      ∙ ap (λ n. read_from told keep text column from n kept (drop at text)) whole_field

  no_quotes : has_quote (slice from at text) ≡ false
  unfolding has_quote
  no_quotes = ap has_quote (sym (append-nil (slice from at text))) ∙ quotes_on (slice from at text) [] m.no_quote

  -- the file's end
  pub at_end : length text ≤ at → LastField text from at at
  unfolding read_from fields_of
  at_end none_left =
      let none : drop at text ≡ [] = drop_of_length-le text none_left in
      let whole : drop from text ≡ slice from at text =
      slice_behind text from at m.rises m.inside ∙ ap (λ l. slice from at text ++ l) none ∙ append-nil (slice from at text)
      in
      let line : first_line (drop from text) ≡ slice from at text = ap first_line whole ∙ first_last (slice from at text) m.no_feed in
      record {
        rises = m.rises;
        ahead = omega arith;
        inside = m.inside;
        onward = λ some. omega (arith, some);
        fields = ap fields_of line ∙ one_part comma (slice from at text) m.no_comma;
        unquoted = ap has_quote line ∙ no_quotes;
        behind = ap behind_line whole ∙ behind_last (slice from at text) m.no_feed ∙ sym none;
        reads = λ told keep column kept. read_to told keep column kept ∙ ap (read_from told keep text column from at kept) none;
      }

  module _ (within : at < length text) where
    read_mark : (mark : ℕ) → get_or text at 0 ≡ mark → {K R : Type 0} (told : K → ℕ → R) (keep : ℕ → Span → K → K) (column : ℕ) (kept : K)
        → read_from told keep text column from from kept (drop from text)
        ≡ read_from told keep text column from at kept (mark ∷ drop (suc at) text)
    read_mark mark is told keep column kept =
        read_to told keep column kept ∙ ap (read_from told keep text column from at kept) (drop-cons text at 0 within)
        ∙ ap (λ b. read_from told keep text column from at kept (b ∷ drop (suc at) text)) is

    -- an LF, and a CR just before it
    pub at_feed : get_or text at 0 ≡ line_feed → LastField text from (last_end text from at) (suc at)
    unfolding read_from fields_of
    at_feed is =
        let whole = mark_splits m line_feed within is in
        let line = without_return (slice from at text) in
        record {
          rises = last_rises text from at m.rises;
          ahead = omega (arith, last_before text from at);
          inside = omega arith;
          onward = λ some. omega (arith, m.rises);
          fields =
              ap fields_of (ap first_line whole ∙ first_feed (slice from at text) m.no_feed (drop (suc at) text))
              ∙ one_part comma line (without_return_lem comma (slice from at text) m.no_comma)
              ∙ ap (λ l. l ∷ []) (sym (last_slice text from at m.rises m.inside));
          unquoted =
              quotes_ahead (drop from text)
              ∙ ap has_quote (ap ahead_of_feed whole ∙ ahead_feed (slice from at text) m.no_feed (drop (suc at) text)) ∙ no_quotes;
          behind = ap behind_line whole ∙ behind_feed (slice from at text) m.no_feed (drop (suc at) text);
          reads = read_mark line_feed is;
        }

    pub at_quote : get_or text at 0 ≡ quote_mark → QuotedField text from
    unfolding read_from
    at_quote is =
        record {
          quoted =
              ap (λ l. has_quote (first_line l)) (mark_splits m quote_mark within is)
              ∙ quote_ahead (slice from at text) m.no_feed (drop (suc at) text);
          reads = read_mark quote_mark is;
        }

    -- a mark that is neither of them
    pub at_comma : (get_or text at 0 ≡ line_feed → ⊥) → (get_or text at 0 ≡ quote_mark → ⊥) → NextField text from at
    unfolding read_from fields_of has_quote
    at_comma no_feed no_quote =
        let is : get_or text at 0 ≡ comma = comma_left (get_or text at 0) (m.marked within) no_feed no_quote in
        let whole = mark_splits m comma within is in
        let line : first_line (drop from text) ≡ slice from at text ++ comma ∷ first_line (drop (suc at) text) =
        ap first_line whole ∙ first_comma (slice from at text) m.no_feed (drop (suc at) text)
        in
        record {
          rises = m.rises;
          inside = within;
          fields = ap fields_of line ∙ first_part comma (slice from at text) (first_line (drop (suc at) text)) m.no_comma;
          quotes = ap has_quote line ∙ quotes_on (slice from at text) (comma ∷ first_line (drop (suc at) text)) m.no_quote;
          behind = ap behind_line whole ∙ behind_comma (slice from at text) m.no_feed (drop (suc at) text);
          reads = read_mark comma is;
        }
