-- The header: its fault, or the lines behind it. Assumes nothing.
use Prim.Native.Nat.{ℕ, zero, suc, ◌≤◌, ◌<◌}
use mathlib.Core.Bool.{true, false, cond}
use mathlib.Core.List.{List, [], ◌∷◌}
use mathlib.Core.Path.{◌≡◌, refl, sym, ap, ◌∙◌}
use native.Mathlib.Omega.{arith}
use lib.ListN.{length, drop, get_or, length-drop}
use Rattle.std.specs.Prelude.{Option, Some, None, is_some, is_none}
use Rattle.timetable.specs.Verdict.{or_else, unless, by_verdict}
use Rattle.gtfs_lines.specs.declared.Columns.{Columns}
use Rattle.gtfs_lines.specs.Lines.{lines_of, fields_of, parts, has_quote}
use Rattle.text.specs.Same.{same_bytes}
use Rattle.gtfs_lines.specs.Columns.{columns_of, column_of, column_from}
use Rattle.gtfs_lines.specs.Cut.{first_line, behind_line, ahead_of_feed, has_feed}
use Rattle.gtfs_lines.proofs.TextLines.{lines_none, lines_first}
use Rattle.gtfs_stop_time.specs.Said.{in_column}
use Rattle.gtfs_calls.specs.Faults.{header_verdict}
use Rattle.gtfs_calls.specs.Reading.{wrong, read_from, stop_times}
use Rattle.gtfs_stop_times.specs.Steps.{missing_column, read_behind}

-- line 1 is the first line, and the others are those behind it, also where there is none
header_line : (text : List ℕ) → get_or (lines_of text) 0 [] ≡ first_line text
unfolding first_line has_feed
header_line [] = ap (λ l. get_or l 0 []) lines_none
header_line (byte ∷ text) = ap (λ l. get_or l 0 []) (lines_first (byte ∷ text) (omega arith))

lines_behind : (text : List ℕ) → drop 1 (lines_of text) ≡ lines_of (behind_line text)
unfolding behind_line ahead_of_feed
lines_behind [] = ap (drop 1) lines_none ∙ sym lines_none
lines_behind (byte ∷ text) = ap (drop 1) (lines_first (byte ∷ text) (omega arith))

-- what the text says, by its first line and what is behind it
by_first : (start : ℕ) (text : List ℕ) → stop_times start text
    ≡ by_verdict (λ fault column. wrong fault 1 column) (read_from (columns_of (first_line text)) start [] 2 (lines_of (behind_line text)))
    (header_verdict (has_quote (first_line text)) (columns_of (first_line text)))
unfolding stop_times
by_first start text =
    ap (λ (h : List ℕ). by_verdict (λ fault column. wrong fault 1 column) (read_from (columns_of h) start [] 2 (drop 1 (lines_of text)))
    (header_verdict (has_quote h) (columns_of h))) (header_line text)
    ∙ ap (λ (l : List (List ℕ)). by_verdict (λ fault column. wrong fault 1 column) (read_from (columns_of (first_line text)) start [] 2 l)
    (header_verdict (has_quote (first_line text)) (columns_of (first_line text)))) (lines_behind text)

-- the verdict on a header without a quote mark, by the column that it lacks
unquoted_verdict : (columns : Columns) → header_verdict false columns ≡ in_column 11 (missing_column columns)
unfolding header_verdict missing_column
unquoted_verdict columns = cases columns.trip columns.arrival columns.departure columns.stop columns.sequence
  where
    cases : (a b c d e : Option ℕ)
        → or_else (unless (is_some a) 11 1) (or_else (unless (is_some b) 11 2) (or_else (unless (is_some c) 11 3)
        (or_else (unless (is_some d) 11 4) (unless (is_some e) 11 5))))
        ≡ in_column 11 (cond (is_none a) (Some 1) (cond (is_none b) (Some 2) (cond (is_none c) (Some 3) (cond (is_none d) (Some 4)
        (cond (is_none e) (Some 5) None)))))
    cases None b c d e = refl
    cases (Some a) None c d e = refl
    cases (Some a) (Some b) None d e = refl
    cases (Some a) (Some b) (Some c) None e = refl
    cases (Some a) (Some b) (Some c) (Some d) None = refl
    cases (Some a) (Some b) (Some c) (Some d) (Some e) = refl

-- a text without bytes names no column
empty_lacks : missing_column (columns_of (first_line [])) ≡ Some 1
unfolding missing_column columns_of column_of column_from fields_of parts same_bytes first_line has_feed
empty_lacks = refl

-- a text has no bytes, or some
by_bytes {ℓ} : {P : Type ℓ} (text : List ℕ) → (text ≡ [] → P) → (0 < length text → P) → P
by_bytes [] none some = none refl
by_bytes (byte ∷ text) none some = some (omega arith)

-- what is behind a line is shorter than the text
shorter : (text : List ℕ) → 0 < length text → length (behind_line text) < length text
unfolding behind_line
shorter text some = omega (arith, length-drop (suc (length (ahead_of_feed text))) text)

-- a header with a quote mark
pub header_quoted : (start : ℕ) (text : List ℕ) → has_quote (first_line text) ≡ true → stop_times start text ≡ wrong 11 1 0
unfolding header_verdict
header_quoted start text e =
    by_first start text
    ∙ ap (λ q. by_verdict (λ fault column. wrong fault 1 column) (read_from (columns_of (first_line text)) start [] 2 (lines_of (behind_line text)))
    (header_verdict q (columns_of (first_line text)))) e

module _ (start : ℕ) (text : List ℕ) (columns : Columns) (next : ℕ) (unquoted : has_quote (first_line text) ≡ false)
    (named : columns ≡ columns_of (first_line text)) (behind : drop next text ≡ behind_line text) where
  -- the verdict by the column that is missing
  by_missing : stop_times start text
      ≡ by_verdict (λ fault column. wrong fault 1 column) (read_behind text next (record { columns = columns; start = start }))
      (in_column 11 (missing_column columns))
  by_missing =
      by_first start text
      ∙ ap (λ q. by_verdict (λ fault column. wrong fault 1 column) (read_from (columns_of (first_line text)) start [] 2 (lines_of (behind_line text)))
      (header_verdict q (columns_of (first_line text)))) unquoted
      ∙ ap (λ (h : Columns). by_verdict (λ fault column. wrong fault 1 column) (read_from h start [] 2 (lines_of (behind_line text))) (header_verdict false h))
      (sym named)
      ∙ ap (λ (l : List ℕ). by_verdict (λ fault column. wrong fault 1 column) (read_from columns start [] 2 (lines_of l)) (header_verdict false columns)) (sym behind)
      ∙ ap (by_verdict (λ fault column. wrong fault 1 column) (read_behind text next (record { columns = columns; start = start })))
      (unquoted_verdict columns)

  pub column_missing : (column : ℕ) → Some column ≡ missing_column columns → stop_times start text ≡ wrong 11 1 column
  column_missing column e =
      by_missing
      ∙ ap (λ k. by_verdict (λ fault column. wrong fault 1 column) (read_behind text next (record { columns = columns; start = start })) (in_column 11 k)) (sym e)

  module _ (none : None ≡ missing_column columns) where
    pub columns_named : stop_times start text ≡ read_behind text next (record { columns = columns; start = start })
    columns_named =
        by_missing
        ∙ ap (λ k. by_verdict (λ fault column. wrong fault 1 column) (read_behind text next (record { columns = columns; start = start })) (in_column 11 k)) (sym none)

    -- the header has bytes
    pub header_some : 1 ≤ next
    header_some = go next behind
      where
        go : (n : ℕ) → drop n text ≡ behind_line text → 1 ≤ n
        go (suc n) e = omega arith
        go zero e =
            absurd (by_bytes text (λ empty.
            let some : None ≡ Some 1 =
            none ∙ ap missing_column named ∙ ap (λ (t : List ℕ). missing_column (columns_of (first_line t))) empty ∙ empty_lacks
            in
            let z : ◌≡◌ {A = ℕ} 0 1 = cc in let y : ⊥ = omega arith in y)
            (λ some. let z : ⊥ = omega (arith, ap length e, shorter text some) in z))
