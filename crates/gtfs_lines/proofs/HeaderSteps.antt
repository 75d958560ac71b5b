-- The header, read one field at a time. Assumes nothing.
use Prim.Native.Nat.{ℕ, suc, ◌-◌}
use mathlib.Core.Bool.{Bool, true, cond}
use mathlib.Core.List.{List, []}
use mathlib.Core.Path.{◌≡◌, refl, ap, ◌∙◌}
use native.Mathlib.Omega.{arith}
use lib.ListN.{length, drop, length-drop}
use lib.Seq.{slice}
use Rattle.gtfs_lines.specs.declared.Columns.{Columns}
use Rattle.gtfs_lines.specs.declared.Heading.{Heading}
use Rattle.std.specs.Prelude.{Option, None}
use Rattle.gtfs_lines.specs.Columns.{columns_of}
use Rattle.gtfs_lines.specs.Lines.{fields_of, has_quote}
use Rattle.gtfs_lines.specs.Cut.{named, first_line, behind_line, header_of}
use Rattle.gtfs_lines.specs.Naming.{with_name}
use Rattle.gtfs_lines.proofs.Naming.{no_columns, named_in, named_all, named_none, named_next}
use Rattle.gtfs_lines.proofs.FieldEnds.{LastField, NextField, QuotedField}

-- what is told of a header, by its quote marks, its columns and the text behind it
unfoldable pub told : (text : List ℕ) (quoted : Bool) → Columns → (behind : List ℕ) → Option Heading
told text quoted columns behind = cond quoted None (named columns (length text - length behind))

told_as : (text : List ℕ) {quoted quoted' : Bool} {columns columns' : Columns} {behind behind' : List ℕ}
    → quoted ≡ quoted' → columns ≡ columns' → behind ≡ behind' → told text quoted columns behind ≡ told text quoted' columns' behind'
told_as text p q r = cc

told_quoted : (text : List ℕ) (columns : Columns) (behind : List ℕ) → told text true columns behind ≡ None
unfolding told
told_quoted text columns behind = refl

header_told : (text : List ℕ) → header_of text ≡ told text (has_quote (first_line text)) (columns_of (first_line text)) (behind_line text)
unfolding header_of told
header_told text = refl

-- the header, of which the fields ahead of `from` are read
unfoldable pub header_from : (text : List ℕ) → (column : ℕ) → Columns → (from : ℕ) → Option Heading
header_from text column columns from =
    let line = first_line (drop from text) in
    told text (has_quote line) (named_in column columns (fields_of line)) (behind_line (drop from text))

module _ (text : List ℕ) where
  pub header_starts : header_of text ≡ header_from text 1 no_columns 0
  unfolding header_from
  header_starts = header_told text ∙ told_as text refl (named_all (first_line text)) refl

  module _ (column : ℕ) (columns : Columns) (from : ℕ) where
    pub header_last : {to next : ℕ} → LastField text from to next
        → header_from text column columns from ≡ named (with_name (slice from to text) column columns) next
    unfolding header_from told
    header_last {to} {next} last =
        let here = with_name (slice from to text) column columns in
        let place : length text - length (drop next text) ≡ next = omega (arith, length-drop next text, last.inside) in
        let all = named_next column columns (slice from to text) [] ∙ named_none (suc column) here in
        told_as text last.unquoted (ap (named_in column columns) last.fields ∙ all) last.behind ∙ ap (named here) place

    pub header_next : {at : ℕ} → NextField text from at
        → header_from text column columns from ≡ header_from text (suc column) (with_name (slice from at text) column columns) (suc at)
    unfolding header_from
    header_next {at} next =
        let further = fields_of (first_line (drop (suc at) text)) in
        told_as text next.quotes
        (ap (named_in column columns) next.fields ∙ named_next column columns (slice from at text) further) next.behind

    pub header_quoted : QuotedField text from → header_from text column columns from ≡ None
    unfolding header_from
    header_quoted q = told_as text q.quoted refl refl ∙ told_quoted text _ _
