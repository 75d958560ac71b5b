-- A header that is read field by field to its end is the header. Assumes nothing.
use Prim.Native.Nat.{ℕ, suc}
use mathlib.Core.List.{List}
use mathlib.Core.Path.{◌≡◌, sym, ◌∙◌}
use native.Mathlib.Omega.{arith}
use lib.ListN.{drop}
use lib.Seq.{slice}
use Rattle.gtfs_lines.specs.declared.Span.{Span}
use Rattle.gtfs_lines.specs.declared.Columns.{Columns}
use Rattle.gtfs_lines.specs.Cut.{heading_of, header_of, read_from, read_at}
use Rattle.gtfs_lines.specs.Naming.{with_name}
use Rattle.gtfs_lines.proofs.Naming.{no_columns}
use Rattle.gtfs_lines.proofs.FieldWalk.{Walk, last, more, quoted, walk}
use Rattle.gtfs_lines.proofs.HeaderSteps.{header_from, header_starts, header_last, header_next, header_quoted}

-- what a field makes of the columns
abbrev named_by : (text : List ℕ) → (column : ℕ) → Span → Columns → Columns
named_by text column span columns = with_name (slice span.from span.to text) column columns

header_reads : (text : List ℕ) {from : ℕ} → Walk text from → (column : ℕ) (columns : Columns)
    → read_from heading_of (named_by text) text column from from columns (drop from text) ≡ header_from text column columns from
header_reads text {from} (last to next l) column columns =
    l.reads heading_of (named_by text) column columns ∙ sym (header_last text column columns from l)
header_reads text {from} (more at n further) column columns =
    n.reads heading_of (named_by text) column columns
    ∙ header_reads text further (suc column) (with_name (slice from at text) column columns)
    ∙ sym (header_next text column columns from n)
header_reads text {from} (quoted q) column columns =
    q.reads heading_of (named_by text) column columns ∙ sym (header_quoted text column columns from q)

pub header_read : (text : List ℕ)
    → read_at heading_of (λ column span columns. with_name (slice span.from span.to text) column columns) text 0 no_columns ≡ header_of text
unfolding read_at
header_read text = header_reads text (walk text 0 (omega arith)) 1 no_columns ∙ sym (header_starts text)
