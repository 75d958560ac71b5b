-- `gtfs_lines::line_at` meets its contract: the columns are kept beside the fields. Assumes nothing.
use mathlib.Core.Path.{refl, ◌∙◌}
use lib.ListN.{drop}
use Rattle.gtfs_lines.specs.Cut.{cut_at, cut_of, with_field, read_at, no_fields}
use Rattle.gtfs_lines.proofs.Along.{read_along}
use Rattle.gtfs_lines.proofs.line_at.Goals as goal

pub returns : goal.returns
unfolding cut_at read_at
returns c =
    let a = c.args in
    c.read_at.ensures
    ∙ read_along (λ wanted next. cut_of wanted.fields next)
    (λ column span wanted. record { columns = wanted.columns; fields = with_field wanted.columns column span wanted.fields })
    (with_field a.columns) (λ fields. record { columns = a.columns; fields = fields }) (λ column span fields. refl) a.text.now 1 a.start a.start
    no_fields (drop a.start a.text.now)
