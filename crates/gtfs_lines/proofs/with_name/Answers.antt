-- `gtfs_lines::with_name` meets its contract. Assumes nothing.
use mathlib.Core.Path.{ap, ◌∙◌}
use Rattle.gtfs_lines.specs.Naming.{with_name}
use Rattle.gtfs_lines.proofs.Naming.{with_name_lem}
use Rattle.gtfs_lines.proofs.with_name.Goals as goal

pub returns : goal.returns
returns c =
    let a = c.args in
    with_name_lem c.text_of-field.result.now a.column a.columns
    c.found.ensures
    c.found-2.ensures
    c.found-3.ensures
    c.found-4.ensures
    c.found-5.ensures
    ∙ ap (λ field. with_name field a.column a.columns) c.text_of-field.ensures
