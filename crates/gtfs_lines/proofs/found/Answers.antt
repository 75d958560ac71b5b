-- `gtfs_lines::found` meets its contract: a field that is the name counts where none before it did. Assumes nothing.
use mathlib.Core.Path.{sym, ◌∙◌}
use Rattle.gtfs_lines.proofs.Naming.{found_before, found_first}
use Rattle.gtfs_lines.proofs.SameText.{same_pointwise}
use Rattle.gtfs_lines.proofs.found.Goals as goal

pub returns-in-Some : goal.returns-in-Some
returns-in-Some c = let a = c.args in found_before a.field.now a.name.now a.column a.before c.in-Some.is

pub returns-in-None : goal.returns-in-None
returns-in-None c =
    let a = c.args in
    c.then_some.ensures
    ∙ found_first a.field.now a.name.now a.column a.before c.eq.result
    (sym (same_pointwise a.field.now a.name.now) ∙ sym c.eq.ensures) c.in-None.is
