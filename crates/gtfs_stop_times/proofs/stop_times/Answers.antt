-- `gtfs_stop_times::stop_times` meets its contract: the header, and then the lines behind it. Assumes nothing.
use mathlib.Core.Path.{sym, ap, ◌∙◌}
use Rattle.gtfs_lines.proofs.Headers.{header_cut, header_refused}
use Rattle.gtfs_stop_times.specs.Answers.{read_answer, out_after}
use Rattle.gtfs_stop_times.proofs.Answered.{fault_answered}
use Rattle.gtfs_stop_times.proofs.HeaderLine.{header_quoted, column_missing, columns_named, header_some}
use Rattle.gtfs_stop_times.proofs.stop_times.Goals as goal

pub returns-in_default : goal.returns-in_default
returns-in_default c =
    let a = c.args in
    fault_answered a.wanted a.out.now _ _ _ (header_quoted a.start a.text.now (header_refused a.text.now (sym c.header_columns.ensures ∙ c.in_default.is)))

pub returns-in-Some-missing_column : goal.returns-in-Some-missing_column
returns-in-Some-missing_column c =
    let a = c.args in
    let header = c.in-Some.header in
    let cut = header_cut a.text.now header.columns header.next (sym c.in-Some.ensures) in
    fault_answered a.wanted a.out.now _ _ _
    (column_missing a.start a.text.now header.columns header.next cut.unquoted cut.named cut.behind c.in-Some-missing_column.column c.in-Some-missing_column.ensures)

pub wanted_behind-requires : goal.wanted_behind-requires
wanted_behind-requires c =
    let a = c.args in
    let header = c.in-Some.header in
    let cut = header_cut a.text.now header.columns header.next (sym c.in-Some.ensures) in (
      header_some a.start a.text.now header.columns header.next cut.unquoted cut.named cut.behind
          (sym c.in_default-missing_column.is ∙ c.missing_column.ensures),
      cut.inside,
      c.requires.0,
      c.requires.1,
    )

pub returns : goal.returns
returns c =
    let a = c.args in
    let header = c.in-Some.header in
    let cut = header_cut a.text.now header.columns header.next (sym c.in-Some.ensures) in
    let whole =
    columns_named a.start a.text.now header.columns header.next cut.unquoted cut.named cut.behind
    (sym c.in_default-missing_column.is ∙ c.missing_column.ensures)
    in
    (c.wanted_behind.ensures.0 ∙ ap (read_answer a.wanted) (sym whole), c.wanted_behind.ensures.1 ∙ ap (λ r. out_after a.wanted r a.out.now) (sym whole))
