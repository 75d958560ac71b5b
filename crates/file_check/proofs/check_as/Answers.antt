-- `file_check::check_as` meets its contract: a fault of the sections is the answer, and behind joined ones the rows decide. Assumes nothing.
use borrow.Author.Rules.{rules}
use Rattle.file_check.proofs.Steps.{refused_sections, refused_rows, rows_keep, rows_inside}
use Rattle.file_check.proofs.check_as.Goals as goal

pub returns-in_err-trailer : goal.returns-in_err-trailer
returns-in_err-trailer c =
    let refused = refused_sections c.args.f c.args.file.now _ c.in_err-trailer.ensures in
    search rules

pub invariant_of-rows : goal.invariant_of-rows
invariant_of-rows c =
    let lie = rows_inside c.args.f c.args.file.now _ c.in_ok-trailer.ensures c.requires in
    record { holds_row = lie.width_holds_row; inside = lie.inside }

pub check-requires : goal.check-requires
check-requires c = (rows_inside c.args.f c.args.file.now _ c.in_ok-trailer.ensures c.requires).few

pub returns-in_err-check : goal.returns-in_err-check
returns-in_err-check c =
    let refused = refused_rows c.args.f c.args.file.now _ c.in_ok-trailer.ensures _ c.in_err-check.ensures in
    search rules

pub returns : goal.returns
returns c = rows_keep c.args.f c.args.file.now _ c.in_ok-trailer.ensures _ c.in_ok-check.ensures
