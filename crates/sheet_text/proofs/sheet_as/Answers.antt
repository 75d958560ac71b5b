-- `sheet_text::sheet_as` meets its contract: each way to its return writes the text of its case. Assumes nothing.
use mathlib.Core.Path.{sym, ◌∙◌}
use Rattle.sheet_text.proofs.Sheets.{refused_sheet, asked_sheet, no_room_lem, sheet_written}
use Rattle.sheet_text.proofs.sheet_as.Goals as goal

pub returns-then-out-lt-SHEET_ROOM : goal.returns-then-out-lt-SHEET_ROOM
returns-then-out-lt-SHEET_ROOM c =
    let a = c.args in no_room_lem a.f a.sailings.now a.query.now a.out.now c.if-out-lt-SHEET_ROOM.true

pub returns-in-Err : goal.returns-in-Err
returns-in-Err c =
    let a = c.args in
    sheet_written a.f a.sailings.now a.query.now a.out.now c.if-out-lt-SHEET_ROOM.false c.put_refused-end.ensures.0 c.put_refused-end.ensures.1
    (refused_sheet a.f a.sailings.now a.query.now (sym c.check_as.ensures ∙ c.in-Err.is))

pub returns-in-Ok : goal.returns-in-Ok
returns-in-Ok c =
    let a = c.args in
    sheet_written a.f a.sailings.now a.query.now a.out.now c.if-out-lt-SHEET_ROOM.false c.put_planned-end.ensures.0 c.put_planned-end.ensures.1
    (asked_sheet a.f a.sailings.now a.query.now c.query_in.ensures)
