-- `file_writing::put_row` meets its contract: six numbers of two bytes. Assumes nothing.
use mathlib.Core.Path.{refl}
use Rattle.numbers.specs.Numbers.{u16_bytes}
use Rattle.file_encoding.specs.Encode.{row_bytes}
use Rattle.file_writing.proofs.Stores.{four_stored, six_stored}
use Rattle.file_writing.proofs.put_row.Goals as goal

pub returns : goal.returns
unfolding row_bytes u16_bytes
returns c =
    let a = c.args in
    let r = a.row in
    six_stored a.out.now a.at r.board r.land r.departure r.arrival (u16_bytes r.trip) (u16_bytes r.class) 10 refl
    (four_stored a.out.now a.at r.board r.land r.departure r.arrival c.put_u16.ensures c.put_u16-2.ensures c.put_u16-3.ensures c.put_u16-4.ensures)
    c.put_u16-5.ensures c.put_u16-6.ensures
