-- `file_writing::put_trailer` meets its contract: four numbers of two bytes, and two offsets of four. Assumes nothing.
use mathlib.Core.Path.{refl}
use Rattle.numbers.specs.Numbers.{u16_bytes, u32_bytes}
use Rattle.file_encoding.specs.Encode.{bytes_of_trailer}
use Rattle.file_writing.proofs.Stores.{four_stored, six_stored}
use Rattle.file_writing.proofs.put_trailer.Goals as goal

pub returns : goal.returns
unfolding bytes_of_trailer u32_bytes u16_bytes
returns c =
    let a = c.args in
    let h = a.trailer in
    six_stored a.out.now a.at h.version h.stops h.rows h.classes (u32_bytes h.rowstart) (u32_bytes h.tablestart) 12 refl
    (four_stored a.out.now a.at h.version h.stops h.rows h.classes c.put_u16.ensures c.put_u16-2.ensures c.put_u16-3.ensures c.put_u16-4.ensures)
    c.put_u32.ensures c.put_u32-2.ensures
