-- `file_writing::put_never_late` meets its contract: maximum 0, and its one share. Assumes nothing.
use mathlib.Core.Path.{refl}
use Rattle.laws.proofs.Lists.{sets_on}
use Rattle.numbers.specs.Numbers.{u16_bytes}
use Rattle.timetable.specs.Classes.{share_total}
use Rattle.file_encoding.specs.Encode.{shares_bytes, table_bytes, tables_bytes}
use Rattle.file_writing.proofs.put_never_late.Goals as goal

pub returns : goal.returns
unfolding tables_bytes table_bytes shares_bytes u16_bytes
returns c = sets_on c.args.out.now c.args.at (u16_bytes 0) (u16_bytes share_total) 2 refl c.put_u16.ensures c.put_u16-2.ensures
