-- `clock::Minute::time_text` meets its contract: the day ahead of the face, and the letter ahead of the day. Assumes nothing.
use native.Mathlib.Omega.{arith}
use Rattle.clock.proofs.Writing.{day_small, letter_fits, lettered}
use Rattle.clock.proofs.Minute.time_text.Goals as goal

pub put_ahead-start-requires : goal.put_ahead-start-requires
put_ahead-start-requires c = (omega (arith, c.day.ensures, day_small c.args.self.minute (omega arith)), omega arith)

pub overflow_sub-start : goal.overflow_sub-start
overflow_sub-start c = letter_fits c.args.self.minute (omega arith) c.day.ensures c.face-bytes.ensures c.put_ahead-start.ensures

pub returns : goal.returns
returns c = lettered c.args.self.minute c.put_ahead-start.result (omega arith) c.day.ensures c.face-bytes.ensures c.put_ahead-start.ensures
