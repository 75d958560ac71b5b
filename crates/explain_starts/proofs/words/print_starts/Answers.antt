-- `explain_starts::words::print_starts` is safe and ends: what it lends is enough for every sound file. Assumes nothing.
use native.Mathlib.Omega.{arith}
use Rattle.explain_starts.proofs.Asking.{stops_fit, lent_enough}
use Rattle.explain_starts.proofs.words.print_starts.Goals as goal

pub last_start-start-requires : goal.last_start-start-requires
last_start-start-requires c =
    let a = c.args in
    let fits = c.requires.2 in
    stops_fit a.q.source a.q.target a.q.gate c.requires.0 c.requires.1 fits.source fits.target fits.apart fits.gate
    (omega (arith, lent_enough a.f a.file.now a.trailer c.requires.0 c.requires.1, c.work_room-work.ensures.1))

pub print_others-requires : goal.print_others-requires
print_others-requires c =
    let a = c.args in
    let enough = lent_enough a.f a.file.now a.trailer c.requires.0 c.requires.1 in
    (c.requires.0, c.requires.1, c.requires.2.target, c.requires.2.gate, omega (arith, enough, c.work_room-work.ensures.1))

pub print_others-requires-in-None : goal.print_others-requires-in-None
print_others-requires-in-None c =
    let a = c.args in
    let enough = lent_enough a.f a.file.now a.trailer c.requires.0 c.requires.1 in
    (c.requires.0, c.requires.1, c.requires.2.target, c.requires.2.gate, omega (arith, enough, c.work_room-work.ensures.1))
