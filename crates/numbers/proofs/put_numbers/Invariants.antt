use mathlib.Core.Path.{◌≡◌}
use lib.ListN.{take}
use Rattle.numbers.specs.Bytes.{bytes_of}
use Rattle.numbers.specs.Over.{over}
use Rattle.numbers.proofs.put_numbers.Given as goal

-- so far the first `i` numbers are put
abbrev pub invariant-loop-i : goal.invariant-loop-i
invariant-loop-i l = l.out ≡ over (bytes_of (take l.i l.numbers)) l.initial.out
