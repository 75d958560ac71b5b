-- `tables::print_made` cuts its shares where they end: the delay of a table that was made is at most version 1's longest. Assumes nothing.
use Prim.Native.Nat.{◌+◌}
use mathlib.Core.Path.{sym, ◌∙◌}
use native.Mathlib.Omega.{arith}
use lib.Seq.{length-take-le}
use Rattle.tally_table.proofs.Small.{table_small}
use Rattle.tables.proofs.print_made.Goals as goal

pub slice_bounds-say_numbers-end-in-Ok : goal.slice_bounds-say_numbers-end-in-Ok
slice_bounds-say_numbers-end-in-Ok c =
    let t = c.in-Ok.table in
    let small = table_small _ c.args.tally.now _ t.delay t.landings t.apart (sym c.table_of.ensures.0 ∙ c.in-Ok.is) in
    sym (length-take-le (t.delay + 1) c.table_of.new.shares (omega (arith, small.0, c.table_of.array_long)))
