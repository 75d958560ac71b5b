-- Document 02, E2: the rows that a file holds: "exactly one row for each pair of neighbouring calls", "by departure, then by trip number,
-- then as read". Assumes nothing.
use Prim.Native.Nat.{ℕ, ◌+◌}
use mathlib.Core.Bool.{Bool}
use mathlib.Core.List.{List}
use mathlib.Core.Path.{◌≡◌, ap, ◌∙◌}
use native.Mathlib.Omega.{arith}
use lib.ListN.{length}
use Rattle.sorting.specs.Counted.{counted}
use Rattle.timetable.specs.declared.Row.{Row}
use Rattle.gtfs_order.specs.InTurn.{alike}
use Rattle.gtfs_order.proofs.Ordered.{in_order_ordered}
use Rattle.gtfs_order.proofs.AsRead.{in_order_as_read, in_order_keeps, in_order_length}
use Rattle.gtfs_stop_time.specs.StopTime.{StopTime}
use Rattle.gtfs_calls.specs.Calls.{trips_of, stops_of, rows_of, timetable_of}
use Rattle.gtfs_calls.specs.Neighbours.{neighbours}
use Rattle.gtfs_calls.specs.FileRows.{pair_rows, FileRows}
use Rattle.gtfs_calls.proofs.Neighbours.{rows_of_neighbours, rows_many}
use Rattle.gtfs_calls.proofs.EachOnce.{each_once}

pub file_rows : (calls : List StopTime) → FileRows calls (timetable_of calls).rows
unfolding timetable_of
file_rows calls =
    let read : rows_of calls ≡ pair_rows calls = rows_of_neighbours calls in
    record {
      ordered = in_order_ordered (rows_of calls);
      as_read = λ departure trip. in_order_as_read departure trip (rows_of calls) ∙ ap (alike departure trip) read;
      same_rows = λ test. in_order_keeps test (rows_of calls) ∙ ap (counted test) read;
      many = omega (
        arith,
        in_order_length (rows_of calls),
        ap (λ (l : List Row). length l) read,
        rows_many (stops_of calls) (trips_of calls) (neighbours calls),
        each_once calls,
      );
    }
