-- What each return of a row's functions says, over plain values. Assumes nothing.
use Prim.Native.Nat.{ℕ, ◌+◌, ◌≤◌, ◌<◌}
use native.Mathlib.Nat.{add-zero}
use native.Mathlib.Omega.{arith}
use mathlib.Core.Bool.{true, false}
use mathlib.Core.List.{List}
use mathlib.Core.Path.{◌≡◌, subst}
use lib.Dec.{leb}
use lib.ListN.{get_or, set}
use borrow.Author.Tests.{leb-true, leb-false}
use Rattle.timetable.specs.declared.Row.{Row}
use Rattle.plans.specs.Rides.{ready}
use Rattle.plan_cells.specs.Cells.{trip_cells, stop_cells}
use Rattle.plan_rows.specs.Reading.{block_cell}
use Rattle.plan_earliest.specs.Cells.{aboard, reached_at, landing_of, Boarded, boards, misses, Landed, sooner, no_sooner}

-- the landing as it is computed
pub landing_computed :
    (tables : List ℕ) (row : Row) {arrival : ℕ} → arrival ≡ row.arrival
    → arrival + get_or tables (block_cell row.class + 0) 0 ≡ landing_of tables row
landing_computed tables row e = rw (e, add-zero (block_cell row.class))

pub landed_sooner :
    (stop : ℕ) (work : List ℕ) {x landing : ℕ} → x ≡ landing → x < reached_at work stop
    → Landed stop landing work (set work (stop_cells + stop) x)
landed_sooner stop work {x} e h = subst (λ k. Landed stop k work (set work (stop_cells + stop) x)) e (sooner h)

pub landed_no_sooner : (stop : ℕ) (work : List ℕ) {x landing : ℕ} → x ≡ landing → reached_at work stop ≤ x → Landed stop landing work work
landed_no_sooner stop work e h = no_sooner (omega arith)

-- the test whether the row can be boarded, as it is computed
pub boards_now :
    (gate : ℕ) (row : Row) (work : List ℕ) {since : ℕ} → since ≡ ready gate (reached_at work row.board) → leb since row.departure ≡ true
    → Boarded gate row work (set work (trip_cells + row.trip) 1) true
boards_now gate row work {since} e h = boards (omega (arith, leb-true since row.departure h))

pub misses_now :
    (gate : ℕ) (row : Row) (work : List ℕ) {since : ℕ} → aboard work row.trip ≡ 0 → since ≡ ready gate (reached_at work row.board) → leb since row.departure ≡ false
    → Boarded gate row work work false
misses_now gate row work {since} z e h = misses z (omega (arith, leb-false since row.departure h))
