-- `plan_scan::weigh_row` meets its contract: two ways, the row is got off or stayed on. Assumes nothing.
use Prim.Native.Nat.{ℕ, ◌+◌, ◌≤◌, ◌<◌}
use mathlib.Core.List.{List}
use mathlib.Core.Path.{◌≡◌, ap₂, subst}
use native.Mathlib.Omega.{arith}
use lib.ListN.{get_or, set, length-set}
use Rattle.timetable.specs.declared.Row.{Row}
use Rattle.plan_cells.specs.Cells.{trip_cells, pair_cell, paired}
use Rattle.plan_scan.specs.Stores.{entered, Weighs, gets_off, stays_on}
use Rattle.plan_scan.proofs.weigh_row.Goals as goal

-- the two ways, over plain values
weighs_off :
    (row : Row) (i off : ℕ) (w : List ℕ) (entry leave next : ℕ) → entry ≡ i → leave ≡ i → next ≡ get_or w (trip_cells + row.trip) 0
    → off < get_or w (pair_cell next) 0 → Weighs row i off w (set (set (set w (trip_cells + row.trip) entry) (pair_cell i) off) (pair_cell i + 1) leave)
weighs_off row i off w entry leave next e l n h =
    gets_off (subst (λ k. off < get_or w (pair_cell k) 0) n h) (ap₂ (λ a b. paired (entered w row.trip a) i off b) e l)

weighs_on :
    (row : Row) (i off : ℕ) (w : List ℕ) (entry next : ℕ) → entry ≡ i → next ≡ get_or w (trip_cells + row.trip) 0
    → get_or w (pair_cell next) 0 ≤ off
    → Weighs row i off w
    (paired (entered w row.trip entry) i (get_or w (pair_cell next) 0) (get_or (set (entered w row.trip entry) (pair_cell i) (get_or w (pair_cell next) 0)) (pair_cell next + 1) 0))
weighs_on row i off w entry next e n h =
    stays_on (subst (λ k. get_or w (pair_cell k) 0 ≤ off) n h)
    (ap₂ (λ a k. paired (entered w row.trip a) i (get_or w (pair_cell k) 0) (get_or (set (entered w row.trip a) (pair_cell i) (get_or w (pair_cell k) 0)) (pair_cell k + 1) 0)) e n)

pub bounds-work-pair : goal.bounds-work-pair
bounds-work-pair c = simp length-set (omega arith)

pub bounds-work-pair-else-off-on : goal.bounds-work-pair-else-off-on
bounds-work-pair-else-off-on c = simp length-set (omega arith)

pub bounds-work-next-else-off-on : goal.bounds-work-next-else-off-on
bounds-work-next-else-off-on c = simp length-set (omega arith)

pub returns-then-off-on : goal.returns-then-off-on
returns-then-off-on c =
    let a = c.args in
    weighs_off a.row a.i a.off a.work.now c.cell.result c.cell-then-off-on.result c.number.result
    c.cell.ensures c.cell-then-off-on.ensures c.number.ensures.0 c.if-off-on.true

pub returns-else-off-on : goal.returns-else-off-on
returns-else-off-on c =
    let a = c.args in
    weighs_on a.row a.i a.off a.work.now c.cell.result c.number.result
    c.cell.ensures c.number.ensures.0 c.if-off-on.false
