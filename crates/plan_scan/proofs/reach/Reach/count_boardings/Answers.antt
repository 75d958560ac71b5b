-- `plan_scan::Reach::count_boardings` meets its contract: sizes so far and rows to come make the whole count. Assumes nothing.
use Prim.Native.Nat.{ℕ, ◌+◌, ◌<◌}
use mathlib.Core.List.{List, ◌∷◌}
use mathlib.Core.Path.{◌≡◌, sym, ap, ap₂, subst, ◌∙◌}
use native.Mathlib.Numerals.{add-one}
use native.Mathlib.Omega.{arith}
use lib.Seq.{slice, slice_empty, slice-cons, length-slice}
use Rattle.timetable.specs.Limits.{most_stops}
use Rattle.timetable.specs.Timetable.{no_row}
use Rattle.timetable.specs.declared.Row.{Row}
use Rattle.plan_rows.specs.Sailings.{rows_of}
use Rattle.plan_scan.proofs.Regions.{count_few}
use Rattle.plan_scan.proofs.Counting.{Counting, counting_on, counting_done}
use Rattle.plan_scan.proofs.reach.Reach.count_boardings.Goals as goal

pub reserve-requires : goal.reserve-requires
reserve-requires c =
    let r = c.args.self.now in
    let rows = rows_of r.sailings in
    let row = c.nth_row.result in
    let boards : row.board < most_stops =
    subst (λ (x : Row). x.board < most_stops) (sym c.nth_row.ensures.0) (r.sailings.readable.row_fits c.loop-i.i (omega arith)).board
    in (
      boards,
      omega arith,
      omega (
        arith,
        c.loop-i.invariant.so_far row.board boards,
        count_few row.board (slice r.first r.end rows),
        length-slice r.first r.end rows (omega (arith, r.sailings.readable.rows_count)),
        r.sailings.readable.few_rows,
      ),
    )

pub loop-i-preserved : goal.loop-i-preserved
loop-i-preserved c =
    let r = c.args.self.now in
    let rows = rows_of r.sailings in
    let all = slice r.first r.end rows in
    let row = c.nth_row.result in
    let i = c.loop-i.i in
    let boards : row.board < most_stops =
    subst (λ (x : Row). x.board < most_stops) (sym c.nth_row.ensures.0) (r.sailings.readable.row_fits i (omega arith)).board
    in
    let front : slice i r.end rows ≡ row ∷ slice (i + 1) r.end rows =
    slice-cons i r.end rows no_row (omega arith) (omega (arith, r.sailings.readable.rows_count))
    ∙ ap₂ (λ (x : Row) (k : ℕ). x ∷ slice k r.end rows) (sym c.nth_row.ensures.0) (sym (add-one i))
    in
    subst (λ (w : List ℕ). Counting all (slice (i + 1) r.end rows) c.args.work.now w) (sym c.reserve.ensures)
    (counting_on all (slice (i + 1) r.end rows) row c.args.work.now c.loop-i.work c.requires.0 boards
    (subst (λ (rest : List Row). Counting all rest c.args.work.now c.loop-i.work) front c.loop-i.invariant))

pub returns : goal.returns
returns c =
    let r = c.args.self.now in
    let rows = rows_of r.sailings in
    let done : c.loop-i.i ≡ r.end = omega arith in
    counting_done (slice r.first r.end rows) c.args.work.now c.loop-i.work
    (subst (λ (l : List Row). Counting (slice r.first r.end rows) l c.args.work.now c.loop-i.work)
    (ap (λ k. slice k r.end rows) done ∙ slice_empty r.end rows) c.loop-i.invariant)
