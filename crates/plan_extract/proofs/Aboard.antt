-- A chosen ride, as the lent cells and the file hold it: its pair of cells, and the row where it leaves. Assumes nothing.
use Prim.Native.Nat.{ℕ, ◌+◌, ◌*◌, ◌≤◌, ◌<◌}
use mathlib.Core.List.{List, Memᴰ}
use mathlib.Core.Option.{Option, some}
use mathlib.Core.Path.{◌≡◌, sym, ap, ap₂, subst, ◌∙◌}
use native.Mathlib.Nat.{add-zero}
use native.Mathlib.Omega.{arith}
use lib.ListN.{length, get_or}
use Rattle.timetable.specs.Limits.{most_stops}
use Rattle.timetable.specs.Timetable.{shares_of, maximum_delay, row_of}
use Rattle.plans.specs.Rides.{lands_by}
use Rattle.plans.specs.Worth.{Valued}
use Rattle.plan_cells.specs.Cells.{pair_cells}
use Rattle.plan_rows.specs.declared.SectionPlaces.{SectionPlaces}
use Rattle.plan_rows.specs.Reading.{rows_in, tables_in, FileReadable, TablesHeld}
use Rattle.plans.specs.declared.Goal.{Goal}
use Rattle.plan_scan.specs.Scanned.{scan_in, PairHolds, ScanHeld}
use Rattle.plan_extract.proofs.Timed.{known}

pub record Aboard (file : List ℕ) (s : SectionPlaces) (tables work : List ℕ) (i : ℕ) (v : Valued) : Type 0 where
  pub leaves : get_or work (pair_cells + 2 * i + 1) 0 ≡ v.ride.leave
  pub worth : get_or work (pair_cells + 2 * i) 0 ≡ v.worth
  pub inside : v.ride.leave < s.rows
  pub to : v.ride.to ≡ (row_of (rows_in file s) v.ride.leave).land
  pub arrives : v.ride.arrives ≡ (row_of (rows_in file s) v.ride.leave).arrival
  pub stop : v.ride.to < most_stops
  pub class : (row_of (rows_in file s) v.ride.leave).class < 16
  pub lands :
      (row_of (rows_in file s) v.ride.leave).arrival + get_or tables (256 * (row_of (rows_in file s) v.ride.leave).class + 0) 0
      ≡ lands_by v.ride
  pub minute : lands_by v.ride < 65536

module _ {file : List ℕ} {s : SectionPlaces} {tables work : List ℕ} (stand : FileReadable file s) (blocks : TablesHeld tables (tables_in file s)) (goal : Goal)
    (first end : ℕ) (ahead : first ≤ end) (inside : end ≤ s.rows) (held : ScanHeld work s.rows first end (scan_in file s goal first end)) where
  pub aboard : (v : Valued) → Memᴰ v (scan_in file s goal first end).chosen → (i : ℕ) → v.ride.board ≡ i → Aboard file s tables work i v
  aboard v m i here =
      let k = known file s stand end inside goal first ahead v m in
      let row = row_of (rows_in file s) v.ride.leave in
      let below : v.ride.leave < s.rows = omega (arith, k.leaves) in
      let fits = stand.row_fits v.ride.leave below in
      let pair : PairHolds work i (some v) =
      subst (λ j. PairHolds work j (some v)) here
      (subst (λ (o : Option Valued). PairHolds work v.ride.board o) k.best
      (held.pair_holds v.ride.board k.from_first k.before_end)) in
      let lands : row.arrival + get_or tables (256 * row.class + 0) 0 ≡ lands_by v.ride =
      ap₂ (λ a b. a + b) (sym k.arrives)
      (ap (λ j. get_or tables j 0) (add-zero (256 * row.class))
      ∙ (blocks.held row.class (let z : row.class < length (tables_in file s) = omega (arith, stand.tables_count, fits.class) in z)).longest_held
      ∙ ap maximum_delay (sym k.shares)) in
      record {
        leaves = pair.1;
        worth = pair.0;
        inside = below;
        to = k.to;
        arrives = k.arrives;
        stop = subst (λ j. j < most_stops) (sym k.to) fits.land;
        class = (let z : row.class < 16 = omega (arith, fits.class, stand.few_classes) in z);
        lands = lands;
        minute =
            (let a : maximum_delay v.ride.shares ≡ maximum_delay (shares_of (tables_in file s) row.class) = ap maximum_delay k.shares in
            let z : v.ride.arrives + maximum_delay v.ride.shares < 65536 = omega (arith, fits.lands, k.arrives) in z);
      }
