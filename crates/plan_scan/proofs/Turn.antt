-- One turn of the scan's loop, over the row and the values that its calls give.
use Prim.Native.Nat.{ℕ, suc, ◌≤◌, ◌<◌}
use mathlib.Core.List.{List}
use mathlib.Core.Logic.{◌≢◌}
use mathlib.Core.Path.{◌≡◌, sym, ap, subst, ◌∙◌}
use native.Mathlib.Omega.{arith}
use lib.ListN.{length}
use lib.Seq.{slice}
use Rattle.timetable.specs.Limits.{most_stops}
use Rattle.timetable.specs.Timetable.{row_of, shares_of}
use Rattle.timetable.specs.declared.Row.{Row}
use Rattle.plans.specs.Worth.{Valued}
use Rattle.plans.specs.Chosen.{off_in_ticks}
use Rattle.plan_cells.specs.Cells.{trip_cells, used, cell_of}
use Rattle.plan_cells.specs.Outside.{SameOutside}
use Rattle.plan_cells.proofs.Outside.{outside_then}
use Rattle.plan_rows.specs.declared.SectionPlaces.{SectionPlaces}
use Rattle.plan_rows.specs.Reading.{rows_in, tables_in, FileReadable, TablesHeld}
use Rattle.plans.specs.declared.Goal.{Goal}
use Rattle.plan_landing.specs.Landing.{Landable, SomeLandable, ride_off}
use Rattle.plan_scan.specs.Stores.{Weighs, Chose, Weighable, Pushable}
use Rattle.plan_scan.specs.Scanned.{scan_in}
use Rattle.plan_scan.specs.Held.{PairsHeld, StackHeld, LimitsHeld, Held}
use Rattle.plan_scan.proofs.TimetableTo.{own_ride}
use Rattle.plan_scan.proofs.PairsHeld.{weighs_stays}
use Rattle.plan_scan.proofs.Step.{weighable, row_landable, off_same, pairs_after, stacks_after, held_unchosen, pushable, held_chosen, inside_chosen}

-- the row is weighed and not chosen yet
pub record Weighed (file : List ℕ) (s : SectionPlaces) (goal : Goal) (first end i : ℕ) (w w' limits : List ℕ) : Type 0 where
  pub pairs_held : PairsHeld w' s.rows i end (scan_in file s goal i end)
  pub stacks_held :
      (stop : ℕ) → stop < most_stops
      → StackHeld w' (suc s.rows) (slice first end (rows_in file s)) (slice (suc i) end (rows_in file s)) (scan_in file s goal (suc i) end).chosen stop
  pub limits_held : LimitsHeld limits goal.margin (scan_in file s goal (suc i) end).chosen
  pub stays : SameOutside trip_cells (used s.rows) w w'

module _ (file : List ℕ) (s : SectionPlaces) (goal : Goal) (first end : ℕ) (stand : FileReadable file s) (inside : end ≤ s.rows) (i : ℕ) (low : first ≤ i)
    (high : i < end) (w limits : List ℕ) (room : used s.rows ≤ length w) (row : Row) (is : row ≡ row_of (rows_in file s) i) where
  module _ (held : Held file s goal first end (suc i) w limits) where
    pub turn_weighable : Weighable row i w
    turn_weighable =
        subst (λ (r : Row). Weighable r i w) (sym is) (weighable file s goal first end stand inside i low high w room held.pairs_held)

    module _ (tables : List ℕ) (tables_held : TablesHeld tables (tables_in file s)) where
      turn_landable : Landable row tables w (shares_of (tables_in file s) row.class) (scan_in file s goal (suc i) end).chosen
      turn_landable =
          subst (λ (r : Row). Landable r tables w (shares_of (tables_in file s) r.class) (scan_in file s goal (suc i) end).chosen) (sym is)
          (row_landable file s goal first end stand inside i low high w room tables tables_held limits held)

      pub turn_some_landable : SomeLandable row tables w
      turn_some_landable =
          record {
            shares = shares_of (tables_in file s) row.class;
            chosen = (scan_in file s goal (suc i) end).chosen;
            given = turn_landable;
          }

      module _ (off : ℕ)
          (got : (shares : List ℕ) (chosen : List Valued) → Landable row tables w shares chosen
          → off ≡ cell_of (off_in_ticks goal (ride_off row shares) chosen)) where
        turn_off : off ≡ cell_of (off_in_ticks goal (own_ride file s i) (scan_in file s goal (suc i) end).chosen)
        turn_off =
            got (shares_of (tables_in file s) row.class) (scan_in file s goal (suc i) end).chosen turn_landable
            ∙ ap (λ (r : Row). cell_of (off_in_ticks goal (ride_off r (shares_of (tables_in file s) r.class)) (scan_in file s goal (suc i) end).chosen)) is
            ∙ ap cell_of (off_same file s goal first end stand inside i low high w room)

        pub turn_weighed : (w' : List ℕ) → Weighs row i off w w' → Weighed file s goal first end i w w' limits
        turn_weighed w' weighs =
            let as_row : Weighs (row_of (rows_in file s) i) i (cell_of (off_in_ticks goal (own_ride file s i) (scan_in file s goal (suc i) end).chosen)) w w' =
            subst (λ x. Weighs (row_of (rows_in file s) i) i x w w') turn_off (subst (λ (r : Row). Weighs r i off w w') is weighs) in
            record {
              pairs_held = pairs_after file s goal first end stand inside i low high w room w' limits held as_row;
              stacks_held = stacks_after file s goal first end stand inside i low high w room w' limits held as_row;
              limits_held = held.limits_held;
              stays = weighs_stays s.rows (row_of (rows_in file s) i) i (cell_of (off_in_ticks goal (own_ride file s i) (scan_in file s goal (suc i) end).chosen)) w w'
                  (stand.row_fits i (omega arith)).trip (omega arith) as_row;
            }

  module _ (w' : List ℕ) (weighed : Weighed file s goal first end i w w' limits) where
    room' : used s.rows ≤ length w'
    room' = let same = weighed.stays.same_length in omega arith

    pub turn_unchosen : row.board ≡ goal.target → Held file s goal first end i w' limits
    turn_unchosen there =
        held_unchosen file s goal first end stand inside i low high w' room' limits (ap (λ (r : Row). r.board) (sym is) ∙ there) weighed.pairs_held weighed.stacks_held weighed.limits_held

    module _ (away : row.board ≢ goal.target) where
      row_away : (row_of (rows_in file s) i).board ≢ goal.target
      row_away q = away (ap (λ (r : Row). r.board) is ∙ q)

      pub turn_pushable : Pushable row i w'
      turn_pushable =
          subst (λ (r : Row). Pushable r i w') (sym is) (pushable file s goal first end stand inside i low high w' room' row_away weighed.stacks_held)

      module _ (w'' limits' : List ℕ) (chose : Chose row i goal.margin w' limits w'' limits') where
        as_row : Chose (row_of (rows_in file s) i) i goal.margin w' limits w'' limits'
        as_row = subst (λ (r : Row). Chose r i goal.margin w' limits w'' limits') is chose

        pub turn_chosen : Held file s goal first end i w'' limits'
        turn_chosen =
            held_chosen file s goal first end stand inside i low high w' room' row_away weighed.stacks_held limits w'' limits' as_row weighed.pairs_held weighed.limits_held

        pub turn_stays : SameOutside trip_cells (used s.rows) w w''
        turn_stays =
            outside_then weighed.stays
            (inside_chosen file s goal first end stand inside i low high w' room' row_away weighed.stacks_held limits w'' limits' as_row)
