-- The cells before the first row: no trip is boarded, and only the source is reached. Assumes that there are cells for 2,000 trips and 200 stops.
use Prim.Native.Nat.{ℕ, ◌+◌, ◌≤◌, ◌<◌}
use native.Mathlib.Omega.{arith}
use mathlib.Core.List.{List}
use mathlib.Core.Path.{◌≡◌, sym, ap, subst, ◌∙◌}
use lib.ListN.{length, set}
use lib.Seq.{get_or-set_same, get_or-set_other}
use Rattle.timetable.specs.Limits.{most_stops, most_trips}
use Rattle.plan_cells.specs.Cells.{trip_cells, stop_cells, pair_cells, missing, filled}
use Rattle.plan_cells.specs.Outside.{SameOutside}
use Rattle.plan_cells.proofs.Filled.{filled_ahead, filled_inside}
use Rattle.plan_cells.proofs.Outside.{outside_then, outside_wider, outside_set, outside_filled}
use Rattle.plan_earliest.specs.Cells.{aboard, reached_at}
use Rattle.plan_earliest.proofs.Final.{SetOut}

-- all cells of trips and stops are blank
pub record Blank (work blank : List ℕ) : Type 0 where
  pub room : pair_cells ≤ length work
  pub behind : SameOutside trip_cells pair_cells work blank
  pub no_trip : (trip : ℕ) → trip < most_trips → aboard blank trip ≡ 0
  pub no_stop : (stop : ℕ) → stop < most_stops → reached_at blank stop ≡ missing

pub blanked :
    {work cleared blank : List ℕ} → pair_cells ≤ length work → cleared ≡ filled work trip_cells most_trips 0 → blank ≡ filled cleared stop_cells most_stops missing
    → Blank work blank
blanked {work} {cleared} room trips_filled stops_filled =
    record {
      room = room;
      behind =
          outside_then trips_stay
          (subst (λ (l : List ℕ). SameOutside trip_cells pair_cells cleared l) (sym stops_filled)
          (outside_wider (omega arith) (omega arith) (outside_filled cleared stop_cells most_stops missing (omega (arith, trips_stay.same_length)))));
      no_trip =
          λ trip small. ap (λ l. aboard l trip) stops_filled
          ∙ filled_ahead cleared stop_cells most_stops missing (trip_cells + trip) (omega (arith, trips_stay.same_length)) (omega arith)
          ∙ ap (λ l. aboard l trip) trips_filled ∙ filled_inside work trip_cells most_trips 0 trip (omega arith) small;
      no_stop =
          λ stop small. ap (λ l. reached_at l stop) stops_filled
          ∙ filled_inside cleared stop_cells most_stops missing stop (omega (arith, trips_stay.same_length)) small;
    }
  where
    trips_stay : SameOutside trip_cells pair_cells work cleared
    trips_stay =
        subst (λ (l : List ℕ). SameOutside trip_cells pair_cells work l) (sym trips_filled)
        (outside_wider (omega arith) (omega arith) (outside_filled work trip_cells most_trips 0 (omega arith)))

module _ {work blank : List ℕ} (clean : Blank work blank) (source : ℕ) {minute cell : ℕ} (small : source < most_stops) (as_asked : cell ≡ minute) where
  pub start_behind : SameOutside trip_cells pair_cells work (set blank (stop_cells + source) cell)
  start_behind = outside_then clean.behind (outside_set blank (stop_cells + source) cell (omega arith) (omega arith))

  pub set_out : SetOut source minute (set blank (stop_cells + source) cell)
  set_out =
      record {
        here = get_or-set_same blank (stop_cells + source) cell 0 (omega (arith, clean.room, clean.behind.same_length)) ∙ as_asked;
        elsewhere =
            λ stop fits other. get_or-set_other blank (stop_cells + source) (stop_cells + stop) cell 0 (λ e. other (omega arith))
            ∙ clean.no_stop stop fits;
        ashore =
            λ trip fits. get_or-set_other blank (stop_cells + source) (trip_cells + trip) cell 0 (λ e. let no' : ⊥ = omega arith in no')
            ∙ clean.no_trip trip fits;
      }
