-- The scan's first and last cells: what parting the stacks leaves begins it, and what it holds at its first row is the scan.
use Prim.Native.Nat.{ℕ, suc, ◌+◌, ◌≤◌, ◌<◌}
use mathlib.Core.List.{List, []}
use mathlib.Core.Path.{◌≡◌, sym, ap, subst, ◌∙◌}
use native.Mathlib.Omega.{arith}
use lib.ListN.{get_or}
use lib.Seq.{slice, slice_empty, length-slice}
use Rattle.timetable.specs.Limits.{most_stops, most_trips}
use Rattle.plans.specs.Chosen.{in_ticks, Scan, scan, next_of}
use Rattle.plan_cells.specs.Cells.{trip_cells, missing, pair_cell}
use Rattle.plan_stacks.specs.Stacks.{stack_at, stack_start, start_pair, stack_size}
use Rattle.plan_rows.specs.declared.SectionPlaces.{SectionPlaces}
use Rattle.plan_rows.specs.Reading.{rows_in, tables_in, FileReadable}
use Rattle.plans.specs.declared.Goal.{Goal}
use Rattle.plan_stacks.specs.Chosen.{at_stop}
use Rattle.plan_scan.specs.Stores.{row_worth}
use Rattle.plan_stacks.specs.Regions.{below}
use Rattle.plan_scan.specs.Regions.{count_at}
use Rattle.plan_scan.specs.Scanned.{scan_in, ScanHeld}
use Rattle.plan_scan.specs.Held.{PairsHeld, StackHeld, LimitsHeld, Held}
use Rattle.plan_stacks.proofs.Regions.{below_later}
use Rattle.plan_scan.proofs.Regions.{below_count}
use Rattle.plan_scan.proofs.Limits.{no_limits, no_limits_lem}
use Rattle.plan_scan.proofs.TimetableTo.{climbing}

abbrev nothing : Scan
nothing = record { weighed = []; chosen = [] }

module _ (file : List ℕ) (s : SectionPlaces) (goal : Goal) (first end : ℕ) (stand : FileReadable file s) (inside : end ≤ s.rows) where
  scan_none : scan_in file s goal end end ≡ nothing
  unfolding scan
  scan_none = ap (scan (in_ticks goal) (tables_in file s) end) (slice_empty end (rows_in file s))

  -- no row has been weighed: no trip has a next row, the stacks are empty, any worth lies below the limits
  pub held_begins :
      (w : List ℕ) → ((trip : ℕ) → trip < most_trips → get_or w (trip_cells + trip) 0 ≡ s.rows) → row_worth w s.rows ≡ missing
      → ((stop : ℕ) → stop < most_stops → start_pair w stop ≡ suc s.rows + below (λ k. count_at k (slice first end (rows_in file s))) stop)
      → ((stop : ℕ) → stop < most_stops → stack_size w stop ≡ 0) → Held file s goal first end end w no_limits
  unfolding next_of at_stop stack_at
  held_begins w no_next last starts empty =
      record {
        pairs_held = subst (λ (sc : Scan). PairsHeld w s.rows end end sc) (sym scan_none)
            (record {
              weighed = λ j low high. absurd (let z : ⊥ = omega arith in z);
              last = last;
              next = λ trip small. let n = no_next trip small in
                  record {
                    later = omega arith;
                    inside = omega arith;
                    holds = ap (λ k. get_or w (pair_cell k) 0) n ∙ last;
                  };
            });
        stacks_held = λ stop h. subst (λ (sc : Scan). StackHeld w (suc s.rows) (slice first end (rows_in file s)) (slice end end (rows_in file s)) sc.chosen stop) (sym scan_none)
            (record {
              start = starts stop h;
              room = (let e = empty stop h in omega arith);
              holds = ap (stack_at w (stack_start w stop)) (empty stop h);
            });
        limits_held = subst (λ (sc : Scan). LimitsHeld no_limits goal.margin sc.chosen) (sym scan_none) (no_limits_lem goal.margin);
      }

  pub held_ends : (w limits : List ℕ) → first ≤ end → Held file s goal first end first w limits → ScanHeld w s.rows first end (scan_in file s goal first end)
  held_ends w limits low held =
      record {
        pair_holds = held.pairs_held.weighed;
        stack_holds = λ stop h. (held.stacks_held stop h).holds;
        climbing = λ stop h. climbing file s goal end stand inside first low stop;
        stack_behind = λ stop h. let start = (held.stacks_held stop h).start in omega arith;
        stack_inside = λ stop h.
            let start = (held.stacks_held stop h).start in
            let few = (held.stacks_held stop h).room in
            let ends = below_later (λ k. count_at k (slice first end (rows_in file s))) stop most_stops h in
            let total = below_count (slice first end (rows_in file s)) most_stops in
            let rows = length-slice first end (rows_in file s) (omega (arith, stand.rows_count)) in omega arith;
      }
