-- One turn of the scan: a row is weighed, then chosen or not, and the cells hold what the scan says from that row on.
use Prim.Native.Nat.{ℕ, suc, ◌+◌, ◌-◌, ◌*◌, ◌≤◌, ◌<◌}
use mathlib.Core.List.{List, ◌∷◌}
use mathlib.Core.Logic.{◌≢◌, ◌⊎◌, inl, inr}
use mathlib.Core.Option.{Option, none, some}
use mathlib.Core.Path.{◌≡◌, refl, sym, ap, subst, ◌∙◌}
use native.Mathlib.Nat.{suc-pred-eq_of_pos}
use native.Mathlib.Omega.{arith}
use lib.ListN.{length, get_or}
use lib.Seq.{slice, slice-cons, length-slice}
use Rattle.timetable.specs.Limits.{most_stops}
use Rattle.timetable.specs.Timetable.{row_of, no_row, shares_of}
use Rattle.timetable.specs.declared.Row.{Row}
use Rattle.plans.specs.Worth.{Valued, arrival_worth, change_worth}
use Rattle.plans.specs.Chosen.{in_ticks, Scan, choose, off_in_ticks}
use Rattle.plan_cells.specs.Outside.{SameOutside}
use Rattle.plan_cells.proofs.Outside.{outside_same}
use Rattle.plan_cells.specs.Cells.{trip_cells, stop_cells, size_cells, used, cell_of, pair_cell}
use Rattle.plan_stacks.specs.Stacks.{stack_start, stack_size, start_pair}
use Rattle.plan_rows.specs.declared.SectionPlaces.{SectionPlaces}
use Rattle.plan_rows.specs.Reading.{rows_in, tables_in, FileReadable, TablesHeld, RowFits}
use Rattle.plans.specs.declared.Goal.{Goal}
use Rattle.plan_landing.specs.Landing.{Landable, ride_off}
use Rattle.plan_scan.specs.Stores.{stored, row_worth, Weighs, Chose, Weighable, Pushable}
use Rattle.plan_stacks.specs.Regions.{below}
use Rattle.plan_scan.specs.Regions.{count_at}
use Rattle.plan_scan.specs.Scanned.{scan_in, best_in, PairHolds}
use Rattle.plan_scan.specs.Held.{PairsHeld, StackHeld, LimitsHeld, Held}
use Rattle.plan_stacks.proofs.Regions.{below_later}
use Rattle.plan_scan.proofs.Regions.{count_slice, count_few, count_here, count_more, below_count}
use Rattle.plan_scan.proofs.ByStop.{choose_target}
use Rattle.plan_scan.proofs.PairsHeld.{in_front, pairs_kept, pairs_weighed, weighs_other}
use Rattle.plan_stacks.proofs.Entries.{stack_kept}
use Rattle.plan_stacks.proofs.Stored.{stored_other, outside_stored}
use Rattle.plan_scan.proofs.Choosing.{Choosable, stack_passed, stacks_chosen, limits_chosen, chose_or_stored}
use Rattle.plan_scan.proofs.TimetableTo.{best_row, own_ride, scan_step, best_step, BoardsRow, best_boards_row, scan_ordered, climbing, chosen_fits, rising_behind, off_fits}

-- a part of a scan with one row in front
module _ (file : List ℕ) (s : SectionPlaces) (goal : Goal) (first end : ℕ) (stand : FileReadable file s) (inside : end ≤ s.rows) where
  abbrev rows : List Row
  rows = rows_in file s

  abbrev row_at : ℕ → Row
  row_at i = row_of rows i

  abbrev after : ℕ → Scan
  after i = scan_in file s goal i end

  all_few : length (slice first end rows) ≤ s.rows
  all_few = omega (arith, length-slice first end rows (omega (arith, stand.rows_count)))

  regions_end : pair_cell (suc s.rows + below (λ stop. count_at stop (slice first end rows)) most_stops) ≤ used s.rows
  regions_end = let few = below_count (slice first end rows) most_stops in omega (arith, all_few)

  front : (i : ℕ) → i < end → slice i end rows ≡ row_at i ∷ slice (suc i) end rows
  front i h = slice-cons i end rows no_row h (omega (arith, stand.rows_count))

  module _ (i : ℕ) (low : first ≤ i) (high : i < end) (w : List ℕ) (room : used s.rows ≤ length w) where
    suffix : (stop : ℕ) → count_at stop (row_at i ∷ slice (suc i) end rows) ≤ count_at stop (slice first end rows)
    suffix stop = subst (λ (l : List Row). count_at stop l ≤ count_at stop (slice first end rows)) (front i high) (count_slice stop first i end rows low)

    fits : RowFits s.classes (tables_in file s) (row_at i)
    fits = stand.row_fits i (omega arith)

    pub weighable : PairsHeld w s.rows (suc i) end (after (suc i)) → Weighable (row_at i) i w
    weighable held =
        let next = held.next (row_at i).trip fits.trip in
        record {
          trip = fits.trip;
          number = omega (arith, stand.few_rows);
          own = omega arith;
          next = (let last = next.inside in omega arith);
        }

    stack_in :
        (stop : ℕ) → stop < most_stops → StackHeld w (suc s.rows) (slice first end rows) (slice (suc i) end rows) (after (suc i)).chosen stop
        → stack_start w stop + 2 * stack_size w stop ≤ used s.rows
    stack_in stop h held =
        let start = held.start in
        let few = held.room in
        let more = suffix stop in
        let fewer = count_more stop (row_at i) (slice (suc i) end rows) in
        let ends = below_later (λ k. count_at k (slice first end rows)) stop most_stops h in
        omega (arith, regions_end)

    -- the row can be got off
    pub row_landable : (tables : List ℕ) → TablesHeld tables (tables_in file s) → (limits : List ℕ) → Held file s goal first end (suc i) w limits
        → Landable (row_at i) tables w (shares_of (tables_in file s) (row_at i).class) (after (suc i)).chosen
    row_landable tables held_tables limits held =
        let shares = stand.shares_fit (row_at i).class fits.class in
        let stack = held.stacks_held (row_at i).land fits.land in
        record {
          land = fits.land;
          class = (let few = stand.few_classes in let c = fits.class in omega arith);
          tables_room = held_tables.room;
          block = held_tables.held (row_at i).class (let count = stand.tables_count in let c = fits.class in omega arith);
          shares_fit = shares;
          lands = (let last = fits.lands in
              let some' = shares.some_shares in
              let longest' = suc-pred-eq_of_pos {n = length (shares_of (tables_in file s) (row_at i).class)} some' in omega arith);
          cells = omega arith;
          stack_inside = (let z = stack_in (row_at i).land fits.land stack in omega arith);
          stack_holds = stack.holds;
          climbing = climbing file s goal end stand inside (suc i) high (row_at i).land;
        }

    -- getting off looks at where the ride lands alone
    pub off_same : off_in_ticks goal (ride_off (row_at i) (shares_of (tables_in file s) (row_at i).class)) (after (suc i)).chosen
        ≡ off_in_ticks goal (own_ride file s i) (after (suc i)).chosen
    unfolding off_in_ticks arrival_worth change_worth
    off_same = refl

    module _ (w' limits : List ℕ) (held : Held file s goal first end (suc i) w limits)
        (weighs : Weighs (row_at i) i (cell_of (off_in_ticks goal (own_ride file s i) (after (suc i)).chosen)) w w') where
      pub pairs_after : PairsHeld w' s.rows i end (after i)
      pairs_after =
          subst (λ (sc : Scan). PairsHeld w' s.rows i end sc) (sym (scan_step file s goal end stand inside i high))
          (subst (λ (o : Option Valued). PairsHeld w' s.rows i end (in_front (row_at i) o (after (suc i)) (choose (in_ticks goal) (best_row file s goal end i) (after (suc i)).chosen)))
          (sym (best_step file s goal end stand inside i high))
          (pairs_weighed w s.rows i end (row_at i) fits.trip high inside room w' (own_ride file s i)
          (off_in_ticks goal (own_ride file s i) (after (suc i)).chosen) (after (suc i))
          (choose (in_ticks goal) (best_row file s goal end i) (after (suc i)).chosen) refl
          (λ x e. off_fits file s goal end stand inside i high x e) held.pairs_held weighs))

      same_behind : (k : ℕ) → stop_cells ≤ k → (k ≡ pair_cell i → ⊥) → (k ≡ pair_cell i + 1 → ⊥) → get_or w' k 0 ≡ get_or w k 0
      same_behind k =
          weighs_other w s.rows i end (row_at i) fits.trip high inside room w' (cell_of (off_in_ticks goal (own_ride file s i) (after (suc i)).chosen)) k weighs

      pub stacks_after :
          (stop : ℕ) → stop < most_stops
          → StackHeld w' (suc s.rows) (slice first end rows) (slice (suc i) end rows) (after (suc i)).chosen stop
      stacks_after stop h =
          let old = held.stacks_held stop h in
          let start : start_pair w' stop ≡ start_pair w stop = same_behind (stop_cells + stop) (omega arith) (λ e. omega arith) (λ e. omega arith) in
          let size : stack_size w' stop ≡ stack_size w stop = same_behind (size_cells + stop) (omega arith) (λ e. omega arith) (λ e. omega arith) in
          let begins = old.start in
          record {
            start = start ∙ old.start;
            room = (let few = old.room in omega arith);
            holds = stack_kept w w' stop start size (λ k a b. same_behind k (omega arith) (λ e. omega arith) (λ e. omega arith)) ∙ old.holds;
          }

    best_there : (v : Valued) → best_row file s goal end i ≡ some v → BoardsRow file s goal end stand inside i v
    best_there v e = best_boards_row file s goal end stand inside i high v e

    -- a row that boards at the target is not chosen
    pub held_unchosen :
        (limits : List ℕ) → (row_at i).board ≡ goal.target → PairsHeld w s.rows i end (after i)
        → ((stop : ℕ) → stop < most_stops → StackHeld w (suc s.rows) (slice first end rows) (slice (suc i) end rows) (after (suc i)).chosen stop)
        → LimitsHeld limits goal.margin (after (suc i)).chosen → Held file s goal first end i w limits
    held_unchosen limits there pairs_held stacks limited =
        let same : (after i).chosen ≡ (after (suc i)).chosen =
        ap (λ (sc : Scan). sc.chosen) (scan_step file s goal end stand inside i high)
        ∙ choose_target (in_ticks goal) (best_row file s goal end i) (after (suc i)).chosen (λ v e. (best_there v e).stop ∙ there) in
        record {
          pairs_held = pairs_held;
          stacks_held = λ stop h.
              subst (λ (l : List Row). StackHeld w (suc s.rows) (slice first end rows) l (after i).chosen stop) (sym (front i high))
              (stack_passed (row_at i) w (suc s.rows) (slice first end rows) (slice (suc i) end rows) (after (suc i)).chosen (after i).chosen stop same (stacks stop h));
          limits_held = subst (λ (l : List Valued). LimitsHeld limits goal.margin l) (sym same) limited;
        }

    module _ (away : (row_at i).board ≢ goal.target)
        (stacks : (stop : ℕ) → stop < most_stops → StackHeld w (suc s.rows) (slice first end rows) (slice (suc i) end rows) (after (suc i)).chosen stop) where
      choosable : Choosable (row_at i) i (in_ticks goal) (best_row file s goal end i) (after (suc i)).chosen
      choosable =
          record {
            board = fits.board;
            away = away;
            boarded = λ v e. (best_there v e).row;
            stop = λ v e. (best_there v e).stop;
            minute = λ v e. (best_there v e).minute;
            ordered = scan_ordered file s goal end stand inside (suc i) high;
            fits = λ v m. chosen_fits file s goal end stand inside (suc i) high v m;
            rising = λ v m. rising_behind file s goal end stand inside i high v m;
          }

      regions_room : pair_cell (suc s.rows + below (λ stop. count_at stop (slice first end rows)) most_stops) ≤ length w
      regions_room = omega (arith, regions_end)

      region_used : (k : ℕ) → k ≤ stack_size w (row_at i).board → stack_start w (row_at i).board + 2 * k + 1 < used s.rows
      region_used k h =
          let own = stacks (row_at i).board fits.board in
          let start = own.start in
          let few = own.room in
          let more = suffix (row_at i).board in
          let here = count_here (row_at i).board (row_at i) (slice (suc i) end rows) refl in
          let ends = below_later (λ stop. count_at stop (slice first end rows)) (row_at i).board most_stops fits.board in
          omega (arith, regions_end)

      pub pushable : Pushable (row_at i) i w
      pushable =
          let own = stacks (row_at i).board fits.board in
          let few = own.room in
          let fewer = count_few (row_at i).board (slice (suc i) end rows) in
          let rest = length-slice (suc i) end rows (omega (arith, stand.rows_count)) in
          record {
            board = fits.board;
            own = omega arith;
            key = omega (arith, fits.onward, fits.lands, stand.few_rows);
            few = omega (arith, stand.few_rows);
            room = (let z = region_used (stack_size w (row_at i).board) (let z : stack_size w (row_at i).board ≤ stack_size w (row_at i).board = omega arith in z) in omega arith);
          }

      own_best : PairsHeld w s.rows i end (after i) → PairHolds w i (best_row file s goal end i)
      own_best pairs_held =
          let none' : i - i ≡ 0 = omega arith in
          subst (λ (o : Option Valued). PairHolds w i o)
          (ap (λ (sc : Scan). best_in sc i i) (scan_step file s goal end stand inside i high)
          ∙ ap (λ k. (get_or (record { trip = (row_at i).trip; best = best_row file s goal end i } ∷ (after (suc i)).weighed) k (record { trip = 0; best = none })).best) none')
          (pairs_held.weighed i (let z : i ≤ i = omega arith in z) high)

      module _ (limits w' limits' : List ℕ) (chose : Chose (row_at i) i goal.margin w limits w' limits') where
        or_stored : (w' ≡ w) ⊎ ((k : ℕ) × (k ≤ stack_size w (row_at i).board) × (w' ≡ stored (row_at i) i k w))
        or_stored =
            chose_or_stored (row_at i) i (in_ticks goal) (best_row file s goal end i) (after (suc i)).chosen choosable w (suc s.rows)
            (slice first end rows) (slice (suc i) end rows) stacks suffix regions_room limits w' limits' chose

        pairs_stay : PairsHeld w s.rows i end (after i) → (w' ≡ w) ⊎ ((k : ℕ) × (k ≤ stack_size w (row_at i).board) × (w' ≡ stored (row_at i) i k w))
            → PairsHeld w' s.rows i end (after i)
        pairs_stay held (inl q) = subst (λ (l : List ℕ). PairsHeld l s.rows i end (after i)) (sym q) held
        pairs_stay held (inr f) =
            let begins = (stacks (row_at i).board fits.board).start in
            let small = fits.board in
            subst (λ (l : List ℕ). PairsHeld l s.rows i end (after i)) (sym f.2)
            (pairs_kept w (stored (row_at i) i f.0 w) s.rows i end (after i) inside held
            (λ k h. stored_other w (row_at i).board f.0 (row_at i).departure i (row_worth w i) small k (λ e. omega arith) (λ e. omega arith) (λ e. omega arith))
            (λ k a b. stored_other w (row_at i).board f.0 (row_at i).departure i (row_worth w i) small k (λ e. omega arith) (λ e. omega arith) (λ e. omega arith)))

        pub held_chosen : PairsHeld w s.rows i end (after i) → LimitsHeld limits goal.margin (after (suc i)).chosen → Held file s goal first end i w' limits'
        held_chosen pairs_held limited =
            let now : (after i).chosen ≡ choose (in_ticks goal) (best_row file s goal end i) (after (suc i)).chosen =
            ap (λ (sc : Scan). sc.chosen) (scan_step file s goal end stand inside i high) in
            record {
              pairs_held = pairs_stay pairs_held or_stored;
              stacks_held = λ stop h.
                  subst (λ (l : List Row). StackHeld w' (suc s.rows) (slice first end rows) l (after i).chosen stop) (sym (front i high))
                  (subst (λ (l : List Valued). StackHeld w' (suc s.rows) (slice first end rows) (row_at i ∷ slice (suc i) end rows) l stop) (sym now)
                  (stacks_chosen (row_at i) i (in_ticks goal) (best_row file s goal end i) (after (suc i)).chosen choosable w (suc s.rows)
                  (slice first end rows) (slice (suc i) end rows) stacks suffix regions_room (own_best pairs_held) limits limited w' limits' chose stop h));
              limits_held = subst (λ (l : List Valued). LimitsHeld limits' goal.margin l) (sym now)
                  (limits_chosen (row_at i) i (in_ticks goal) (best_row file s goal end i) (after (suc i)).chosen choosable w (suc s.rows)
                  (slice first end rows) (slice (suc i) end rows) stacks suffix regions_room (own_best pairs_held) limits limited w' limits' chose);
            }

        stays_inside : (w' ≡ w) ⊎ ((k : ℕ) × (k ≤ stack_size w (row_at i).board) × (w' ≡ stored (row_at i) i k w)) → SameOutside trip_cells (used s.rows) w w'
        stays_inside (inl q) = subst (λ (l : List ℕ). SameOutside trip_cells (used s.rows) w l) (sym q) (outside_same trip_cells (used s.rows) w)
        stays_inside (inr f) =
            subst (λ (l : List ℕ). SameOutside trip_cells (used s.rows) w l) (sym f.2)
            (outside_stored w (row_at i).board f.0 (row_at i).departure i (row_worth w i) fits.board (region_used f.0 f.1))

        pub inside_chosen : SameOutside trip_cells (used s.rows) w w'
        inside_chosen = stays_inside or_stored
