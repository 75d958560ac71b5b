-- The scan of a file's rows before row `end`, as a scan of a timetable of its own: row by row, its rides' numbers fit, and they rise.
use Prim.Native.Nat.{ℕ, suc, ◌*◌, ◌≤◌, ◌<◌}
use mathlib.Core.List.{List, ◌∷◌, Memᴰ}
use mathlib.Core.Option.{Option, some}
use mathlib.Core.Path.{◌≡◌, refl, sym, ap, subst, ◌∙◌}
use native.Mathlib.Omega.{arith}
use lib.ListN.{length, take}
use lib.Seq.{length-take-le, get_or-take}
use Rattle.timetable.specs.Timetable.{Timetable, shares_of, row_of, no_row}
use Rattle.timetable.specs.Classes.{share_total, sum}
use Rattle.timetable.specs.declared.Row.{Row}
use Rattle.plans.specs.Rides.{Ride, lands_by}
use Rattle.plans.specs.Sound.{Timely}
use Rattle.plans.specs.Worth.{Valued}
use Rattle.plans.specs.Chosen.{in_ticks, off_in_ticks, row_ride, choose, next_of, least_of, get_off, stay_on}
use Rattle.plans.specs.FromRow.{scan_from, chosen_from, best_at, next_from, off_at}
use Rattle.plans.proofs.FromRow.{scan_row, best_row_lem}
use Rattle.plans.proofs.BestRides.{best_boards, chosen_picked, each_best}
use Rattle.plans.proofs.Order.{Ordered}
use Rattle.plans.proofs.FirstLeast.{chosen_rising, chosen_ordered}
use Rattle.plan_rows.specs.declared.SectionPlaces.{SectionPlaces}
use Rattle.plan_rows.specs.Reading.{rows_in, tables_in, FileReadable, RowFits}
use Rattle.plans.specs.declared.Goal.{Goal}
use Rattle.plan_stacks.specs.Chosen.{at_stop, Climbing, EntryFits}
use Rattle.plan_cells.specs.Cells.{missing}
use Rattle.plan_scan.specs.Scanned.{scan_in}
use Rattle.plan_stacks.proofs.AtStop.{at_stop_member}
use Rattle.plan_scan.proofs.ByStop.{at_from}
use Rattle.plan_scan.proofs.Rising.{at_ordered, departures_rise}
use Rattle.plan_scan.proofs.Worths.{off_most}

abbrev pub timetable_to : List ℕ → SectionPlaces → ℕ → Timetable
timetable_to file s end = record { stops = 0; rows = take end (rows_in file s); tables = tables_in file s }

-- the best ride of row i
abbrev pub best_row : List ℕ → SectionPlaces → Goal → (end i : ℕ) → Option Valued
best_row file s goal end i = best_at (in_ticks goal) (timetable_to file s end) i

-- row i's own ride
abbrev pub own_ride : List ℕ → SectionPlaces → ℕ → Ride
own_ride file s i = row_ride (tables_in file s) i (row_of (rows_in file s) i)

module _ (file : List ℕ) (s : SectionPlaces) (goal : Goal) (end : ℕ) (stand : FileReadable file s) (inside : end ≤ s.rows) where
  to_length : length (take end (rows_in file s)) ≡ end
  to_length = length-take-le end (rows_in file s) (omega (arith, stand.rows_count))

  to_row : (i : ℕ) → i < end → row_of (take end (rows_in file s)) i ≡ row_of (rows_in file s) i
  to_row i h = get_or-take end (rows_in file s) i no_row h

  to_inside : (i : ℕ) → i < length (take end (rows_in file s)) → i < end
  to_inside i h = omega (arith, to_length)

  to_fits : (i : ℕ) → i < end → RowFits s.classes (tables_in file s) (row_of (take end (rows_in file s)) i)
  to_fits i h = subst (λ (r : Row). RowFits s.classes (tables_in file s) r) (sym (to_row i h)) (stand.row_fits i (omega arith))

  to_shares : (i : ℕ) → i < end → sum (shares_of (tables_in file s) (row_of (take end (rows_in file s)) i).class) ≡ share_total
  to_shares i h = (stand.shares_fit (row_of (take end (rows_in file s)) i).class (to_fits i h).class).shares_whole

  to_timely : Timely (timetable_to file s end)
  to_timely =
      record {
        rising = λ i j a b.
            subst (λ (r : Row). r.departure ≤ (row_of (take end (rows_in file s)) j).departure) (sym (to_row i (omega (arith, to_length))))
            (subst (λ (r : Row). (row_of (rows_in file s) i).departure ≤ r.departure) (sym (to_row j (to_inside j b)))
            (stand.departures i j a (omega (arith, to_length))));
        forward = λ i h. (to_fits i (to_inside i h)).onward;
        shared = λ i h. to_shares i (to_inside i h);
      }

  chosen_to : (i : ℕ) → (scan_in file s goal i end).chosen ≡ chosen_from (in_ticks goal) (timetable_to file s end) i
  unfolding scan_from chosen_from
  chosen_to i = refl

  -- row i in front of the rows behind it
  pub scan_step :
      (i : ℕ) → i < end → scan_in file s goal i end
      ≡ record {
        weighed = record { trip = (row_of (rows_in file s) i).trip; best = best_row file s goal end i } ∷ (scan_in file s goal (suc i) end).weighed;
        chosen = choose (in_ticks goal) (best_row file s goal end i) (scan_in file s goal (suc i) end).chosen;
      }
  unfolding scan_from chosen_from
  scan_step i h =
      scan_row (in_ticks goal) (timetable_to file s end) i (omega (arith, to_length))
      ∙ ap (λ (r : Row). record {
        weighed = record { trip = r.trip; best = best_row file s goal end i } ∷ (scan_in file s goal (suc i) end).weighed;
        chosen = choose (in_ticks goal) (best_row file s goal end i) (scan_in file s goal (suc i) end).chosen;
      }) (to_row i h)

  pub best_step :
      (i : ℕ) → i < end → best_row file s goal end i
      ≡ least_of (get_off (own_ride file s i) (off_in_ticks goal (own_ride file s i) (scan_in file s goal (suc i) end).chosen))
      (stay_on i (row_of (rows_in file s) i) (next_of (scan_in file s goal (suc i) end).weighed (row_of (rows_in file s) i).trip))
  unfolding scan_from chosen_from off_at next_from
  best_step i h =
      best_row_lem (in_ticks goal) (timetable_to file s end) i
      ∙ ap (λ (r : Row). least_of (get_off (row_ride (tables_in file s) i r) (off_in_ticks goal (row_ride (tables_in file s) i r) (scan_in file s goal (suc i) end).chosen))
      (stay_on i r (next_of (scan_in file s goal (suc i) end).weighed r.trip))) (to_row i h)

  -- it boards at row i
  pub record BoardsRow (i : ℕ) (v : Valued) : Type 0 where
    pub row : v.ride.board ≡ i
    pub stop : v.ride.from ≡ (row_of (rows_in file s) i).board
    pub minute : v.ride.departs ≡ (row_of (rows_in file s) i).departure

  pub best_boards_row : (i : ℕ) → i < end → (v : Valued) → best_row file s goal end i ≡ some v → BoardsRow i v
  best_boards_row i h v e =
      let b = best_boards (in_ticks goal) (timetable_to file s end) i (omega (arith, to_length)) v e in
      record {
        row = b.row;
        stop = b.stop ∙ ap (λ (r : Row). r.board) (to_row i h);
        minute = b.minute ∙ ap (λ (r : Row). r.departure) (to_row i h);
      }

  -- the last minute of 16 bits, in ticks, bounds each worth
  lands_by_lem : (i : ℕ) → i < end → lands_by (row_ride (tables_in file s) i (row_of (take end (rows_in file s)) i)) ≤ 65535
  lands_by_lem i h = let l = (to_fits i h).lands in omega arith

  best_most : (i : ℕ) → i < end → (v : Valued) → best_row file s goal end i ≡ some v → v.worth ≤ 256 * 65535
  unfolding off_at
  best_most i h v e =
      each_best (in_ticks goal) (timetable_to file s end) (λ u. u.worth ≤ 256 * 65535)
      (λ j inside' each w q.
      off_most goal (row_ride (tables_in file s) j (row_of (take end (rows_in file s)) j))
      (chosen_from (in_ticks goal) (timetable_to file s end) (suc j)) 65535 (to_shares j (to_inside j inside')) (lands_by_lem j (to_inside j inside')) each w q)
      (λ j k a b t u q p. p) i (omega (arith, to_length)) v e

  pub chosen_fits : (i : ℕ) → i ≤ end → (v : Valued) → Memᴰ v (scan_in file s goal i end).chosen → EntryFits v
  chosen_fits i h v m =
      let p = chosen_picked (in_ticks goal) (timetable_to file s end) i (omega (arith, to_length)) v (subst (λ (l : List Valued). Memᴰ v l) (chosen_to i) m) in
      let row : v.ride.board < end = to_inside v.ride.board p.inside in
      let minute = (best_boards_row v.ride.board row v p.best).minute in
      let fits = stand.row_fits v.ride.board (omega arith) in
      record {
        row = omega (arith, stand.few_rows);
        departure = omega (arith, fits.onward, fits.lands);
        worth = omega (arith, best_most v.ride.board row v p.best);
      }

  pub scan_ordered : (i : ℕ) → i ≤ end → Ordered (scan_in file s goal i end).chosen
  scan_ordered i h =
      subst (λ (l : List Valued). Ordered l) (sym (chosen_to i))
      (chosen_ordered (in_ticks goal) (timetable_to file s end) to_timely i (omega (arith, to_length)))

  pub climbing : (i : ℕ) → i ≤ end → (stop : ℕ) → Climbing stop (scan_in file s goal i end).chosen
  climbing i h stop =
      record {
        fits = λ v m. chosen_fits i h v (at_stop_member stop (scan_in file s goal i end).chosen v m);
        climbs = departures_rise stop (at_stop stop (scan_in file s goal i end).chosen) (at_ordered stop (scan_ordered i h))
            (λ x m. at_from stop (scan_in file s goal i end).chosen m);
      }

  -- row i departs no later than the rides chosen behind it
  pub rising_behind :
      (i : ℕ) → i < end → (v : Valued) → Memᴰ v (scan_in file s goal (suc i) end).chosen → (row_of (rows_in file s) i).departure ≤ v.ride.departs
  rising_behind i h v m =
      subst (λ (r : Row). r.departure ≤ v.ride.departs) (to_row i h)
      (chosen_rising (in_ticks goal) (timetable_to file s end) to_timely i (suc i) (omega arith) (omega (arith, to_length)) v
      (subst (λ (l : List Valued). Memᴰ v l) (chosen_to (suc i)) m))

  -- getting off row i is worth less than a cell that is missing
  pub off_fits :
      (i : ℕ) → i < end → (w : ℕ) → off_in_ticks goal (own_ride file s i) (scan_in file s goal (suc i) end).chosen ≡ some w → w < missing
  off_fits i h w e =
      let fits = stand.row_fits i (omega arith) in
      let lands = fits.lands in
      let most : w ≤ 256 * 65535 =
      off_most goal (own_ride file s i) (scan_in file s goal (suc i) end).chosen 65535
      (stand.shares_fit (row_of (rows_in file s) i).class fits.class).shares_whole (omega arith)
      (λ v m. chosen_most i h v m) w e in
      omega arith
    where
      chosen_most : (i : ℕ) → i < end → (v : Valued) → Memᴰ v (scan_in file s goal (suc i) end).chosen → v.worth ≤ 256 * 65535
      chosen_most i h v m =
          let p = chosen_picked (in_ticks goal) (timetable_to file s end) (suc i) (omega (arith, to_length)) v (subst (λ (l : List Valued). Memᴰ v l) (chosen_to (suc i)) m) in
          best_most v.ride.board (to_inside v.ride.board p.inside) v p.best
