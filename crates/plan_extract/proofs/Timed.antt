-- The scan of a sound file's rows from `first` to before `end`: its chosen rides are rides of these rows, in order, each the best of its row.
-- Assumes nothing.
use Prim.Native.Nat.{ℕ, ◌+◌, ◌-◌, ◌≤◌, ◌<◌}
use mathlib.Core.List.{List, Memᴰ}
use mathlib.Core.Option.{none, some}
use mathlib.Core.Path.{◌≡◌, refl, sym, ap, subst, ◌∙◌}
use native.Mathlib.Omega.{arith}
use lib.ListN.{length, take}
use lib.Seq.{length-take-le, get_or-take}
use Rattle.timetable.specs.Timetable.{Timetable, shares_of, row_of, no_row}
use Rattle.timetable.specs.Classes.{sum, share_total}
use Rattle.timetable.specs.declared.Row.{Row}
use Rattle.plans.specs.Rides.{Ride, IsRide}
use Rattle.plans.specs.Sound.{Timely}
use Rattle.plans.specs.Worth.{Valued}
use Rattle.plans.specs.Chosen.{Aim, in_ticks, Scan}
use Rattle.plans.specs.FromRow.{scan_from, chosen_from, best_at}
use Rattle.plans.proofs.FromRow.{weighed_at}
use Rattle.plans.proofs.BestRides.{chosen_picked, best_is_ride}
use Rattle.plans.proofs.FirstLeast.{chosen_ordered}
use Rattle.plans.proofs.Order.{Ordered}
use Rattle.plans.proofs.OwnWorth.{OwnWorth}
use Rattle.plans.proofs.ChosenWorth.{chosen_own}
use Rattle.plan_rows.specs.declared.SectionPlaces.{SectionPlaces}
use Rattle.plan_rows.specs.Reading.{rows_in, tables_in, FileReadable}
use Rattle.plans.specs.declared.Goal.{Goal}
use Rattle.plans.proofs.Open.{found_member}
use Rattle.plan_scan.specs.declared.reach.Reach.{Reach}
use Rattle.plan_extract.specs.Extracted.{PlanFrom}
use Rattle.plan_scan.specs.Scanned.{scan_in, best_in}

module _ (file : List ℕ) (s : SectionPlaces) (stand : FileReadable file s) (end : ℕ) (inside : end ≤ s.rows) where
  -- the rows before `end`
  abbrev pub timed : Timetable
  timed = record { stops = 0; rows = take end (rows_in file s); tables = tables_in file s }

  timed_length : length timed.rows ≡ end
  timed_length = length-take-le end (rows_in file s) (omega (arith, stand.rows_count))

  pub timed_row : (i : ℕ) → i < end → row_of timed.rows i ≡ row_of (rows_in file s) i
  timed_row i h = get_or-take end (rows_in file s) i no_row h

  pub timely : Timely timed
  timely =
      record {
        rising = λ i j h below.
            let b : j < end = omega (arith, timed_length) in
            subst (λ (r : Row). r.departure ≤ (row_of timed.rows j).departure) (sym (timed_row i (omega arith)))
            (subst (λ (r : Row). (row_of (rows_in file s) i).departure ≤ r.departure) (sym (timed_row j b)) (stand.departures i j h (omega arith)));
        forward = λ i below.
            let b : i < end = omega (arith, timed_length) in
            subst (λ (r : Row). r.departure < r.arrival) (sym (timed_row i b)) (stand.row_fits i (omega arith)).onward;
        shared = λ i below.
            let b : i < end = omega (arith, timed_length) in
            subst (λ (r : Row). sum (shares_of (tables_in file s) r.class) ≡ share_total) (sym (timed_row i b))
            (stand.shares_fit (row_of (rows_in file s) i).class (stand.row_fits i (omega arith)).class).shares_whole;
      }

  -- what is known of a chosen ride
  pub record Known (goal : Goal) (first : ℕ) (v : Valued) : Type 0 where
    pub from_first : first ≤ v.ride.board
    pub before_end : v.ride.board < end
    pub best : best_in (scan_in file s goal first end) first v.ride.board ≡ some v
    pub leaves : v.ride.leave < end
    pub to : v.ride.to ≡ (row_of (rows_in file s) v.ride.leave).land
    pub arrives : v.ride.arrives ≡ (row_of (rows_in file s) v.ride.leave).arrival
    pub shares : v.ride.shares ≡ shares_of (tables_in file s) (row_of (rows_in file s) v.ride.leave).class

  module _ (goal : Goal) (first : ℕ) (ahead : first ≤ end) where
    abbrev aim : Aim
    aim = in_ticks goal

    begins : first ≤ length timed.rows
    begins = omega (arith, timed_length)

    scan_is : scan_in file s goal first end ≡ scan_from aim timed first
    unfolding scan_from
    scan_is = refl

    chosen_is : chosen_from aim timed first ≡ (scan_in file s goal first end).chosen
    unfolding chosen_from scan_from
    chosen_is = refl

    pub ordered : Ordered (scan_in file s goal first end).chosen
    ordered = subst (λ (l : List Valued). Ordered l) chosen_is (chosen_ordered aim timed timely first begins)

    pub own_worth : OwnWorth goal.gate goal.target (scan_in file s goal first end).chosen
    own_worth = subst (λ (l : List Valued). OwnWorth goal.gate goal.target l) chosen_is (chosen_own timed timely goal first begins)

    pub known : (v : Valued) → Memᴰ v (scan_in file s goal first end).chosen → Known goal first v
    known v m =
        let p = chosen_picked aim timed first begins v (subst (λ (l : List Valued). Memᴰ v l) (sym chosen_is) m) in
        let is : IsRide timed v.ride = best_is_ride aim timed v.ride.board p.inside v p.best in
        let far : first + (v.ride.board - first) ≡ v.ride.board = omega (arith, p.here) in
        let leaving : v.ride.leave < end = omega (arith, is.inside, timed_length) in
        let row : row_of timed.rows v.ride.leave ≡ row_of (rows_in file s) v.ride.leave = timed_row v.ride.leave leaving in
        record {
          from_first = p.here;
          before_end = (let z : v.ride.board < end = omega (arith, p.inside, timed_length) in z);
          best =
              ap (λ (x : Scan). best_in x first v.ride.board) scan_is
              ∙ weighed_at aim timed (v.ride.board - first) first (record { trip = 0; best = none })
              (let z : first + (v.ride.board - first) < length timed.rows = omega (arith, p.inside, p.here) in z)
              ∙ ap (best_at aim timed) far
              ∙ p.best;
          leaves = leaving;
          to = ap (λ (r : Ride). r.to) is.as_timed ∙ ap (λ (r : Row). r.land) row;
          arrives = ap (λ (r : Ride). r.arrives) is.as_timed ∙ ap (λ (r : Row). r.arrival) row;
          shares = ap (λ (r : Ride). r.shares) is.as_timed ∙ ap (λ (r : Row). shares_of (tables_in file s) r.class) row;
        }

-- the first row of a plan lies before the last in reach
pub boarding_inside : (r : Reach) (boarding : ℕ) (work : List ℕ) → PlanFrom r boarding work → boarding < r.end
boarding_inside r boarding work p =
    let f = p.begins in
    let first = known r.sailings.file.now r.sailings.places r.sailings.readable r.end r.inside r.goal p.first p.ordered f.ride
    (found_member (scan_in r.sailings.file.now r.sailings.places r.goal p.first r.end).chosen f.stop f.minute f.is_first)
    in
    omega (arith, f.boards_at, first.before_end)
