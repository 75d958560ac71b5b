-- One row more is swept. Uses rising departures, rows that arrive after they depart, and numbers that fit the cells.
use Prim.Native.Nat.{ℕ, suc, ◌+◌, ◌≤◌, ◌<◌}
use native.Mathlib.Nat.{le_trans, lt_of_not-le, eq-or-lt_of_le}
use native.Mathlib.Omega.{arith}
use mathlib.Core.List.{List}
use mathlib.Core.Logic.{inr, ⊎_elim}
use mathlib.Core.Path.{◌≡◌, refl, sym, ap, subst, ◌∙◌}
use lib.ListN.{length}
use Rattle.timetable.specs.Limits.{most_stops, most_trips}
use Rattle.timetable.specs.Timetable.{Timetable, shares_of, maximum_delay, row_of}
use Rattle.timetable.specs.declared.Row.{Row}
use Rattle.plans.specs.Rides.{Ride, ride_of, IsRide, lands_by, ready}
use Rattle.plans.specs.Sound.{Timely}
use Rattle.plans.proofs.RideMinutes.{leaves_before, departs_before}
use Rattle.plan_rows.specs.Reading.{RowFits}
use Rattle.plan_earliest.specs.Reached.{Reached, sets_out, rides}
use Rattle.plan_earliest.specs.Cells.{aboard, reached_at}
use Rattle.plan_earliest.specs.Swept.{Boardable, Underway, Told, Swept}
use Rattle.plan_earliest.proofs.Steps.{Step}

-- below one more is below, or that one
below_suc {ℓ} : (P : Type ℓ) (j i : ℕ) → j < suc i → (j < i → P) → (j ≡ i → P) → P
below_suc P j i h less same = ⊎_elim same less (eq-or-lt_of_le (let z : j ≤ i = omega arith in z))

-- a + M of a row
abbrev pub landing : Timetable → ℕ → ℕ
landing t i = (row_of t.rows i).arrival + maximum_delay (shares_of t.tables (row_of t.rows i).class)

-- what the sweep uses of a timetable: its minutes, and that its numbers fit the cells
pub record Seaworthy (t : Timetable) : Type 0 where
  pub timely : Timely t
  pub classes : ℕ
  pub fits : (i : ℕ) → i < length t.rows → RowFits classes t.tables (row_of t.rows i)

module _ (t : Timetable) (ship : Seaworthy t) (gate source minute : ℕ) where
  -- one is nowhere before the query's minute
  pub reached_since : {s m : ℕ} → Reached t gate source minute s m → minute ≤ m
  reached_since sets_out = let z : minute ≤ minute = omega arith in z
  reached_since (rides {r} {m} here since is) =
      let a : minute ≤ m = reached_since here in
      let b : r.departs < r.arrives = departs_before t ship.timely r is in
      let z : minute ≤ lands_by r = omega arith in z

  -- every minute is one of 16 bits
  pub reached_below : minute < 65536 → {s m : ℕ} → Reached t gate source minute s m → m < 65536
  reached_below small sets_out = small
  reached_below small (rides {r} here since is) =
      subst (λ (x : Ride). lands_by x < 65536) (sym is.as_timed) (ship.fits r.leave is.inside).lands

  -- a ride that one can board, by its boarding row
  pub ride_boardable :
      (r : Ride) → IsRide t r → (m : ℕ) → Reached t gate source minute r.from m → ready gate m ≤ r.departs → Boardable t gate source minute r.board
  ride_boardable r is m here since =
      record {
        since = m;
        there = subst (λ (x : Ride). Reached t gate source minute x.from m) is.as_timed here;
        in_time = subst (λ (x : Ride). ready gate m ≤ x.departs) is.as_timed since;
      }

  module _ (i : ℕ) (inside : i < length t.rows) where
    abbrev row : Row
    row = row_of t.rows i

    row_fits : RowFits ship.classes t.tables row
    row_fits = ship.fits i inside

    -- a ride that ends before row i departs leaves at a row before it
    leaves_ahead : (r : Ride) → IsRide t r → lands_by r ≤ row.departure → r.leave < i
    leaves_ahead r is early =
        lt_of_not-le (λ h. let no' : ⊥ = omega (arith, ship.timely.rising i r.leave h is.inside, leaves_before t ship.timely r is) in no')

    -- what row i could catch stands in the cells
    pub known :
        {work : List ℕ} → Swept t gate source minute i work → {s m : ℕ} → Reached t gate source minute s m → m ≤ (row_of t.rows i).departure
        → reached_at work s ≤ m
    known sw sets_out early = sw.starts
    known sw (rides {r} {m} here since is) early = sw.no_earlier r is (leaves_ahead r is early) m here since

    module _ {before after : List ℕ} (sw : Swept t gate source minute i before) (step : Step gate row (landing t i) before after) where
      -- who could board row i was seen to
      not_here : aboard after row.trip ≡ 0 → Boardable t gate source minute i → ⊥
      not_here z b =
          let late : row.departure < ready gate (reached_at before row.board) = step.misses z in
          let no' : ⊥ = omega (arith, known sw b.there (let z : b.since ≤ row.departure = omega (arith, b.in_time) in z), b.in_time) in no'

      not_underway_more : (trip : ℕ) → trip < most_trips → aboard after trip ≡ 0 → Underway t gate source minute (suc i) trip → ⊥
      not_underway_more trip small z u =
          below_suc ⊥ u.row i u.swept
          (λ h. sw.not_underway trip small (step.still trip small z)
          (record { row = u.row; swept = h; same_trip = u.same_trip; boardable = u.boardable }))
          (λ e. let same : row.trip ≡ trip = subst (λ j. (row_of t.rows j).trip ≡ trip) e u.same_trip in
          not_here (ap (λ k. aboard after k) same ∙ z) (subst (λ j. Boardable t gate source minute j) e u.boardable))

      boards_here : ready gate (reached_at before row.board) ≤ row.departure → Boardable t gate source minute i
      boards_here in_time =
          ⊎_elim (λ e. absurd (let no' : ⊥ = omega (arith, row_fits.lands, row_fits.onward) in no'))
          (λ k. record { since = reached_at before row.board; there = k; in_time = in_time }) (sw.told row.board row_fits.board)

      underway_more : (trip : ℕ) → trip < most_trips → (aboard after trip ≡ 0 → ⊥) → Underway t gate source minute (suc i) trip
      underway_more trip small n =
          ⊎_elim
          (λ k. let u = sw.underway trip small k in
          let more : u.row < suc i = omega (arith, u.swept) in
          record { row = u.row; swept = more; same_trip = u.same_trip; boardable = u.boardable })
          (λ (e : (trip ≡ row.trip) × (ready gate (reached_at before row.board) ≤ row.departure)).
          let last : i < suc i = omega arith in
          record { row = i; swept = last; same_trip = sym e.0; boardable = boards_here e.1 }) (step.since trip small n)

      lands_here : Underway t gate source minute (suc i) row.trip → Reached t gate source minute row.land (landing t i)
      lands_here u =
          let onward : u.row ≤ i = omega (arith, u.swept) in
          rides {r = ride_of t u.row i} u.boardable.there u.boardable.in_time
          (record { onward = onward; inside = inside; one_trip = u.same_trip; as_timed = refl })

      told_more : (stop : ℕ) → stop < most_stops → Told t gate source minute stop (reached_at after stop)
      told_more stop small =
          ⊎_elim (λ e. subst (λ k. Told t gate source minute stop k) (sym e) (sw.told stop small))
          (λ (e : (stop ≡ row.land) × (aboard after row.trip ≡ 0 → ⊥) × (reached_at after stop ≡ landing t i)).
          inr (subst (λ k. Reached t gate source minute k (reached_at after stop)) (sym e.0)
          (subst (λ k. Reached t gate source minute row.land k) (sym e.2)
          (lands_here (underway_more row.trip row_fits.trip e.1))))) (step.so stop)

      -- a ride that leaves at row i
      leaves_here :
          (r : Ride) → IsRide t r → r.leave ≡ i → (m : ℕ) → Reached t gate source minute r.from m → ready gate m ≤ r.departs
          → reached_at after r.to ≤ lands_by r
      leaves_here r is e m here since =
          let ahead : r.board < suc i = omega (arith, is.onward) in
          let u : Underway t gate source minute (suc i) row.trip = record {
            row = r.board;
            swept = ahead;
            same_trip = is.one_trip ∙ ap (λ j. (row_of t.rows j).trip) e;
            boardable = ride_boardable r is m here since;
          } in
          subst (λ (x : Ride). reached_at after x.to ≤ lands_by x) (sym (is.as_timed ∙ ap (λ j. ride_of t r.board j) e))
          (step.lands (λ z. not_underway_more row.trip row_fits.trip z u))

      no_earlier_more :
          (r : Ride) → IsRide t r → r.leave < suc i → (m : ℕ) → Reached t gate source minute r.from m → ready gate m ≤ r.departs
          → reached_at after r.to ≤ lands_by r
      no_earlier_more r is h m here since =
          below_suc (reached_at after r.to ≤ lands_by r) r.leave i h
          (λ k. le_trans (step.no_later r.to) (sw.no_earlier r is k m here since)) (λ e. leaves_here r is e m here since)

      pub sweeps : Swept t gate source minute (suc i) after
      sweeps =
          record {
            starts = le_trans (step.no_later source) sw.starts;
            told = told_more;
            no_earlier = no_earlier_more;
            underway = underway_more;
            not_underway = not_underway_more;
          }
