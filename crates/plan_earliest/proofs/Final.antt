-- Before the first sweep; when a stop's cell is final; and that the target's is then the earliest safe arrival.
-- Uses rising departures, rows that arrive after they depart, and numbers that fit the cells.
use Prim.Native.Nat.{ℕ, ◌≤◌, ◌<◌}
use native.Mathlib.Nat.{le_antisymm}
use native.Mathlib.Omega.{arith}
use mathlib.Core.List.{List}
use mathlib.Core.Logic.{◌≢◌, inl, inr, ⊎_elim}
use mathlib.Core.Option.{none, some}
use mathlib.Core.Path.{◌≡◌, refl, sym, ap, subst, ◌∙◌}
use lib.Dec.{leb, eqb}
use lib.ListN.{length}
use borrow.Author.Tests.{eqb-true, eqb-false, leb-true, leb-false}
use Rattle.timetable.specs.Limits.{most_stops, most_trips}
use Rattle.laws.proofs.Tests.{ifb}
use Rattle.laws.proofs.Options.{present_or_absent}
use Rattle.timetable.specs.Timetable.{Timetable, row_of}
use Rattle.query.specs.declared.Query.{Query}
use Rattle.plans.specs.Plan.{earliest}
use Rattle.plans.proofs.EarliestSafe.{earliest_is_least, no_earliest}
use Rattle.plans.specs.Rides.{ready}
use Rattle.plan_cells.specs.Cells.{missing}
use Rattle.plan_rows.specs.Reading.{Cut}
use Rattle.std.specs.Prelude.{None, Some}
use Rattle.plan_earliest.specs.Arrival.{arrival}
use Rattle.plan_earliest.specs.Reached.{Reached, sets_out, rides}
use Rattle.plan_earliest.specs.Cells.{aboard, reached_at}
use Rattle.plan_earliest.specs.Swept.{Boardable, Told, Swept, EarliestReached}
use Rattle.plan_earliest.proofs.Arrivals.{journey_reached, reached_journey}
use Rattle.plan_earliest.proofs.Sweep.{Seaworthy, reached_since, reached_below, ride_boardable, known}

-- one has set out: only the source is reached, and no trip is boarded
pub record SetOut (source minute : ℕ) (work : List ℕ) : Type 0 where
  pub here : reached_at work source ≡ minute
  pub elsewhere : (stop : ℕ) → stop < most_stops → stop ≢ source → reached_at work stop ≡ missing
  pub ashore : (trip : ℕ) → trip < most_trips → aboard work trip ≡ 0

module _ (t : Timetable) (ship : Seaworthy t) (gate source minute : ℕ) where
  -- who sets out at the query's minute can board no row that departs before it
  none_boardable : {i : ℕ} → (row_of t.rows i).departure < ready gate minute → Boardable t gate source minute i → ⊥
  none_boardable gone b = let no' : ⊥ = omega (arith, reached_since t ship gate source minute b.there, b.in_time) in no'

  told_first : (work : List ℕ) → SetOut source minute work → (stop : ℕ) → stop < most_stops → Told t gate source minute stop (reached_at work stop)
  told_first work out stop small =
      ifb (λ b. eqb stop source ≡ b → Told t gate source minute stop (reached_at work stop)) (eqb stop source)
      (λ e _. inr (subst (λ s. Reached t gate source minute s (reached_at work s)) (sym (eqb-true stop source e))
      (subst (λ m. Reached t gate source minute source m) (sym out.here) sets_out)))
      (λ e _. inl (out.elsewhere stop small (eqb-false stop source e))) refl

  -- ahead of the first row that departs at or after the query's minute there is nothing to sweep
  pub sets_sail : (first : ℕ) {work : List ℕ} → Cut t.rows (ready gate minute) first → SetOut source minute work → Swept t gate source minute first work
  sets_sail first {work} cut out =
      record {
        starts = omega (arith, out.here);
        told = told_first work out;
        no_earlier =
            λ r is h m there since. let ahead : r.board < first = omega (arith, is.onward) in
            absurd (none_boardable (cut.before r.board ahead) (ride_boardable t ship gate source minute r is m there since));
        underway = λ trip small n. absurd (n (out.ashore trip small));
        not_underway = λ trip small z u. none_boardable (cut.before u.row u.swept) u.boardable;
      }

  least_of_all : {work : List ℕ} → Swept t gate source minute (length t.rows) work → {s m : ℕ} → Reached t gate source minute s m → reached_at work s ≤ m
  least_of_all sw sets_out = sw.starts
  least_of_all sw (rides {r} {m} here since is) = sw.no_earlier r is is.inside m here since

  -- all rows are swept
  pub swept_all :
      (stop : ℕ) {work : List ℕ} → stop < most_stops → Swept t gate source minute (length t.rows) work → EarliestReached t gate source minute stop (reached_at work stop)
  swept_all stop small sw = record { told = sw.told stop small; least = λ m k. least_of_all sw k }

  -- the next row departs at or after the stop's minute: whatever is caught from it on lands later
  pub swept_enough :
      (stop i : ℕ) {work : List ℕ} → stop < most_stops → i < length t.rows → reached_at work stop ≤ (row_of t.rows i).departure
      → Swept t gate source minute i work → EarliestReached t gate source minute stop (reached_at work stop)
  swept_enough stop i {work} small inside reached sw = record { told = sw.told stop small; least = least }
    where
      departure : ℕ
      departure = (row_of t.rows i).departure

      least : (m : ℕ) → Reached t gate source minute stop m → reached_at work stop ≤ m
      least m k =
          ifb (λ b. leb m departure ≡ b → reached_at work stop ≤ m) (leb m departure)
          (λ e _. known t ship gate source minute i inside sw k (leb-true m departure e))
          (λ e _. let late : departure < m = leb-false m departure e in let z : reached_at work stop ≤ m = omega (arith, reached) in z) refl

module _ (t : Timetable) (ship : Seaworthy t) (q : Query) (apart : q.source ≢ q.target) (small : q.minute < 65536) where
  arrives_there : (e : ℕ) → earliest t q ≡ some e → Reached t q.gate q.source q.minute q.target e
  arrives_there e h = journey_reached t q (earliest_is_least t ship.timely q e h).reached

  fits_below : (e : ℕ) → earliest t q ≡ some e → e < missing
  fits_below e h =
      let below : e < 65536 = reached_below t ship q.gate q.source q.minute small (arrives_there e h) in
      let z : e < missing = omega arith in z

  module _ {cell : ℕ} (found : EarliestReached t q.gate q.source q.minute q.target cell) where
    some_cell : (e : ℕ) → earliest t q ≡ some e → cell ≡ e
    some_cell e h =
        le_antisymm (found.least e (arrives_there e h))
        (⊎_elim (λ z. let below = fits_below e h in let y : e ≤ cell = omega arith in y)
        (λ k. (earliest_is_least t ship.timely q e h).least cell (reached_journey t q apart k refl)) found.told)

    no_cell : earliest t q ≡ none → cell ≡ missing
    no_cell h =
        ⊎_elim (λ z. z) (λ k. absurd (no_earliest t ship.timely q apart h cell (reached_journey t q apart k refl))) found.told

    -- the target's cell is the earliest safe arrival, or tells that there is none
    pub none_arrives : cell ≡ missing → None ≡ arrival (earliest t q)
    none_arrives e =
        present_or_absent (None ≡ arrival (earliest t q)) (earliest t q) (λ h. sym (ap arrival h))
        (λ m h. absurd (let below = fits_below m h in let same = some_cell m h in let z : ⊥ = omega arith in z))

    pub cell_arrives : (cell ≡ missing → ⊥) → Some cell ≡ arrival (earliest t q)
    cell_arrives real =
        present_or_absent (Some cell ≡ arrival (earliest t q)) (earliest t q) (λ h. absurd (real (no_cell h)))
        (λ m h. ap Some (some_cell m h) ∙ sym (ap arrival h))
