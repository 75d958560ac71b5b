-- The numbers of planning fit their cells: E is a minute of 16 bits that does not lie before T + g, and so the bound fits. Uses a sound file's rows.
use Prim.Native.Nat.{ℕ, ◌+◌, ◌-◌, ◌*◌, ◌/◌, ◌≤◌, ◌<◌}
use native.Mathlib.Nat.{mul-le-mul_right}
use native.Mathlib.Omega.{arith}
use mathlib.Core.List.{List}
use mathlib.Core.Logic.{inl, inr}
use mathlib.Core.Option.{some}
use mathlib.Core.Path.{◌≡◌, sym, subst}
use borrow.Author.Tests.{eq-eqb, ne_eqb}
use Rattle.laws.proofs.Tests.{cond_true, cond_false}
use Rattle.query.specs.declared.Query.{Query}
use Rattle.query.specs.Query.{most_quarters, QueryFits}
use Rattle.plans.specs.Sound.{Timely}
use Rattle.plans.specs.Rides.{Ride, IsRide, lands_by}
use Rattle.plans.specs.Journeys.{Onward, leaves, changes, CodeStands, bound_of, ready_at}
use Rattle.plans.specs.Plan.{earliest}
use Rattle.plans.proofs.EarliestSafe.{earliest_is_least, journey_after}
use Rattle.plan_rows.specs.declared.SectionPlaces.{SectionPlaces}
use Rattle.plan_rows.specs.Reading.{timetable_in, FileReadable}
use Rattle.plan_whole.specs.Steps.{Reaches}

module _ (file : List ℕ) (s : SectionPlaces) (stand : FileReadable file s) where
  ride_lands : (r : Ride) → IsRide (timetable_in file s) r → lands_by r < 65536
  ride_lands r is =
      let inside : r.leave < s.rows = omega (arith, is.inside, stand.rows_count) in
      subst (λ (x : Ride). lands_by x < 65536) (sym is.as_timed) (stand.row_fits r.leave inside).lands

  journey_lands : (gate target : ℕ) {r : Ride} {end : ℕ} → Onward (timetable_in file s) gate target r end → end < 65536
  journey_lands gate target (leaves {r} is e) = ride_lands r is
  journey_lands gate target (changes is b on) = journey_lands gate target on

  pub earliest_fits : Timely (timetable_in file s) → (q : Query) (e : ℕ) → earliest (timetable_in file s) q ≡ some e → (ready_at q ≤ e) × (e < 65536)
  earliest_fits timely q e found =
      let journey = (earliest_is_least (timetable_in file s) timely q e found).reached in
      (let after : ready_at q < e = journey_after (timetable_in file s) timely q e journey in omega arith, journey_lands q.gate q.target journey.onward)

-- a bound code that keeps its rule
pub code_stands : {stops last : ℕ} {q : Query} → QueryFits stops last q → CodeStands q.code
code_stands fits = elim fits.code [ inl p ↦ inl p | inr p ↦ inr p.0 ]

-- the bound has its two values
pub no_bound : (q : Query) (e : ℕ) → q.code ≡ 0 → 0 ≡ bound_of q e
no_bound q e h = sym (cond_true 0 (q.minute + q.code * (e - q.minute) / 4) (eq-eqb q.code 0 h))

pub real_bound : (q : Query) (e : ℕ) → (q.code ≡ 0 → ⊥) → q.minute + q.code * (e - q.minute) / 4 ≡ bound_of q e
real_bound q e h = sym (cond_false 0 (q.minute + q.code * (e - q.minute) / 4) (ne_eqb q.code 0 h))

-- the bound does not lie before E, nor before T + g
pub bound_reaches : (q : Query) (e : ℕ) → CodeStands q.code → ready_at q ≤ e → Reaches (ready_at q) (bound_of q e)
bound_reaches q e (inl none_asked) after real = absurd (real (sym (no_bound q e none_asked)))
bound_reaches q e (inr quarters) after real =
    subst (λ b. ready_at q ≤ b) (real_bound q e (λ k. let z : ⊥ = omega arith in z)) (omega (arith, mul-le-mul_right (e - q.minute) quarters))

-- sixteen quarters of a minute's length fit a cell
pub quarters_fit : (code minutes : ℕ) → code ≤ most_quarters → minutes < 65536 → code * minutes ≤ 1048560
quarters_fit code minutes few short =
    let a : code * minutes ≤ most_quarters * minutes = mul-le-mul_right minutes few in omega arith
