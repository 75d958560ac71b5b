-- Getting off a row whose landing stop's stack is there: what the stack answers, and what each way out is worth. Assumes nothing.
use Prim.Native.Nat.{ℕ, suc, pred, ◌+◌, ◌-◌, ◌*◌, ◌/◌, ◌≤◌, ◌<◌}
use mathlib.Core.Bool.{true, false}
use mathlib.Core.List.{List, []}
use mathlib.Core.Option.{none, some}
use mathlib.Core.Path.{◌≡◌, sym, ap, subst, ◌∙◌}
use native.Mathlib.Nat.{lt_of_lt_of_le}
use native.Mathlib.Omega.{arith}
use borrow.Author.Tests.{eq-eqb, ne_eqb, leb-true, leb-false}
use lib.Dec.{leb}
use lib.ListN.{length, get_or}
use Rattle.laws.proofs.Tests.{ifb, cond_true, cond_false}
use Rattle.laws.proofs.Places.{member_at}
use Rattle.timetable.specs.Classes.{share_total}
use Rattle.timetable.specs.Timetable.{maximum_delay}
use Rattle.timetable.specs.declared.Row.{Row}
use Rattle.plan_cells.specs.Cells.{cell_of, missing}
use Rattle.plan_stacks.specs.Stacks.{key_step, stack_start, stack_size, Falling, FirstOpenAt, entry_departure, entry_worth}
use Rattle.plans.specs.declared.Goal.{Goal}
use Rattle.plans.specs.Rides.{ready}
use Rattle.plans.specs.Journeys.{within}
use Rattle.timetable.specs.Ticks.{quotient_up}
use Rattle.plans.specs.Worth.{Valued, first_open, caught, worth_or, weigh, arrival_worth, change_worth}
use Rattle.plans.specs.Chosen.{off_in_ticks, when_safe}
use Rattle.plans.proofs.Weighing.{weigh_ready}
use Rattle.plan_landing.specs.Landing.{Landable, ride_off}
use Rattle.plan_stacks.specs.Chosen.{EntryFits, at_stop}
use Rattle.plan_landing.specs.Boarding.{Boarding}
use Rattle.plan_stacks.proofs.AtStop.{first_open_at_stop, caught_at_stop, at_stop_from, first_open_at, first_open_none, safe_at}
use Rattle.plan_landing.proofs.Runs.{weigh_bound}
use Rattle.plan_stacks.proofs.Entries.{stack_size_lem, worth_at, departure_at, falls_behind}

-- stands for a ride where there is none
no_ride : Valued
no_ride =
    record {
      ride = record { board = 0; leave = 0; from = 0; departs = 0; to = 0; arrives = 0; shares = [] };
      worth = 0;
    }

module _ {row : Row} {tables work shares : List ℕ} {chosen : List Valued} (given : Landable row tables work shares chosen) where
  size_is : stack_size work row.land ≡ length (at_stop row.land chosen)
  size_is = stack_size_lem work (stack_start work row.land) (stack_size work row.land) (at_stop row.land chosen) given.stack_holds

  -- a ride's place from the top and from the bottom
  fits : (down place : ℕ) → down + suc place ≡ stack_size work row.land → EntryFits (get_or (at_stop row.land chosen) down no_ride)
  fits down place e =
      given.climbing.fits (get_or (at_stop row.land chosen) down no_ride)
      (member_at (at_stop row.land chosen) down no_ride (omega (arith, size_is)))

  departs : (down place : ℕ) → down + suc place ≡ stack_size work row.land
      → entry_departure work (stack_start work row.land) place ≡ (get_or (at_stop row.land chosen) down no_ride).ride.departs
  departs down place e =
      departure_at work (stack_start work row.land) (stack_size work row.land) (at_stop row.land chosen) given.stack_holds down
      place no_ride e (fits down place e)

  worths : (down place : ℕ) → down + suc place ≡ stack_size work row.land
      → entry_worth work (stack_start work row.land) place ≡ (get_or (at_stop row.land chosen) down no_ride).worth
  worths down place e =
      worth_at work (stack_start work row.land) (stack_size work row.land) (at_stop row.land chosen) given.stack_holds down
      place no_ride e

  falls : (k l : ℕ) → k < l → l < stack_size work row.land
      → entry_departure work (stack_start work row.land) l < entry_departure work (stack_start work row.land) k
  falls k l h below =
      let size = stack_size work row.land in
      let rises = given.climbing.climbs (size - suc l) (size - suc k) no_ride (omega arith) (omega (arith, size_is)) in
      omega (arith, departs (size - suc k) k (omega arith), departs (size - suc l) l (omega arith))

  pub falling : (minute : ℕ) → 0 < stack_size work row.land → minute ≤ entry_departure work (stack_start work row.land) 0
      → Falling work (stack_start work row.land) (stack_size work row.land) minute
  falling minute filled bottom =
      record { some_entry = filled; inside = given.stack_inside; falls = falls; bottom = bottom }

  -- no ride departs from there
  pub none_there : (minute : ℕ) → stack_size work row.land ≡ 0 → first_open chosen row.land minute ≡ none
  none_there minute empty =
      first_open_at_stop chosen row.land minute
      ∙ first_open_none (at_stop row.land chosen) row.land minute no_ride (λ k h. absurd (let z : ⊥ = omega (arith, size_is) in z))

  -- all rides depart before the minute, since the last one does
  pub all_gone : (minute : ℕ) → 0 < stack_size work row.land → entry_departure work (stack_start work row.land) 0 < minute
      → first_open chosen row.land minute ≡ none
  all_gone minute filled gone =
      let size = stack_size work row.land in
      first_open_at_stop chosen row.land minute
      ∙ first_open_none (at_stop row.land chosen) row.land minute no_ride
      (λ k h.
      let inside : k < size = omega (arith, size_is) in
      let above : k + suc (size - suc k) ≡ size = omega arith in
      subst (λ m. m < minute) (departs k (size - suc k) above)
      (falls_behind {middle = 0} (falling 0 filled (omega arith)) gone (size - suc k) (omega arith) (omega arith)))

  -- the last ride departs at or after the minute
  pub safe_landing : (minute worth : ℕ) → 0 < stack_size work row.land → minute ≤ entry_departure work (stack_start work row.land) 0
      → when_safe (first_open chosen row.land minute) worth ≡ some worth
  safe_landing minute worth filled late =
      let size = stack_size work row.land in
      let last : size - 1 + 1 ≡ size = omega arith in
      let inside : size - 1 < length (at_stop row.land chosen) = omega (arith, size_is) in
      ap (λ o. when_safe o worth) (first_open_at_stop chosen row.land minute)
      ∙ safe_at (at_stop row.land chosen) row.land minute (size - 1) worth no_ride inside
      (at_stop_from row.land chosen (size - 1) no_ride inside) (omega (arith, departs (size - 1) 0 last))

  module _ (from at : ℕ) (found : FirstOpenAt work (stack_start work row.land) (stack_size work row.land) from at) where
    -- rides above one have left at a minute from the first on, if those down to the first one have
    left : (k minute : ℕ) → from ≤ minute
        → ((l : ℕ) → k < l → l ≤ found.place → entry_departure work (stack_start work row.land) l < minute)
        → (q : ℕ) → k < q → q < stack_size work row.land → entry_departure work (stack_start work row.land) q < minute
    left k minute after missed q h below =
        ifb (λ _. entry_departure work (stack_start work row.land) q < minute) (leb q found.place)
        (λ yes'. missed q h (leb-true q found.place yes'))
        (λ no'. lt_of_lt_of_le (found.missed q (leb-false q found.place no') below) after)

    catches : (k minute : ℕ) → k ≤ found.place → from ≤ minute → minute ≤ entry_departure work (stack_start work row.land) k
        → ((l : ℕ) → k < l → l ≤ found.place → entry_departure work (stack_start work row.land) l < minute)
        → caught chosen row.land minute ≡ entry_worth work (stack_start work row.land) k
    unfolding caught worth_or
    catches k minute below after opened missed =
        let size = stack_size work row.land in
        let down = size - suc k in
        let place : down + suc k ≡ size = omega (arith, found.inside) in
        let inside : down < length (at_stop row.land chosen) = omega (arith, size_is) in
        caught_at_stop chosen row.land minute
        ∙ ap (worth_or 0)
        (first_open_at (at_stop row.land chosen) row.land minute down no_ride inside (at_stop_from row.land chosen down no_ride inside)
        (omega (arith, departs down k place))
        (λ i h.
        let there : i + suc (size - suc i) ≡ size = omega arith in
        subst (λ m. m < minute) (departs i (size - suc i) there) (left k minute after missed (size - suc i) (omega arith) (omega arith))))
        ∙ sym (worths down k place)

    pub boarding : (landing : ℕ) → landing ≡ from + maximum_delay shares → landing ≤ entry_departure work (stack_start work row.land) 0
        → Boarding work tables (stack_start work row.land) found.place from landing (256 * row.class + 2) shares
        (λ minute. caught chosen row.land minute)
    boarding landing lands late =
        let size = stack_size work row.land in
        record {
          inside = omega (arith, given.stack_inside, found.inside);
          room = omega (arith, given.tables_room, given.class, given.shares_fit.few_shares);
          held = given.block.cumulative_held;
          shares_fit = given.shares_fit;
          lands = lands;
          falls = λ k l h below. falls k l h (omega (arith, found.inside));
          opens = omega (arith, found.opens);
          safe = late;
          worth_fits = λ k below.
              let place : size - suc k + suc k ≡ size = omega (arith, found.inside) in
              omega (arith, worths (size - suc k) k place, (fits (size - suc k) k place).worth);
          catches = catches;
        }

  -- the last landing, and when the bottom ride departs, as they are read
  pub lands_by : {longest : ℕ} → longest ≡ get_or tables (256 * row.class + 0) 0 → row.arrival + longest ≡ row.arrival + maximum_delay shares
  lands_by read =
      let there : 256 * row.class + 0 ≡ 256 * row.class = omega arith in
      ap (λ m. row.arrival + m) (read ∙ ap (λ k. get_or tables k 0) there ∙ given.block.longest_held)

  pub bottom_is : {start departure : ℕ} → start ≡ stack_start work row.land → departure ≡ get_or work start 0 / key_step
      → departure ≡ entry_departure work (stack_start work row.land) 0
  bottom_is {start} there read =
      let bottom : start ≡ stack_start work row.land + 2 * 0 = omega arith in read ∙ ap (λ x. get_or work x 0 / key_step) bottom

  -- the expected delay in ticks is below that of the longest table
  pub expected_fits : 256 * row.arrival + get_or tables (256 * row.class + 1) 0 < 4294967296
  expected_fits =
      let mean = weigh_bound shares 0 254 (λ v. v) (λ v h. omega (arith, given.shares_fit.few_shares)) in
      let total : weigh shares 0 (λ v. v) ≤ 1040384 = omega (arith, given.shares_fit.shares_whole) in
      omega (arith, given.lands, given.block.expected_held)

  pub landing_small : (landing : ℕ) → landing ≡ row.arrival + maximum_delay shares → landing < 4294967296
  landing_small landing lands = subst (λ m. m < 4294967296) (sym lands) (below row.arrival (length shares) given.lands)
    where
      below : (a n : ℕ) → a + n ≤ 65536 → a + pred n < 4294967296
      below a n h = omega arith

  module _ (goal : Goal) (landing : ℕ) (lands : landing ≡ row.arrival + maximum_delay shares) where
    pub off_late : row.land ≡ goal.target → within goal.bound landing ≡ false → missing ≡ cell_of (off_in_ticks goal (ride_off row shares) chosen)
    unfolding off_in_ticks
    off_late there late =
        sym (ap cell_of
        (cond_true _ _ (eq-eqb row.land goal.target there)
        ∙ cond_false (some (arrival_worth (ride_off row shares))) none (ap (within goal.bound) (sym lands) ∙ late)))

    pub off_there : row.land ≡ goal.target → within goal.bound landing ≡ true
        → 256 * row.arrival + get_or tables (256 * row.class + 1) 0 ≡ cell_of (off_in_ticks goal (ride_off row shares) chosen)
    unfolding off_in_ticks arrival_worth
    off_there there soon =
        ap (λ x. 256 * row.arrival + x) given.block.expected_held
        ∙ sym (ap cell_of
        (cond_true _ _ (eq-eqb row.land goal.target there)
        ∙ cond_true (some (arrival_worth (ride_off row shares))) none (ap (within goal.bound) (sym lands) ∙ soon)))

    elsewhere : (row.land ≡ goal.target → ⊥)
        → off_in_ticks goal (ride_off row shares) chosen
        ≡ when_safe (first_open chosen row.land (ready goal.gate (row.arrival + maximum_delay shares))) (change_worth goal.gate (ride_off row shares) chosen)
    unfolding off_in_ticks
    elsewhere other = cond_false _ _ (ne_eqb row.land goal.target other)

    pub off_unsafe : (row.land ≡ goal.target → ⊥) → first_open chosen row.land (ready goal.gate landing) ≡ none
        → missing ≡ cell_of (off_in_ticks goal (ride_off row shares) chosen)
    unfolding when_safe
    off_unsafe other unsafe =
        sym (ap cell_of
        (elsewhere other
        ∙ ap (λ m. when_safe (first_open chosen row.land (ready goal.gate m)) (change_worth goal.gate (ride_off row shares) chosen)) (sym lands)
        ∙ ap (λ o. when_safe o (change_worth goal.gate (ride_off row shares) chosen)) unsafe))

    pub off_changing : (row.land ≡ goal.target → ⊥) → 0 < stack_size work row.land
        → ready goal.gate landing ≤ entry_departure work (stack_start work row.land) 0
        → quotient_up share_total (weigh shares (ready goal.gate row.arrival) (λ minute. caught chosen row.land minute))
        ≡ cell_of (off_in_ticks goal (ride_off row shares) chosen)
    unfolding change_worth
    off_changing other filled late =
        ap (quotient_up share_total) (weigh_ready shares goal.gate row.arrival (λ minute. caught chosen row.land minute))
        ∙ sym (ap cell_of
        (elsewhere other
        ∙ ap (λ m. when_safe (first_open chosen row.land (ready goal.gate m)) (change_worth goal.gate (ride_off row shares) chosen)) (sym lands)
        ∙ safe_landing (ready goal.gate landing) (change_worth goal.gate (ride_off row shares) chosen) filled late))
