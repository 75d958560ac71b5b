-- Planning looks at a part of the rows: not at those that depart before T + g, nor at those that depart at or after a real bound. The chosen rows of
-- that part serve as all of them do. Uses that a sound timetable's departures rise and its rows land after they depart.
use Prim.Native.Nat.{ℕ, suc, ◌≤◌, ◌<◌}
use native.Mathlib.Nat.{le_refl}
use native.Mathlib.Omega.{arith}
use mathlib.Core.Bool.{Bool, true, false, cond}
use mathlib.Core.List.{List, [], ◌∷◌, Memᴰ}
use mathlib.Core.Logic.{◌≢◌, ◌⊎◌, inl, inr}
use mathlib.Core.Option.{Option, none, some}
use mathlib.Core.Path.{◌≡◌, refl, sym, ap, ap₂, subst, ◌∙◌}
use lib.Dec.{leb, eqb}
use lib.ListN.{length}
use lib.Seq.{slice, slice_empty, slice-cons}
use borrow.Author.Tests.{leb-true, eqb-true}
use Rattle.laws.proofs.Downward.{downward}
use Rattle.laws.proofs.Options.{present_or_absent}
use Rattle.laws.proofs.Tests.{either}
use Rattle.timetable.specs.Timetable.{Timetable, row_of, no_row}
use Rattle.query.specs.declared.Query.{Query}
use Rattle.plans.specs.declared.Goal.{Goal}
use Rattle.plans.specs.Sound.{Timely}
use Rattle.plans.specs.Rides.{lands_by}
use Rattle.plans.specs.Journeys.{goal_of, ready_at}
use Rattle.plans.specs.Worth.{Valued, first_open}
use Rattle.plans.specs.Chosen.{Aim, in_ticks, Scan, scan, best_of, choose, next_of, least_of, get_off, stay_on, row_ride}
use Rattle.plans.specs.Plan.{up_to, extract, rides_from, chosen_for}
use Rattle.plans.specs.FromRow.{chosen_from, best_at, next_from}
use Rattle.plans.proofs.FromRow.{chosen_row, chosen_end, next_row, next_end}
use Rattle.plans.proofs.Choice.{choice}
use Rattle.plans.proofs.BestRides.{best_boards, best_is_ride, chosen_picked}
use Rattle.plans.proofs.RideMinutes.{departs_before}
use Rattle.plans.proofs.ChosenWorth.{best_within}
use Rattle.plans.proofs.Made.{chosen_for_lem}
use Rattle.plan_rows.specs.Reading.{Cut}
use Rattle.plan_rows.specs.Idle.{Idle}
use Rattle.plan_rows.proofs.Departed.{not_left, choice_left, first_left, late_up_to, extract_left}

-- the scan of the rows from row i to before `end`
abbrev pub scan_part : Aim → Timetable → (i end : ℕ) → Scan
scan_part aim t i end = scan aim t.tables i (slice i end t.rows)

module _ (aim : Aim) (t : Timetable) where
  -- behind the last row
  pub idle_end : Idle aim t (length t.rows)
  idle_end = record { inside = le_refl (length t.rows); none_chosen = chosen_end aim t; no_next = next_end aim t }

  pub worthless_idle : (end : ℕ) → end ≤ length t.rows → ((i : ℕ) → end ≤ i → i < length t.rows → best_at aim t i ≡ none)
      → Idle aim t end
  unfolding choose
  worthless_idle end inside worthless =
      downward (λ i. end ≤ i → Idle aim t i) (length t.rows) (λ _. idle_end)
      (λ i h further later.
      let idle = further (omega arith) in
      record {
        inside = omega arith;
        none_chosen =
            chosen_row aim t i h ∙ ap (λ (o : Option Valued). choose aim o (chosen_from aim t (suc i))) (worthless i later h)
            ∙ idle.none_chosen;
        no_next =
            λ trip.
            next_row aim t i trip h
            ∙ ap₂ (λ (a b : Option Valued). cond (eqb (row_of t.rows i).trip trip) a b) (worthless i later h) (idle.no_next trip)
            ∙ either_none (eqb (row_of t.rows i).trip trip);
      }) end inside (le_refl end)
    where
      nothing : Option Valued
      nothing = none

      either_none : (b : Bool) → cond b nothing nothing ≡ none
      either_none true = refl
      either_none false = refl

  -- a part of the rows is scanned as all of them
  module _ (end : ℕ) (idle : Idle aim t end) where
    abbrev Same : ℕ → Type 0
    Same i =
        ((scan_part aim t i end).chosen ≡ chosen_from aim t i)
        × ((trip : ℕ) → next_of (scan_part aim t i end).weighed trip ≡ next_from aim t i trip)

    part_row : (i : ℕ) → i < end → Same (suc i) → Same i
    unfolding scan best_at best_of chosen_from next_from next_of
    part_row i h same =
        let within : i < length t.rows = omega (arith, idle.inside) in
        let r = row_of t.rows i in
        let later = scan_part aim t (suc i) end in
        let cut : scan_part aim t i end ≡ scan aim t.tables i (r ∷ slice (suc i) end t.rows) =
        ap (scan aim t.tables i) (slice-cons i end t.rows no_row h idle.inside)
        in
        let best : best_of aim t.tables i r later ≡ best_at aim t i =
        ap₂
        (λ (vs : List Valued) (o : Option Valued). least_of (get_off (row_ride t.tables i r) (aim.off (row_ride t.tables i r) vs)) (stay_on i r o))
        same.0 (same.1 r.trip)
        in (
          ap (λ (sc : Scan). sc.chosen) cut ∙ ap₂ (λ (o : Option Valued) (vs : List Valued). choose aim o vs) best same.0
              ∙ sym (chosen_row aim t i within),
          λ trip.
              ap (λ (sc : Scan). next_of sc.weighed trip) cut
              ∙ ap₂ (λ (a b : Option Valued). cond (eqb r.trip trip) a b) best (same.1 trip) ∙ sym (next_row aim t i trip within),
        )

    part_end : Same end
    unfolding scan next_of
    part_end =
        let empty : scan_part aim t end end ≡ record { weighed = []; chosen = [] } =
        ap (scan aim t.tables end) (slice_empty end t.rows)
        in (
          ap (λ (sc : Scan). sc.chosen) empty ∙ sym idle.none_chosen,
          λ trip. ap (λ (sc : Scan). next_of sc.weighed trip) empty ∙ sym (idle.no_next trip),
        )

    pub part_chosen : (first : ℕ) → first ≤ end → (scan_part aim t first end).chosen ≡ chosen_from aim t first
    part_chosen first h = (downward Same end part_end part_row first h).0

module _ (t : Timetable) (timely : Timely t) where
  -- a row that departs at or after a real bound has no worth
  module _ (goal : Goal) (real : goal.bound ≢ 0) where
    past_bound : (i : ℕ) → i < length t.rows → goal.bound ≤ (row_of t.rows i).departure → best_at (in_ticks goal) t i ≡ none
    past_bound i h late =
        present_or_absent (best_at (in_ticks goal) t i ≡ none) (best_at (in_ticks goal) t i) (λ e. e)
        (λ v e. absurd (too_far v e (either (eqb goal.bound 0) (leb (lands_by v.ride) goal.bound) (best_within t timely goal i h v e))))
      where
        too_far : (v : Valued) → best_at (in_ticks goal) t i ≡ some v
            → (eqb goal.bound 0 ≡ true) ⊎ (leb (lands_by v.ride) goal.bound ≡ true) → ⊥
        too_far v e (inl q) = real (eqb-true goal.bound 0 q)
        too_far v e (inr q) =
            let before : v.ride.departs < v.ride.arrives =
            departs_before t timely v.ride (best_is_ride (in_ticks goal) t i h v e)
            in
            let leaves : v.ride.departs ≡ (row_of t.rows i).departure = (best_boards (in_ticks goal) t i h v e).minute in
            let z : ⊥ = omega (arith, leb-true (lands_by v.ride) goal.bound q) in z

    pub bound_idle : (end : ℕ) → Cut t.rows goal.bound end → Idle (in_ticks goal) t end
    bound_idle end cut =
        worthless_idle (in_ticks goal) t end cut.inside (λ i h below. past_bound i below (cut.behind i h below))

  -- rows before a minute change nothing from it on
  module _ (aim : Aim) (minute first : ℕ) (cut : Cut t.rows minute first) where
    not_left_lem : (i : ℕ) → i ≤ first → not_left minute (chosen_from aim t i) ≡ not_left minute (chosen_from aim t first)
    not_left_lem =
        downward (λ i. not_left minute (chosen_from aim t i) ≡ not_left minute (chosen_from aim t first)) first refl
        (λ i h later.
        let inside : i < length t.rows = omega (arith, cut.inside) in
        ap (not_left minute) (chosen_row aim t i inside)
        ∙ choice_left minute aim (choice aim (best_at aim t i) (chosen_from aim t (suc i)))
        (λ v e. subst (λ d. d < minute) (sym (best_boards aim t i inside v e).minute) (cut.before i h))
        ∙ later)

    pub first_same : (stop : ℕ) → first_open (chosen_from aim t 0) stop minute ≡ first_open (chosen_from aim t first) stop minute
    first_same stop =
        sym (first_left minute (chosen_from aim t 0) stop minute (le_refl minute))
        ∙ ap (λ (vs : List Valued). first_open vs stop minute) (not_left_lem 0 (omega arith))
        ∙ first_left minute (chosen_from aim t first) stop minute (le_refl minute)

    lands_later : (i : ℕ) → i ≤ length t.rows → (v : Valued) → Memᴰ v (chosen_from aim t i) → v.ride.departs < v.ride.arrives
    lands_later i h v m =
        let picked = chosen_picked aim t i h v m in
        departs_before t timely v.ride (best_is_ride aim t v.ride.board picked.inside v picked.best)

    pub rides_same : (gate target stop : ℕ) (o : Option Valued)
        → extract gate target (up_to stop minute o) (chosen_from aim t 0) ≡ extract gate target (up_to stop minute o) (chosen_from aim t first)
    rides_same gate target stop o =
        let late = late_up_to minute stop minute o (le_refl minute) in
        extract_left minute gate target (chosen_from aim t 0) (lands_later 0 (omega arith)) (up_to stop minute o) late
        ∙ ap (extract gate target (up_to stop minute o)) (not_left_lem 0 (omega arith))
        ∙ sym (extract_left minute gate target (chosen_from aim t first) (lands_later first cut.inside) (up_to stop minute o) late)

  -- for planning: the part's chosen rows stand for all of them
  pub part_first : (goal : Goal) (stop minute first end : ℕ) → Cut t.rows minute first → first ≤ end → Idle (in_ticks goal) t end
      → first_open (chosen_for t goal) stop minute ≡ first_open (scan_part (in_ticks goal) t first end).chosen stop minute
  part_first goal stop minute first end cut h idle =
      ap (λ (vs : List Valued). first_open vs stop minute) (chosen_for_lem t goal)
      ∙ first_same (in_ticks goal) minute first cut stop
      ∙ ap (λ (vs : List Valued). first_open vs stop minute) (sym (part_chosen (in_ticks goal) t end idle first h))

  pub part_rides : (q : Query) (bound first end : ℕ) → Cut t.rows (ready_at q) first → first ≤ end
      → Idle (in_ticks (goal_of q bound)) t end
      → rides_from q (chosen_for t (goal_of q bound)) ≡ rides_from q (scan_part (in_ticks (goal_of q bound)) t first end).chosen
  unfolding rides_from
  part_rides q bound first end cut h idle =
      let aim = in_ticks (goal_of q bound) in
      let whole = chosen_for_lem t (goal_of q bound) in
      let part = part_chosen aim t end idle first h in
      ap₂ (λ (o : Option Valued) (vs : List Valued). extract q.gate q.target (up_to q.source (ready_at q) o) vs)
      (part_first (goal_of q bound) q.source (ready_at q) first end cut h idle) whole
      ∙ rides_same aim (ready_at q) first cut q.gate q.target q.source
      (first_open (scan_part aim t first end).chosen q.source (ready_at q))
      ∙ ap (extract q.gate q.target (up_to q.source (ready_at q) (first_open (scan_part aim t first end).chosen q.source (ready_at q))))
      (sym part)
