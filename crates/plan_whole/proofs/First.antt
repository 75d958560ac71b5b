-- The first chosen row at the source: what the top of the source's stack holds, and the plan that it begins. Uses a sound file's rows.
use Prim.Native.Nat.{ℕ, suc, ◌+◌, ◌-◌, ◌*◌, ◌≤◌, ◌<◌}
use native.Mathlib.Omega.{arith}
use mathlib.Core.Bool.{cond}
use mathlib.Core.List.{List, [], ◌∷◌, ◌++◌, Memᴰ}
use mathlib.Core.Option.{Option, none, some}
use mathlib.Core.Path.{◌≡◌, sym, ap, subst, ◌∙◌}
use lib.ListN.{length, get_or}
use lib.Seq.{slice, length-slice}
use Rattle.laws.proofs.Tests.{ifb}
use Rattle.laws.proofs.Places.{member_at}
use Rattle.timetable.specs.Timetable.{Timetable}
use Rattle.timetable.specs.declared.Row.{Row}
use Rattle.query.specs.declared.Query.{Query}
use Rattle.plans.specs.declared.Goal.{Goal}
use Rattle.plans.specs.Journeys.{goal_of, ready_at}
use Rattle.plans.specs.Rides.{Ride}
use Rattle.plans.specs.Worth.{Valued, first_open}
use Rattle.plans.specs.Chosen.{Aim, in_ticks, scan, choose, others, best_of}
use Rattle.plans.specs.Plan.{Window, wanted, up_to, windows_of, extract, rides_from, latest_of, chosen_for, plan_within}
use Rattle.plans.proofs.Choice.{choice, Choice, worthless, at_target, behind, added, same_minute}
use Rattle.plans.proofs.BestRides.{best_boards, chosen_picked}
use Rattle.plan_stacks.specs.Stacks.{key_of, entry_row, entry_worth, Entry, entry_at, stack_start, stack_size}
use Rattle.plan_rows.specs.declared.SectionPlaces.{SectionPlaces}
use Rattle.plan_rows.specs.Reading.{timetable_in}
use Rattle.plan_rows.specs.Idle.{Idle}
use Rattle.plan_rows.proofs.Cuts.{scan_part, part_chosen, part_first, part_rides}
use Rattle.plan_stacks.specs.Chosen.{at_stop, entry_of, EntryFits}
use Rattle.plan_stacks.proofs.AtStop.{first_open_at_stop, first_open_at, first_open_none, at_stop_from, at_stop_member}
use Rattle.plan_stacks.proofs.Entries.{stack_size_lem, entry_at_lem}
use Rattle.plan_scan.specs.Scanned.{scan_in, ScanHeld}
use Rattle.plan_extract.specs.Extracted.{PlanAhead}
use Rattle.plan_whole.specs.Steps.{PlanningInput, plan_in}

-- chosen rides are no more than the rows
others_few : (r : Ride) (vs : List Valued) → length (others r vs) ≤ length vs
unfolding others
others_few r [] = omega arith
others_few r (v ∷ vs) =
    ifb (λ b. length (cond b (others r vs) (v ∷ others r vs)) ≤ suc (length vs)) (same_minute v.ride r)
    (λ _. let z : length (others r vs) ≤ suc (length vs) = omega (arith, others_few r vs) in z)
    (λ _. let z : suc (length (others r vs)) ≤ suc (length vs) = omega (arith, others_few r vs) in z)

choice_few : (aim : Aim) {best : Option Valued} {old new : List Valued} → Choice aim old best new → length new ≤ suc (length old)
choice_few aim worthless = omega arith
choice_few aim (at_target p) = omega arith
choice_few aim (behind p) = omega arith
choice_few aim {old = old} (added {v = v} apart lead) = omega (arith, others_few v.ride old)

chosen_few : (aim : Aim) (tables : List (List ℕ)) (i : ℕ) (rows : List Row)
    → length (scan aim tables i rows).chosen ≤ length rows
unfolding scan
chosen_few aim tables i [] = omega arith
chosen_few aim tables i (r ∷ rows) =
    let later = scan aim tables (suc i) rows in
    let best = best_of aim tables i r later in
    let z : length (choose aim best later.chosen) ≤ suc (length rows) =
    omega (arith, choice_few aim (choice aim best later.chosen), chosen_few aim tables (suc i) rows)
    in z

extract_few : (gate target : ℕ) (ws : List Window) (vs : List Valued) → length (extract gate target ws vs) ≤ length vs
unfolding extract
extract_few gate target ws [] = omega arith
extract_few gate target ws (v ∷ vs) =
    ifb
    (λ b. length (cond b (v ∷ extract gate target (windows_of gate target v.ride vs ++ ws) vs) (extract gate target ws vs)) ≤ suc (length vs))
    (wanted ws v.ride)
    (λ _. let z : suc (length (extract gate target (windows_of gate target v.ride vs ++ ws) vs)) ≤ suc (length vs) =
    omega (arith, extract_few gate target (windows_of gate target v.ride vs ++ ws) vs) in z)
    (λ _. let z : length (extract gate target ws vs) ≤ suc (length vs) = omega (arith, extract_few gate target ws vs) in z)

-- the part of the rows from `first` to before `end`, and the cells after its scan
module _
    (file : List ℕ)
    (s : SectionPlaces)
    (tables : List ℕ)
    (q : Query)
    (first : ℕ)
    (laid : PlanningInput file s tables q first)
    (bound end : ℕ)
    (ordered : first ≤ end)
    (inside : end ≤ s.rows)
    (work : List ℕ)
  where
    abbrev t : Timetable
    t = timetable_in file s

    abbrev chosen : Goal → List Valued
    chosen goal = (scan_part (in_ticks goal) t first end).chosen

    abbrev size : ℕ
    size = stack_size work q.source

    abbrev rides : Goal → Valued → List Valued
    rides goal v = extract goal.gate goal.target (up_to q.source (ready_at q) (some v)) (chosen goal)

    -- what the top of the stack tells of the plan
    pub record Top (goal : Goal) : Type 0 where
      pub ride : Valued
      pub row : entry_row work (stack_start work q.source) (size - 1) ≡ ride.ride.board
      pub worth : entry_worth work (stack_start work q.source) (size - 1) ≡ ride.worth
      pub first_here : first_open (chosen goal) q.source (ready_at q) ≡ some ride
      pub is_plan :
          plan_in file s q bound
          ≡ some (record { rides = rides goal ride; expected = ride.worth; latest = latest_of (rides goal ride); bound = bound })
      pub few : length (rides goal ride) ≤ 2000

    abbrev pub Told : Goal → Type 0
    Told goal = (size ≡ 0 → plan_in file s q bound ≡ none) × (0 < size → Top goal)

    module _ (held : ScanHeld work s.rows first end (scan_part (in_ticks (goal_of q bound)) t first end))
        (idle : Idle (in_ticks (goal_of q bound)) t end) where
      here : List Valued
      here = at_stop q.source (chosen (goal_of q bound))

      abbrev someone : Valued
      someone = record { ride = record { board = 0; leave = 0; from = 0; departs = 0; to = 0; arrives = 0; shares = [] }; worth = 0 }

      counted : size ≡ length here
      unfolding here
      counted = stack_size_lem work (stack_start work q.source) size here (held.stack_holds q.source laid.source)

      seen : first_open (chosen_for t (goal_of q bound)) q.source (ready_at q) ≡ first_open (chosen (goal_of q bound)) q.source (ready_at q)
      seen = part_first t laid.timely (goal_of q bound) q.source (ready_at q) first end laid.cut ordered idle

      none_here : size ≡ 0 → plan_in file s q bound ≡ none
      unfolding here plan_within
      none_here e =
          ap (plan_within t q bound)
          (seen ∙ first_open_at_stop (chosen (goal_of q bound)) q.source (ready_at q)
          ∙ first_open_none here q.source (ready_at q) someone (λ k h. absurd (let z : ⊥ = omega (arith, counted) in z)))

      -- a chosen row of this part departs at or after T + g
      departs_later : (v : Valued) → Memᴰ v (chosen (goal_of q bound)) → ready_at q ≤ v.ride.departs
      departs_later v m =
          let aim = in_ticks (goal_of q bound) in
          let picked = chosen_picked aim t first (let z : first ≤ length t.rows = omega (arith, laid.stand.rows_count) in z) v
          (subst (λ (l : List Valued). Memᴰ v l) (part_chosen aim t end idle first ordered) m) in
          subst (λ d. ready_at q ≤ d) (sym (best_boards aim t v.ride.board picked.inside v picked.best).minute)
          (laid.cut.behind v.ride.board picked.here picked.inside)

      abbrev ahead : Valued
      ahead = get_or here 0 someone

      is_first : 0 < size → first_open (chosen (goal_of q bound)) q.source (ready_at q) ≡ some ahead
      unfolding here
      is_first h =
          let some_here : 0 < length here = omega (arith, counted) in
          first_open_at_stop (chosen (goal_of q bound)) q.source (ready_at q)
          ∙ first_open_at here q.source (ready_at q) 0 someone some_here (at_stop_from q.source (chosen (goal_of q bound)) 0 someone some_here)
          (departs_later ahead (at_stop_member q.source (chosen (goal_of q bound)) ahead (member_at here 0 someone some_here)))
          (λ k below. absurd (let z : ⊥ = omega arith in z))

      first_plan : (v : Valued) → first_open (chosen (goal_of q bound)) q.source (ready_at q) ≡ some v → plan_in file s q bound
          ≡ some (record { rides = rides (goal_of q bound) v; expected = v.worth; latest = latest_of (rides (goal_of q bound) v); bound = bound })
      unfolding plan_within rides_from
      first_plan v e =
          ap (plan_within t q bound) (seen ∙ e)
          ∙ ap (λ (vs : List Valued). some (record { rides = vs; expected = v.worth; latest = latest_of vs; bound = bound }))
          (part_rides t laid.timely q bound first end laid.cut ordered idle
          ∙ ap (λ (o : Option Valued). extract q.gate q.target (up_to q.source (ready_at q) o) (chosen (goal_of q bound))) e)

      top_entry : 0 < size → entry_at work (stack_start work q.source + 2 * (size - 1)) ≡ entry_of ahead
      unfolding here
      top_entry h =
          entry_at_lem work (stack_start work q.source) size here (held.stack_holds q.source laid.source) 0 (size - 1) someone
          (let z : 0 + suc (size - 1) ≡ size = omega arith in z)

      entry_fits : 0 < size → EntryFits ahead
      unfolding here
      entry_fits h =
          let some_here : 0 < length here = omega (arith, counted) in
          (held.climbing q.source laid.source).fits ahead (member_at here 0 someone some_here)

      told : Told (goal_of q bound)
      told = (
        none_here,
        λ h.
            let entry = top_entry h in
            let fits = entry_fits h in
            let key : get_or work (stack_start work q.source + 2 * (size - 1)) 0 ≡ key_of ahead.ride.departs ahead.ride.board = ap (λ (x : Entry). x.key) entry in
            record {
              ride = ahead;
              row = (let z : entry_row work (stack_start work q.source) (size - 1) ≡ ahead.ride.board = omega (arith, key, fits.row) in z);
              worth = ap (λ (x : Entry). x.worth) entry;
              first_here = is_first h;
              is_plan = first_plan ahead (is_first h);
              few =
                  (let z : length (rides (goal_of q bound) ahead) ≤ 2000 = omega (
                    arith,
                    extract_few q.gate q.target (up_to q.source (ready_at q) (some ahead)) (chosen (goal_of q bound)),
                    chosen_few (in_ticks (goal_of q bound)) t.tables first (slice first end t.rows),
                    length-slice first end t.rows (let y : end ≤ length t.rows = omega (arith, laid.stand.rows_count) in y),
                    laid.stand.few_rows,
                  ) in z);
            },
      )

    -- the same of a goal that is the query's
    pub goal_told : (goal : Goal) → goal ≡ goal_of q bound → ScanHeld work s.rows first end (scan_part (in_ticks goal) t first end)
        → Idle (in_ticks goal) t end → Told goal
    goal_told goal e =
        subst
        (λ (g : Goal). ScanHeld work s.rows first end (scan_part (in_ticks g) t first end) → Idle (in_ticks g) t end → Told g)
        (sym e) told

    -- the plan that the top's row begins, in the scan's cells
    abbrev pub begins : {goal : Goal} → ScanHeld work s.rows first end (scan_in file s goal first end) → Top goal → {row : ℕ}
        → row ≡ entry_row work (stack_start work q.source) (size - 1) → PlanAhead file s goal row end work
    begins held top on_top =
        record {
          first = first;
          ordered = ordered;
          held = held;
          begins =
              record {
                stop = q.source;
                minute = ready_at q;
                ride = top.ride;
                stop_inside = laid.source;
                is_first = top.first_here;
                boards_at = sym (on_top ∙ top.row);
              };
        }
