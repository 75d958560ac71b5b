-- Choosing one more row: each stop's stack holds the stop's chosen rides again, and the limits theirs. Assumes nothing.
use Prim.Native.Nat.{ℕ, suc, ◌+◌, ◌-◌, ◌*◌, ◌/◌, ◌≤◌, ◌<◌}
use mathlib.Core.Bool.{true}
use mathlib.Core.List.{List, [], ◌∷◌, map, Memᴰ}
use mathlib.Core.Logic.{◌≢◌, ◌⊎◌, inl, inr}
use mathlib.Core.Option.{Option, none, some}
use mathlib.Core.Path.{◌≡◌, refl, sym, ap, ap₂, subst, ◌∙◌}
use native.Mathlib.Nat.{mul-add-div, div-eq_of_lt}
use native.Mathlib.Omega.{arith}
use lib.Dec.{eqb, ltb}
use lib.ListN.{length, get_or, set, length-set}
use borrow.Author.Tests.{eqb-true, eqb-false, ltb-true, ltb-false}
use Rattle.timetable.specs.Limits.{most_stops}
use Rattle.laws.proofs.Tests.{ifb}
use Rattle.timetable.specs.declared.Row.{Row}
use Rattle.plans.specs.Worth.{Valued}
use Rattle.plans.specs.Chosen.{Aim, first_at, leads, choose}
use Rattle.plans.proofs.Order.{Ordered}
use Rattle.plan_stacks.specs.Stacks.{key_step, Entry, key_of, stack_at, stack_start, stack_size, start_pair, entry_departure}
use Rattle.plan_cells.specs.Cells.{missing, pair_cell}
use Rattle.plan_cells.proofs.Outside.{set_cell}
use Rattle.plan_stacks.specs.Chosen.{at_stop, entry_of, EntryFits}
use Rattle.plan_stacks.proofs.AtStop.{at_stop_member}
use Rattle.plan_scan.specs.Stores.{stored, row_worth, Stacked, alone, replaces, ahead, Chose, passed, taken}
use Rattle.plan_stacks.specs.Regions.{below}
use Rattle.plan_scan.specs.Regions.{count_at}
use Rattle.plan_scan.specs.Scanned.{PairHolds}
use Rattle.plan_scan.specs.Held.{StackHeld, limit_of, LimitsHeld}
use Rattle.plan_stacks.proofs.Entries.{entry, stack_kept, stack_none, Top, stack_top}
use Rattle.plan_stacks.proofs.Regions.{below_later}
use Rattle.plan_scan.proofs.Regions.{count_here, count_more}
use Rattle.plan_scan.proofs.ByStop.{at_from, choose_elsewhere, first_elsewhere, choose_none, not_led, own_first, own_alone, own_replaces, own_ahead}
use Rattle.plan_scan.proofs.Limits.{below_leads, above_behind, limit_most}
use Rattle.plan_scan.proofs.Rising.{at_ordered, departs_later}
use Rattle.plan_scan.proofs.PairsHeld.{Holds, pair_holds}
use Rattle.plan_stacks.proofs.Stored.{stored_start, stored_size, stored_other, stored_stack, stored_own_size}

-- what is known of a row that has been weighed, and of the rides chosen behind it
pub record Choosable (row : Row) (i : ℕ) (aim : Aim) (best : Option Valued) (chosen : List Valued) : Type 0 where
  pub board : row.board < most_stops
  pub away : row.board ≢ aim.target
  pub boarded : (v : Valued) → best ≡ some v → v.ride.board ≡ i
  pub stop : (v : Valued) → best ≡ some v → v.ride.from ≡ row.board
  pub minute : (v : Valued) → best ≡ some v → v.ride.departs ≡ row.departure
  pub ordered : Ordered chosen
  pub fits : (v : Valued) → Memᴰ v chosen → EntryFits v
  pub rising : (v : Valued) → Memᴰ v chosen → row.departure ≤ v.ride.departs

key_departure : (departs row key : ℕ) → row < key_step → key ≡ key_of departs row → key / key_step ≡ departs
key_departure departs row key small e =
    ap (λ x. x / key_step) e ∙ mul-add-div (let z : 0 < key_step = omega arith in z) departs row
    ∙ (let none' : row / key_step ≡ 0 = div-eq_of_lt small in let z : departs + row / key_step ≡ departs = omega arith in z)

worth_some : (best : Option Valued) (a b : ℕ) → Holds a b best → (a ≡ missing → ⊥) → (v : Valued) × (best ≡ some v) × (a ≡ v.worth)
worth_some none a b h has = absurd (has h)
worth_some (some v) a b h has = (v, refl, h.0)

-- a worth that is no less than its stop's limit
passed_by :
    (aim : Aim) (best : Option Valued) (chosen : List Valued) (stop worth leave : ℕ) → Holds worth leave best → stop ≢ aim.target
    → ((v : Valued) → best ≡ some v → v.ride.from ≡ stop) → limit_of aim.margin (first_at chosen stop) ≤ worth → choose aim best chosen ≡ chosen
passed_by aim none chosen stop worth leave h away there above = choose_none aim chosen
passed_by aim (some v) chosen stop worth leave h away there above =
    not_led aim chosen v (λ q. away (sym (there v refl) ∙ q))
    (above_behind aim.margin v.worth (first_at chosen v.ride.from) h.2
    (subst (λ s. limit_of aim.margin (first_at chosen s) ≤ v.worth) (sym (there v refl)) (omega (arith, h.0))))

-- a row that is not chosen leaves its stop's stack as it is
pub stack_passed :
    (row : Row) (w : List ℕ) (from : ℕ) (all rest : List Row) (old new : List Valued) (stop : ℕ) → new ≡ old → StackHeld w from all rest old stop
    → StackHeld w from all (row ∷ rest) new stop
stack_passed row w from all rest old new stop same held =
    record {
      start = held.start;
      room = (let few = held.room in let more = count_more stop row rest in omega arith);
      holds = held.holds ∙ ap (λ (l : List Valued). map entry_of (at_stop stop l)) (sym same);
    }

module _ (row : Row) (i : ℕ) (aim : Aim) (best : Option Valued) (chosen : List Valued) (c : Choosable row i aim best chosen) (w : List ℕ)
    (from : ℕ) (all rest : List Row) (held : (stop : ℕ) → stop < most_stops → StackHeld w from all rest chosen stop)
    (suffix : (stop : ℕ) → count_at stop (row ∷ rest) ≤ count_at stop all) (room : pair_cell (from + below (λ s. count_at s all) most_stops) ≤ length w) where
  own : StackHeld w from all rest chosen row.board
  own = held row.board c.board

  -- an entry no higher than the stack's top lies in the stop's region
  in_region : (k : ℕ) → k ≤ stack_size w row.board
      → start_pair w row.board + k < from + (below (λ s. count_at s all) row.board + count_at row.board all)
  in_region k h =
      let start = own.start in
      let few = own.room in
      let here = count_here row.board row rest refl in
      let more = suffix row.board in omega arith

  pub stored_inside : (k : ℕ) → k ≤ stack_size w row.board → stack_start w row.board + 2 * k + 1 < length w
  stored_inside k h =
      let region = in_region k h in
      let ends = below_later (λ s. count_at s all) row.board most_stops c.board in omega arith

  -- other stops' regions lie apart
  Beside : (k j : ℕ) → Type 0
  Beside k j = (j ≡ stack_start w row.board + 2 * k → ⊥) × (j ≡ stack_start w row.board + 2 * k + 1 → ⊥)

  apart : (k : ℕ) → k ≤ stack_size w row.board → (stop : ℕ) → stop < most_stops → (row.board ≡ stop → ⊥) → (j : ℕ)
      → stack_start w stop ≤ j → j < stack_start w stop + 2 * stack_size w stop → Beside k j
  unfolding Beside
  apart k h stop inside ne j low high =
      let region = in_region k h in
      let start = own.start in
      let start' = (held stop inside).start in
      let few' = (held stop inside).room in
      let more' = count_more stop row rest in
      let all' = suffix stop in
      ifb (λ b. ltb stop row.board ≡ b → Beside k j) (ltb stop row.board)
      (λ e _. let before : below (λ s. count_at s all) stop + count_at stop all ≤ below (λ s. count_at s all) row.board =
      below_later (λ s. count_at s all) stop row.board (ltb-true stop row.board e) in
      ((λ q. omega arith), (λ q. omega arith)))
      (λ e _. let not_before : row.board ≤ stop = ltb-false stop row.board e in
      let before : below (λ s. count_at s all) row.board + count_at row.board all ≤ below (λ s. count_at s all) stop =
      below_later (λ s. count_at s all) row.board stop (omega arith) in
      ((λ q. omega arith), (λ q. omega arith))) refl

  elsewhere : (v : Valued) (stop : ℕ) → (row.board ≡ stop → ⊥) → best ≡ some v → v.ride.from ≢ stop
  elsewhere v stop ne e q = ne (sym (c.stop v e) ∙ q)

  -- the row's entry was stored k pairs behind the start
  put : (k : ℕ) → k ≤ stack_size w row.board
      → entry (key_of row.departure i) (row_worth w i) ∷ stack_at w (stack_start w row.board) k ≡ map entry_of (at_stop row.board (choose aim best chosen))
      → (stop : ℕ) → stop < most_stops → StackHeld (stored row i k w) from all (row ∷ rest) (choose aim best chosen) stop
  unfolding Beside
  put k low now stop h =
      ifb (λ b. eqb row.board stop ≡ b → StackHeld (stored row i k w) from all (row ∷ rest) (choose aim best chosen) stop) (eqb row.board stop)
      (λ e _. subst (λ x. StackHeld (stored row i k w) from all (row ∷ rest) (choose aim best chosen) x) (eqb-true row.board stop e)
      (record {
        start = stored_start w row.board k row.departure i (row_worth w i) c.board row.board c.board ∙ own.start;
        room = (let size = stored_own_size w row.board k row.departure i (row_worth w i) c.board (stored_inside k low) in
            let few = own.room in
            let here = count_here row.board row rest refl in omega arith);
        holds = stored_stack w row.board k row.departure i (row_worth w i) c.board (stored_inside k low) ∙ now;
      }))
      (λ e _. let ne : row.board ≡ stop → ⊥ = eqb-false row.board stop e in
      let old = held stop h in
      record {
        start = stored_start w row.board k row.departure i (row_worth w i) c.board stop h ∙ old.start;
        room = (let size = stored_size w row.board k row.departure i (row_worth w i) c.board stop h ne in
            let few = old.room in
            let more = count_more stop row rest in omega arith);
        holds = stack_kept w (stored row i k w) stop (stored_start w row.board k row.departure i (row_worth w i) c.board stop h) (stored_size w row.board k row.departure i (row_worth w i) c.board stop h ne)
            (λ j a b. let beside = apart k low stop h ne j a b in stored_other w row.board k row.departure i (row_worth w i) c.board j (λ q. omega arith) beside.0 beside.1)
            ∙ old.holds ∙ ap (map entry_of) (sym (choose_elsewhere aim best chosen stop (λ v. elsewhere v stop ne)));
      }) refl

  module _ (holds : PairHolds w i best) (limits : List ℕ) (limited : LimitsHeld limits aim.margin chosen) where
    own_limit : get_or limits row.board 0 ≡ limit_of aim.margin (first_at chosen row.board)
    own_limit = limited.limit row.board c.board

    not_chosen : get_or limits row.board 0 ≤ row_worth w i → choose aim best chosen ≡ chosen
    not_chosen above =
        passed_by aim best chosen row.board (get_or w (pair_cell i) 0) (get_or w (pair_cell i + 1) 0) (pair_holds w i best holds) c.away c.stop
        (omega (arith, own_limit))

    module _ (lower : row_worth w i < get_or limits row.board 0) where
      has_worth : row_worth w i ≡ missing → ⊥
      has_worth e = let most = limit_most aim.margin chosen row.board c.fits in omega (arith, own_limit)

      -- the worth that the row has
      found : (v : Valued) × (best ≡ some v) × (row_worth w i ≡ v.worth)
      found = worth_some best (get_or w (pair_cell i) 0) (get_or w (pair_cell i + 1) 0) (pair_holds w i best holds) has_worth

      abbrev v : Valued
      v = found.0

      is : best ≡ some v
      is = found.1

      worth : row_worth w i ≡ v.worth
      worth = found.2

      own_away : v.ride.from ≢ aim.target
      own_away q = c.away (sym (c.stop v is) ∙ q)

      own_leads : leads aim.margin v.worth (first_at chosen v.ride.from) ≡ true
      own_leads =
          below_leads aim.margin v.worth (first_at chosen v.ride.from)
          (subst (λ s. v.worth < limit_of aim.margin (first_at chosen s)) (sym (c.stop v is)) (omega (arith, worth, own_limit)))

      at_own : (l : List Valued) → at_stop row.board chosen ≡ l → at_stop v.ride.from chosen ≡ l
      at_own l e = ap (λ s. at_stop s chosen) (c.stop v is) ∙ e

      to_own : (l : List Valued) → at_stop v.ride.from (choose aim (some v) chosen) ≡ l → at_stop row.board (choose aim best chosen) ≡ l
      to_own l e = ap₂ (λ (s : ℕ) (o : Option Valued). at_stop s (choose aim o chosen)) (sym (c.stop v is)) is ∙ e

      own_entry : entry (key_of row.departure i) (row_worth w i) ≡ entry_of v
      own_entry = ap₂ entry (ap₂ key_of (sym (c.minute v is)) (sym (c.boarded v is))) worth

      -- the stack with the row's entry on top of those of `under`
      topped : (k : ℕ) (under : List Valued) → stack_at w (stack_start w row.board) k ≡ map entry_of under
          → at_stop v.ride.from (choose aim (some v) chosen) ≡ v ∷ under
          → entry (key_of row.departure i) (row_worth w i) ∷ stack_at w (stack_start w row.board) k ≡ map entry_of (at_stop row.board (choose aim best chosen))
      topped k under stack now =
          ap₂ (λ (e : Entry) (es : List Entry). e ∷ es) own_entry stack ∙ ap (map entry_of) (sym (to_own (v ∷ under) now))

      first_put : stack_size w row.board ≡ 0 → (stop : ℕ) → stop < most_stops → StackHeld (stored row i 0 w) from all (row ∷ rest) (choose aim best chosen) stop
      first_put size =
          let stack : stack_at w (stack_start w row.board) 0 ≡ map entry_of (at_stop row.board chosen) =
          subst (λ n. stack_at w (stack_start w row.board) n ≡ map entry_of (at_stop row.board chosen)) size own.holds in
          let none' : at_stop row.board chosen ≡ [] = stack_none w (stack_start w row.board) (at_stop row.board chosen) stack in
          put 0 (omega arith) (topped 0 [] (stack ∙ ap (map entry_of) none') (own_alone aim chosen v own_away own_leads (at_own [] none')))

      module _ (k : ℕ) (size : stack_size w row.board ≡ suc k) where
        stack : stack_at w (stack_start w row.board) (suc k) ≡ map entry_of (at_stop row.board chosen)
        stack = subst (λ n. stack_at w (stack_start w row.board) n ≡ map entry_of (at_stop row.board chosen)) size own.holds

        top : Top w (stack_start w row.board) k (at_stop row.board chosen)
        top = stack_top w (stack_start w row.board) k (at_stop row.board chosen) stack

        top_member : (x : Valued) → Memᴰ x (top.first ∷ top.rest) → Memᴰ x chosen × (x.ride.from ≡ row.board)
        top_member x m =
            let there : Memᴰ x (at_stop row.board chosen) = subst (λ (l : List Valued). Memᴰ x l) (sym top.all) m in
            (at_stop_member row.board chosen x there, at_from row.board chosen there)

        first_member : Memᴰ top.first chosen × (top.first.ride.from ≡ row.board)
        first_member = top_member top.first (mathlib.Core.List.Memᴰ.head refl)

        top_departs : entry_departure w (stack_start w row.board) k ≡ top.first.ride.departs
        top_departs =
            key_departure top.first.ride.departs top.first.ride.board (get_or w (stack_start w row.board + 2 * k) 0)
            (c.fits top.first first_member.0).row top.key

        later : (x : Valued) → Memᴰ x top.rest → top.first.ride.departs < x.ride.departs
        later =
            departs_later row.board (subst (λ (l : List Valued). Ordered l) top.all (at_ordered row.board c.ordered))
            (λ x m. (top_member x m).1)

        rises : v.ride.departs ≤ top.first.ride.departs
        rises = subst (λ x. x ≤ top.first.ride.departs) (sym (c.minute v is)) (c.rising top.first first_member.0)

        replace_put : entry_departure w (stack_start w row.board) k ≡ row.departure
            → (stop : ℕ) → stop < most_stops → StackHeld (stored row i k w) from all (row ∷ rest) (choose aim best chosen) stop
        replace_put same =
            put k (omega arith)
            (topped k top.rest top.below
            (own_replaces aim chosen v own_away own_leads top.first top.rest (at_own (top.first ∷ top.rest) top.all) later rises
            (first_member.1 ∙ sym (c.stop v is)) (sym top_departs ∙ same ∙ sym (c.minute v is))))

        ahead_put : (entry_departure w (stack_start w row.board) k ≡ row.departure → ⊥)
            → (stop : ℕ) → stop < most_stops → StackHeld (stored row i (suc k) w) from all (row ∷ rest) (choose aim best chosen) stop
        ahead_put other =
            put (suc k) (omega arith)
            (topped (suc k) (top.first ∷ top.rest) (stack ∙ ap (map entry_of) top.all)
            (own_ahead aim chosen v own_away own_leads top.first top.rest (at_own (top.first ∷ top.rest) top.all) later rises
            (λ q. other (top_departs ∙ q ∙ c.minute v is))))

      stacks_stored :
          (w' : List ℕ) → Stacked row i w w' → (stop : ℕ) → stop < most_stops → StackHeld w' from all (row ∷ rest) (choose aim best chosen) stop
      stacks_stored w' (alone size q) stop h =
          subst (λ (l : List ℕ). StackHeld l from all (row ∷ rest) (choose aim best chosen) stop) (sym q) (first_put size stop h)
      stacks_stored w' (replaces k size same q) stop h =
          subst (λ (l : List ℕ). StackHeld l from all (row ∷ rest) (choose aim best chosen) stop) (sym q) (replace_put k size same stop h)
      stacks_stored w' (ahead k size other q) stop h =
          subst (λ (l : List ℕ). StackHeld l from all (row ∷ rest) (choose aim best chosen) stop) (sym q) (ahead_put k size other stop h)

      -- the row is its stop's first chosen ride
      first_now : (stop : ℕ) → row.board ≡ stop → first_at (choose aim best chosen) stop ≡ some v
      first_now stop here =
          ap₂ (λ (s : ℕ) (o : Option Valued). first_at (choose aim o chosen) s) (sym here ∙ sym (c.stop v is)) is ∙ own_first aim chosen v own_away own_leads

      limits_stored : LimitsHeld (set limits row.board (row_worth w i + 1 - aim.margin)) aim.margin (choose aim best chosen)
      limits_stored =
          record {
            count = length-set limits row.board (row_worth w i + 1 - aim.margin) ∙ limited.count;
            limit = λ stop h.
                set_cell (λ x. x ≡ limit_of aim.margin (first_at (choose aim best chosen) stop)) limits row.board stop (row_worth w i + 1 - aim.margin)
                (let few = limited.count in let small = c.board in omega arith)
                (λ here. ap (λ x. x + 1 - aim.margin) worth ∙ ap (limit_of aim.margin) (sym (first_now stop here)))
                (λ ne. limited.limit stop h ∙ ap (limit_of aim.margin) (sym (first_elsewhere aim best chosen stop (λ u. elsewhere u stop ne))));
          }

    module _ (w' limits' : List ℕ) where
      pub stacks_chosen :
          Chose row i aim.margin w limits w' limits' → (stop : ℕ) → stop < most_stops → StackHeld w' from all (row ∷ rest) (choose aim best chosen) stop
      stacks_chosen (passed above q _) stop h =
          subst (λ (l : List ℕ). StackHeld l from all (row ∷ rest) (choose aim best chosen) stop) (sym q)
          (stack_passed row w from all rest chosen (choose aim best chosen) stop (not_chosen above) (held stop h))
      stacks_chosen (taken lower on_top _) stop h = stacks_stored lower w' on_top stop h

      pub limits_chosen : Chose row i aim.margin w limits w' limits' → LimitsHeld limits' aim.margin (choose aim best chosen)
      limits_chosen (passed above _ q) =
          subst (λ (l : List ℕ). LimitsHeld l aim.margin (choose aim best chosen)) (sym q)
          (subst (λ (l : List Valued). LimitsHeld limits aim.margin l) (sym (not_chosen above)) limited)
      limits_chosen (taken lower _ q) =
          subst (λ (l : List ℕ). LimitsHeld l aim.margin (choose aim best chosen)) (sym q) (limits_stored lower)

  -- what a store leaves of the other cells
  stacked_at : (w' : List ℕ) → Stacked row i w w' → (k : ℕ) × (k ≤ stack_size w row.board) × (w' ≡ stored row i k w)
  stacked_at w' (alone size q) = (0, (let z : 0 ≤ stack_size w row.board = omega arith in z), q)
  stacked_at w' (replaces k size same q) = (k, (let z : k ≤ stack_size w row.board = omega arith in z), q)
  stacked_at w' (ahead k size other q) = (suc k, (let z : suc k ≤ stack_size w row.board = omega arith in z), q)

  pub chose_or_stored :
      (limits w' limits' : List ℕ) → Chose row i aim.margin w limits w' limits'
      → (w' ≡ w) ⊎ ((k : ℕ) × (k ≤ stack_size w row.board) × (w' ≡ stored row i k w))
  chose_or_stored limits w' limits' (passed above q _) = inl q
  chose_or_stored limits w' limits' (taken lower on_top _) = inr (stacked_at w' on_top)
