-- Marks and windows: the rows marked are those of the chosen rides that the windows want, and a landing's window wants the rides that it catches.
-- Assumes nothing.
use Prim.Native.Nat.{ℕ, ◌+◌, ◌*◌, ◌≤◌, ◌<◌}
use mathlib.Core.Bool.{true, false}
use mathlib.Core.List.{List, ◌++◌, Memᴰ}
use mathlib.Core.Logic.{◌⊎◌, inl, inr, ⊎_elim, ◌≢◌}
use mathlib.Core.Option.{some}
use mathlib.Core.Path.{◌≡◌, refl, sym, ap, subst, ◌∙◌}
use native.Mathlib.Nat.{eq-or-lt_of_le, lt_of_not-le}
use native.Mathlib.Omega.{arith}
use borrow.Author.Tests.{leb-true, leb-false}
use lib.Dec.{leb}
use lib.ListN.{length, get_or}
use Rattle.plan_cells.specs.Cells.{pair_cells}
use Rattle.timetable.specs.Limits.{most_stops}
use Rattle.laws.proofs.Alternatives.{or_left, or_right}
use Rattle.laws.proofs.Tests.{ifb, either}
use Rattle.plans.specs.Rides.{lands_by, ready}
use Rattle.plans.specs.Worth.{Valued, first_open}
use Rattle.plans.specs.Plan.{Window, in_window, wanted, windows_of}
use Rattle.plans.proofs.Open.{boards_stop, boards_minute, can_board, found_member, found_boards}
use Rattle.plans.proofs.Order.{Before, Ordered, members_apart, first_before}
use Rattle.plans.proofs.OwnWorth.{Moves}
use Rattle.plan_stacks.specs.Stacks.{stack_start, stack_size, entry_departure, entry_row}
use Rattle.plan_stacks.specs.Chosen.{StackHolds, Climbing}
use Rattle.plan_extract.specs.Marks.{Caught, Catching, AllPassed}
use Rattle.plans.proofs.Extracted.{window_boards, window_until}
use Rattle.plan_extract.proofs.Windows.{window, in_window_lem, one_more}
use Rattle.laws.proofs.Options.{same_thing}
use Rattle.plan_stacks.proofs.Stacked.{Stands, entry_ride, ride_entry, falls}

-- of n rows, those marked are the chosen rows whose rides the windows want
pub record Marking (work : List ℕ) (n : ℕ) (chosen : List Valued) (ws : List Window) : Type 0 where
  pub marked : (v : Valued) → Memᴰ v chosen → wanted ws v.ride ≡ true → get_or work v.ride.board 0 ≡ 1
  pub only :
      (i : ℕ) → i < n → get_or work i 0 ≡ 1 → (v : Valued) × Memᴰ v chosen × (v.ride.board ≡ i) × (wanted ws v.ride ≡ true)

-- a row that is not marked is not wanted
pub unmarked : {work : List ℕ} {n : ℕ} {chosen : List Valued} {ws : List Window} → Marking work n chosen ws → (i : ℕ) → get_or work i 0 ≢ 1
    → (v : Valued) → Memᴰ v chosen → v.ride.board ≡ i → wanted ws v.ride ≡ false
unmarked {work} {ws = ws} m i unset v member here =
    ifb (λ b. wanted ws v.ride ≡ b → b ≡ false) (wanted ws v.ride)
    (λ _ e. absurd (unset (ap (λ k. get_or work k 0) (sym here) ∙ m.marked v member e))) (λ _ _. refl) refl

-- a ride v of row i, away from the target, whose landing is met by a first safe ride
pub record Lands (gate : ℕ) (chosen behind : List Valued) (v safe : Valued) : Type 0 where
  pub member : Memᴰ v chosen
  pub ordered : Ordered chosen
  pub moves : Moves v.ride
  pub behind_ordered : Ordered behind
  pub among : (u : Valued) → Memᴰ u behind → Memᴰ u chosen
  pub left : (u : Valued) → Memᴰ u chosen → v.ride.board < u.ride.board → Memᴰ u behind
  pub first : first_open behind v.ride.to (ready gate (lands_by v.ride)) ≡ some safe

-- the first safe ride departs first of all chosen rides that are safe
module _ {gate : ℕ} {chosen behind : List Valued} {v safe : Valued} (l : Lands gate chosen behind v safe) where
  safe_member : Memᴰ safe chosen
  safe_member = l.among safe (found_member behind v.ride.to (ready gate (lands_by v.ride)) l.first)

  safe_from : safe.ride.from ≡ v.ride.to
  safe_from = boards_stop safe.ride v.ride.to (ready gate (lands_by v.ride)) (found_boards behind v.ride.to (ready gate (lands_by v.ride)) l.first)

  safe_late : ready gate (lands_by v.ride) ≤ safe.ride.departs
  safe_late = boards_minute safe.ride v.ride.to (ready gate (lands_by v.ride)) (found_boards behind v.ride.to (ready gate (lands_by v.ride)) l.first)

  safe_least : (u : Valued) → Memᴰ u chosen → u.ride.from ≡ v.ride.to → ready gate (lands_by v.ride) ≤ u.ride.departs
      → safe.ride.departs ≤ u.ride.departs
  safe_least u m from late =
      members_apart chosen l.ordered v u l.member m
      (λ same. absurd (let z : ⊥ = omega (arith, ap (λ (x : Valued). x.ride.departs) same, l.moves.forward) in z))
      (λ before.
      let boarded = can_board u.ride v.ride.to (ready gate (lands_by v.ride)) from late in
      let found = first_before behind l.behind_ordered v.ride.to (ready gate (lands_by v.ride)) u (l.left u m before.rows) boarded in
      let same : safe ≡ found.0 = same_thing (sym l.first ∙ found.1) in
      subst (λ (x : Valued). x.ride.departs ≤ u.ride.departs) (sym same) (no_later found.0 u found.2))
      (λ after. absurd (let z : ⊥ = omega (arith, after.minutes, l.moves.forward) in z))
    where
      no_later : (x y : Valued) → (x ≡ y) ⊎ Before x y → x.ride.departs ≤ y.ride.departs
      no_later x y (inl q) = subst (λ (z : Valued). x.ride.departs ≤ z.ride.departs) q (omega arith)
      no_later x y (inr b) = b.minutes

  module _ (work : List ℕ) (holds : StackHolds work v.ride.to chosen) (climbing : Climbing v.ride.to chosen) where
    abbrev start : ℕ
    start = stack_start work v.ride.to

    abbrev size : ℕ
    size = stack_size work v.ride.to

    fall : (k q : ℕ) → k < q → q < size → entry_departure work start q < entry_departure work start k
    fall = falls work v.ride.to chosen holds climbing v

    safe_place : (place : ℕ) × Stands work v.ride.to chosen place safe
    safe_place = ride_entry work v.ride.to chosen holds climbing safe safe_member safe_from

    -- an entry from the safe one up departs no later
    no_later : (k : ℕ) → safe_place.0 ≤ k → k < size → entry_departure work start k ≤ safe.ride.departs
    no_later k above below =
        ⊎_elim (λ same. omega (arith, ap (entry_departure work start) same, safe_place.1.departs))
        (λ higher. omega (arith, fall safe_place.0 k higher below, safe_place.1.departs)) (eq-or-lt_of_le above)

    -- an entry caught is not below the safe one
    caught_above : (k : ℕ) → Caught work start size (ready gate v.ride.arrives) (ready gate (lands_by v.ride)) k → safe_place.0 ≤ k
    caught_above k c =
        ifb (λ _. safe_place.0 ≤ k) (leb safe_place.0 k) (leb-true safe_place.0 k)
        (λ e. absurd (let needed = c.needed safe_place.0 (leb-false safe_place.0 k e) safe_place.1.inside in
        let z : ⊥ = omega (arith, safe_place.1.departs, safe_late) in z))

    -- the entries caught are the rides in the window
    caught_wanted : (k : ℕ) → Caught work start size (ready gate v.ride.arrives) (ready gate (lands_by v.ride)) k
        → (u : Valued) × Stands work v.ride.to chosen k u × (in_window (window gate v.ride safe) u.ride ≡ true)
    caught_wanted k c =
        let found = entry_ride work v.ride.to chosen holds climbing v k c.inside in
        let u = found.0 in
        let late : ready gate v.ride.arrives ≤ u.ride.departs = omega (arith, c.opens, found.1.departs) in
        let until : u.ride.departs ≤ safe.ride.departs = omega (arith, no_later k (caught_above k c) c.inside, found.1.departs) in
        (u, found.1, in_window_lem (window gate v.ride safe) u.ride (can_board u.ride v.ride.to (ready gate v.ride.arrives) found.1.from late) until)

    wanted_caught : (u : Valued) → Memᴰ u chosen → in_window (window gate v.ride safe) u.ride ≡ true
        → (k : ℕ) × Caught work start size (ready gate v.ride.arrives) (ready gate (lands_by v.ride)) k × (entry_row work start k ≡ u.ride.board)
    wanted_caught u m e =
        let boarded = window_boards (window gate v.ride safe) u.ride e in
        let until : u.ride.departs ≤ safe.ride.departs = window_until (window gate v.ride safe) u.ride e in
        let late : ready gate v.ride.arrives ≤ u.ride.departs = boards_minute u.ride v.ride.to (ready gate v.ride.arrives) boarded in
        let found = ride_entry work v.ride.to chosen holds climbing u m (boards_stop u.ride v.ride.to (ready gate v.ride.arrives) boarded) in (
          found.0,
          record {
            inside = found.1.inside;
            opens = (let z : ready gate v.ride.arrives ≤ entry_departure work start found.0 = omega (arith, found.1.departs) in z);
            needed =
                λ q above below.
                lt_of_not-le (λ open'.
                let other = entry_ride work v.ride.to chosen holds climbing v q below in
                let after : ready gate (lands_by v.ride) ≤ other.0.ride.departs = omega (arith, other.1.departs) in
                let least = safe_least other.0 other.1.member other.1.from after in
                let z : ⊥ = omega (arith, fall found.0 q above below, found.1.departs, other.1.departs) in z);
          },
          found.1.row,
        )

    -- no entry departs after the bottom one
    bottom_last : (k : ℕ) → k < size → entry_departure work start k ≤ entry_departure work start 0
    bottom_last k below =
        ⊎_elim (λ same. omega (arith, ap (entry_departure work start) same)) (λ above. omega (arith, fall 0 k above below))
        (eq-or-lt_of_le (let z : 0 ≤ k = omega arith in z))

    -- the stack of the landing stop, as catching asks for it
    pub catching : (n : ℕ) → v.ride.to < most_stops → pair_cells ≤ length work → start + 2 * size ≤ length work → n ≤ 2000
        → ((u : Valued) → Memᴰ u chosen → u.ride.board < n) → Catching work v.ride.to (ready gate v.ride.arrives) (ready gate (lands_by v.ride))
    catching n stop cells room few rows =
        let lowest = bottom_last safe_place.0 safe_place.1.inside in
        let last : ready gate (lands_by v.ride) ≤ entry_departure work start 0 = omega (arith, safe_place.1.departs, safe_late) in
        record {
          stop = stop;
          cells = cells;
          falling =
              record {
                some_entry = (let z : 0 < size = omega (arith, safe_place.1.inside) in z);
                inside = room;
                falls = fall;
                bottom = (let z : ready gate v.ride.arrives ≤ entry_departure work start 0 = omega arith in z);
              };
          rows =
              λ k h. let found = entry_ride work v.ride.to chosen holds climbing v k h in
              (let z : entry_row work start k < 2000 = omega (arith, found.1.row, rows found.0 found.1.member) in z);
          late = (let z : ready gate v.ride.arrives ≤ ready gate (lands_by v.ride) = omega arith in z);
          safe = last;
        }

    -- once all entries caught are marked, the marks are those of one window more
    pub marking_on : (target n : ℕ) (ws : List Window) (new : List ℕ) → v.ride.to ≢ target → Marking work n chosen ws
        → AllPassed work new v.ride.to (ready gate v.ride.arrives) (ready gate (lands_by v.ride))
        → Marking new n chosen (windows_of gate target v.ride behind ++ ws)
    unfolding wanted
    marking_on target n ws new away m p =
        subst (λ (x : List Window). Marking new n chosen x) (sym (one_more gate target v.ride behind ws safe away l.first))
        (record {
          marked =
              λ u member e.
              ⊎_elim
              (λ w. let found = wanted_caught u member w in
              ap (λ k. get_or new k 0) (sym found.2) ∙ p.marked found.0 (omega arith) found.1)
              (λ w. ⊎_elim (λ same. same ∙ m.marked u member w)
              (λ k. ap (λ i. get_or new i 0) k.2 ∙ p.marked k.0 (omega arith) k.1) (p.only u.ride.board))
              (either (in_window (window gate v.ride safe) u.ride) (wanted ws u.ride) e);
          only =
              λ i h e.
              ⊎_elim
              (λ same. let found = m.only i h (sym same ∙ e) in
              let u = found.0.ride in
              (found.0, found.1, found.2, or_right (in_window (window gate v.ride safe) u) (wanted ws u) found.3))
              (λ k. let found = caught_wanted k.0 k.1 in
              let u = found.0.ride in
              (found.0, found.1.member, sym found.1.row ∙ sym k.2, or_left (in_window (window gate v.ride safe) u) (wanted ws u) found.2))
              (p.only i);
        })
