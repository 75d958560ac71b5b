-- One turn of the pass, at a marked row: its ride is written, and what it may be changed to is marked. Assumes nothing.
use Prim.Native.Nat.{ℕ, suc, max, ◌+◌, ◌*◌, ◌≤◌, ◌<◌}
use mathlib.Core.List.{List, Memᴰ}
use mathlib.Core.Logic.{◌≢◌}
use mathlib.Core.Path.{◌≡◌, sym, ap, ap₂, subst, ◌∙◌}
use native.Mathlib.Nat.{zero-add}
use native.Mathlib.Omega.{arith}
use mathlib.Core.Bool.{cond}
use lib.Dec.{eqb, ltb}
use lib.ListN.{length, get_or}
use borrow.Author.Tests.{ltb-true, ltb-false}
use Rattle.std.specs.Ordering.{ord_max, nat_cmp, is_lt}
use Rattle.std.specs.declared.cmp.Ordering.TheVariants.{Less, Equal, Greater}
use Rattle.laws.proofs.Tests.{ifb}
use Rattle.timetable.specs.Timetable.{row_of}
use Rattle.timetable.specs.declared.Row.{Row}
use Rattle.plans.specs.Rides.{lands_by, ready}
use Rattle.plans.specs.Worth.{Valued}
use Rattle.plans.proofs.Order.{Ordered}
use Rattle.plan_cells.specs.Cells.{trip_cells, stop_cells, pair_cells, used}
use Rattle.plan_cells.specs.Outside.{SameOutside}
use Rattle.plan_rows.specs.declared.SectionPlaces.{SectionPlaces}
use Rattle.plan_rows.specs.Reading.{rows_in, tables_in, FileReadable, TablesHeld}
use Rattle.plans.specs.declared.Goal.{Goal}
use Rattle.plan_scan.specs.Scanned.{scan_in, ScanHeld}
use Rattle.plan_slice.specs.Slice.{with_ride}
use Rattle.plan_scan.specs.declared.reach.Reach.{Reach}
use Rattle.plan_extract.specs.Extracted.{PlanAhead, PlanFrom, rides_ahead}
use Rattle.plan_extract.specs.Marks.{Catching, AllPassed}
use Rattle.plan_extract.proofs.Kept.{kept_held}
use Rattle.plan_extract.proofs.Timed.{ordered, known}
use Rattle.plan_extract.proofs.Aboard.{Aboard, aboard}
use Rattle.plan_extract.proofs.Wanting.{catching}
use Rattle.plan_extract.proofs.Writing.{Writing, marked_ride, lands, writing_arrived, writing_changed}

-- the pass at row i, of the plan ahead
abbrev pub AtRow :
    {file : List ℕ} {s : SectionPlaces} {goal : Goal} {boarding end : ℕ} {work₀ : List ℕ} → PlanAhead file s goal boarding end work₀
    → (plan₀ work plan : List ℕ) (rides last i : ℕ) → Type 0
AtRow {file} {s} {goal} {end = end} p plan₀ work plan rides last i =
    Writing goal.gate goal.target s.rows (rides_ahead p) (scan_in file s goal p.first end).chosen plan₀ work plan rides last i

-- what is known there, if the row is marked
pub record Turn (file : List ℕ) (s : SectionPlaces) (tables : List ℕ) (goal : Goal) (boarding end : ℕ) (work₀ : List ℕ)
    (p : PlanAhead file s goal boarding end work₀) (plan₀ work plan : List ℕ) (rides last i : ℕ) : Type 0 where
  pub stand : FileReadable file s
  pub blocks : TablesHeld tables (tables_in file s)
  pub inside : end ≤ s.rows
  pub cells : used s.rows ≤ length work₀
  pub room : 3 * s.rows ≤ length plan₀
  pub below : i < end
  pub few : rides ≤ i
  pub kept : SameOutside trip_cells stop_cells work₀ work
  pub at_row : AtRow p plan₀ work plan rides last i
  pub mark : get_or work i 0 ≡ 1

module _ {file : List ℕ} {s : SectionPlaces} {tables : List ℕ} {goal : Goal} {boarding end : ℕ} {work₀ : List ℕ}
    {p : PlanAhead file s goal boarding end work₀} {plan₀ work plan : List ℕ} {rides last i : ℕ}
    (t : Turn file s tables goal boarding end work₀ p plan₀ work plan rides last i) where
  abbrev chosen : List Valued
  chosen = (scan_in file s goal p.first end).chosen

  within_rows : i < s.rows
  within_rows = omega (arith, t.below, t.inside)

  held_still : ScanHeld work s.rows p.first end (scan_in file s goal p.first end)
  held_still = kept_held t.kept p.held

  in_order : Ordered chosen
  in_order = ordered file s t.stand end t.inside goal p.first p.ordered

  -- the row's ride
  found : (v : Valued) × Memᴰ v chosen × (v.ride.board ≡ i)
  found = marked_ride t.at_row within_rows t.mark

  on_board : Aboard file s tables work i found.0
  on_board = aboard t.stand t.blocks goal p.first end p.ordered t.inside held_still found.0 found.1 i found.2

  -- the row where it leaves, by the number that its cell holds
  module _ (leave : ℕ) (left : leave ≡ get_or work (pair_cells + 2 * i + 1) 0) where
    pub leave_inside : leave < s.rows
    leave_inside = omega (arith, on_board.leaves, on_board.inside)

    module _ (row : Row) (read : row ≡ row_of (rows_in file s) leave) where
      is_row : row ≡ row_of (rows_in file s) found.0.ride.leave
      is_row = read ∙ ap (row_of (rows_in file s)) (left ∙ on_board.leaves)

      pub class_inside : row.class < 16
      class_inside = omega (arith, on_board.class, ap (λ (r : Row). r.class) is_row)

      to_is : found.0.ride.to ≡ row.land
      to_is = on_board.to ∙ sym (ap (λ (r : Row). r.land) is_row)

      arrives_is : found.0.ride.arrives ≡ row.arrival
      arrives_is = on_board.arrives ∙ sym (ap (λ (r : Row). r.arrival) is_row)

      -- when it lands at the latest
      module _ (delay : ℕ) (longest_is : delay ≡ get_or tables (256 * row.class + 0) 0) where
        landing_is : row.arrival + delay ≡ lands_by found.0.ride
        landing_is =
            ap (λ k. row.arrival + k) longest_is
            ∙ ap (λ (r : Row). r.arrival + get_or tables (256 * r.class + 0) 0) is_row ∙ on_board.lands

        pub landing_fits : row.arrival + delay < 65536
        landing_fits = omega (arith, landing_is, on_board.minute)

        -- away from the gate target the stack there is met
        pub met : row.land ≢ goal.target → {soon by : ℕ} → soon ≡ ready goal.gate row.arrival
            → by ≡ ready goal.gate (row.arrival + delay) → Catching work row.land soon by
        met away {soon} {by} first_ready last_ready =
            let v = found.0 in
            let stop = on_board.stop in
            let safe = lands t.at_row in_order v found.1 found.2 within_rows t.mark (λ e. away (sym to_is ∙ e)) in
            subst (λ k. Catching work row.land soon k) (sym (last_ready ∙ ap (ready goal.gate) landing_is))
            (subst (λ k. Catching work row.land k (ready goal.gate (lands_by v.ride))) (ap (ready goal.gate) arrives_is ∙ sym first_ready)
            (subst (λ k. Catching work k (ready goal.gate v.ride.arrives) (ready goal.gate (lands_by v.ride))) to_is
            (catching safe.1 work (held_still.stack_holds v.ride.to stop) (held_still.climbing v.ride.to stop) s.rows stop
            (omega (arith, t.kept.same_length, t.cells))
            (omega (arith, t.kept.same_length, t.cells, held_still.stack_inside v.ride.to stop)) t.stand.few_rows
            (λ u m. omega (arith, (known file s t.stand end t.inside goal p.first p.ordered u m).before_end, t.inside)))))

        -- the plan slice with its three numbers, and the latest minute so far
        module _ (plan' : List ℕ) (laid : plan' ≡ with_ride plan rides i (get_or work (pair_cells + 2 * i + 1) 0) (get_or work (pair_cells + 2 * i) 0))
            (last' : ℕ) (later : last' ≡ max last (row.arrival + delay)) where
          ride_laid : plan' ≡ with_ride plan rides found.0.ride.board found.0.ride.leave found.0.worth
          ride_laid =
              laid ∙ ap (λ k. with_ride plan rides k (get_or work (pair_cells + 2 * i + 1) 0) (get_or work (pair_cells + 2 * i) 0)) (sym found.2)
              ∙ ap₂ (λ a b. with_ride plan rides found.0.ride.board a b) on_board.leaves on_board.worth

          room_left : 3 * suc rides ≤ length plan₀
          room_left = omega (arith, t.few, t.below, t.inside, t.room)

          pub arrived : row.land ≡ goal.target → AtRow p plan₀ work plan' (rides + 1) last' (i + 1)
          arrived there =
              writing_arrived t.at_row in_order found.0 found.1 found.2 within_rows t.mark room_left plan' ride_laid last'
              (later ∙ ap (max last) landing_is) (to_is ∙ there)

          pub changed : row.land ≢ goal.target → {soon by : ℕ} → soon ≡ ready goal.gate row.arrival
              → by ≡ ready goal.gate (row.arrival + delay) → (new : List ℕ) → AllPassed work new row.land soon by
              → AtRow p plan₀ new plan' (rides + 1) last' (i + 1)
          changed away {soon} {by} first_ready last_ready new passed =
              let v = found.0 in
              let stop = on_board.stop in
              writing_changed t.at_row in_order v found.1 found.2 within_rows t.mark room_left plan' ride_laid last'
              (later ∙ ap (max last) landing_is) (λ e. away (sym to_is ∙ e)) (held_still.stack_holds v.ride.to stop)
              (held_still.climbing v.ride.to stop) new
              (subst (λ k. AllPassed work new k (ready goal.gate v.ride.arrives) (ready goal.gate (lands_by v.ride))) (sym to_is)
              (subst (λ k. AllPassed work new row.land k (ready goal.gate (lands_by v.ride))) (first_ready ∙ ap (ready goal.gate) (sym arrives_is))
              (subst (λ k. AllPassed work new row.land soon k) (last_ready ∙ ap (ready goal.gate) landing_is) passed)))

-- the later of two minutes, as `max` tells it
pub later_of : (a b : ℕ) → ord_max nat_cmp a b ≡ max a b
later_of a b =
    ifb (λ t. cond (is_lt (cond t Less (cond (eqb b a) Equal Greater))) a b ≡ max a b) (ltb b a)
    (λ e. let z : a ≡ max a b = omega (arith, ltb-true b a e) in z)
    (λ e. ifb (λ t. cond (is_lt (cond t Equal Greater)) a b ≡ max a b) (eqb b a)
    (λ _. let z : b ≡ max a b = omega (arith, ltb-false b a e) in z) (λ _. let z : b ≡ max a b = omega (arith, ltb-false b a e) in z))

-- the pass of the rows in reach at row i: what the cells, the plan slice, the ride count and the latest minute are by then
pub record UpTo (r : Reach) (boarding : ℕ) (work₀ plan₀ work plan : List ℕ) (rides latest i : ℕ) : Type 0 where
  pub few : rides ≤ i
  pub fits : latest < 65536
  pub kept : SameOutside trip_cells stop_cells work₀ work
  pub at_row : (p : PlanFrom r boarding work₀) → AtRow p plan₀ work plan rides latest i

module _ {r : Reach} {boarding : ℕ} {work₀ plan₀ work plan : List ℕ} {rides latest i : ℕ} where
  pub turn : (p : PlanFrom r boarding work₀) → used r.sailings.places.rows ≤ length work₀ → 3 * r.sailings.places.rows ≤ length plan₀ → i < r.end
      → UpTo r boarding work₀ plan₀ work plan rides latest i → get_or work (0 + i) 0 ≡ 1
      → Turn r.sailings.file.now r.sailings.places r.tables.now r.goal boarding r.end work₀ p plan₀ work plan rides latest i
  turn p cells room below up mark =
      record {
        stand = r.sailings.readable;
        blocks = r.held;
        inside = r.inside;
        cells = cells;
        room = room;
        below = below;
        few = up.few;
        kept = up.kept;
        at_row = up.at_row p;
        mark = ap (λ k. get_or work k 0) (sym (zero-add i)) ∙ mark;
      }

  -- where two ways meet, the values are those of the way that was taken
  pub up_to_by : {work' plan' : List ℕ} {rides' latest' : ℕ} → work' ≡ work → plan' ≡ plan → rides' ≡ rides → latest' ≡ latest
      → UpTo r boarding work₀ plan₀ work plan rides latest i → UpTo r boarding work₀ plan₀ work' plan' rides' latest' i
  up_to_by a b c d up = rw (a, b, c, d) up
