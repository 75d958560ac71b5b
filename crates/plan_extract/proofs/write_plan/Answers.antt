-- `plan_extract::write_plan` meets its contract: the marks are cleared but for the first row's, and the pass begins there. Assumes nothing.
use Prim.Native.Nat.{ℕ, ◌+◌, ◌≤◌}
use mathlib.Core.List.{List}
use mathlib.Core.Path.{◌≡◌, sym, subst}
use native.Mathlib.Nat.{zero-add}
use native.Mathlib.Omega.{arith}
use lib.ListN.{length, set}
use Rattle.plan_cells.specs.Cells.{trip_cells, stop_cells, used, filled}
use Rattle.plan_cells.specs.Outside.{SameOutside}
use Rattle.plan_cells.proofs.Outside.{outside_then, outside_wider}
use Rattle.plan_scan.specs.declared.reach.Reach.{Reach}
use Rattle.plan_extract.specs.Extracted.{PlanFrom}
use Rattle.plan_extract.specs.Marks.{MarkedAlone}
use Rattle.plan_extract.proofs.Alone.{alone_kept, alone_marked}
use Rattle.plan_extract.proofs.Kept.{kept_held}
use Rattle.plan_extract.proofs.Timed.{boarding_inside}
use Rattle.plan_extract.proofs.write_plan.Goals as goal

-- the cells once the marks are cleared but for the first row's
kept : (r : Reach) (boarding : ℕ) (work cleared : List ℕ) → PlanFrom r boarding work → used r.sailings.places.rows ≤ length work
    → cleared ≡ filled work trip_cells r.sailings.places.rows 0 → SameOutside trip_cells stop_cells work (set cleared (0 + boarding) 1)
kept r boarding work cleared p room is =
    let inside = boarding_inside r boarding work p in
    subst (λ l. SameOutside trip_cells stop_cells work (set l (0 + boarding) 1)) (sym is)
    (alone_kept work r.sailings.places.rows (0 + boarding) boarding (zero-add boarding) (omega (arith, r.inside)) r.sailings.readable.few_rows (omega arith))

alone : (r : Reach) (boarding : ℕ) (work cleared : List ℕ) → PlanFrom r boarding work → used r.sailings.places.rows ≤ length work
    → cleared ≡ filled work trip_cells r.sailings.places.rows 0 → MarkedAlone (set cleared (0 + boarding) 1) r.sailings.places.rows boarding
alone r boarding work cleared p room is =
    let inside = boarding_inside r boarding work p in
    subst (λ l. MarkedAlone (set l (0 + boarding) 1) r.sailings.places.rows boarding) (sym is)
    (alone_marked work r.sailings.places.rows (0 + boarding) boarding (zero-add boarding) (omega (arith, r.inside)) r.sailings.readable.few_rows (omega arith))

-- the marks leave the plan ahead as it was
abbrev still_ahead : (r : Reach) (boarding : ℕ) {old new : List ℕ} → SameOutside trip_cells stop_cells old new → PlanFrom r boarding old → PlanFrom r boarding new
still_ahead r boarding k p = record { first = p.first; ordered = p.ordered; held = kept_held k p.held; begins = p.begins }

pub offset_bounds-work-boarding : goal.offset_bounds-work-boarding
offset_bounds-work-boarding c =
    let a = c.args in
    let r = a.reach.now in omega (arith, boarding_inside r a.boarding a.work.now c.requires.2, r.inside, r.sailings.readable.few_rows)

pub bounds-work-boarding : goal.bounds-work-boarding
bounds-work-boarding c =
    let a = c.args in
    let r = a.reach.now in omega (arith, boarding_inside r a.boarding a.work.now c.requires.2, r.inside, c.requires.0, c.fill.auto.work)

pub write_wanted-requires : goal.write_wanted-requires
write_wanted-requires c =
    let a = c.args in
    let r = a.reach.now in
    let k = kept r a.boarding a.work.now c.fill.new.work c.requires.2 c.requires.0 c.fill.ensures in (
      omega (arith, k.same_length),
      c.requires.1,
      still_ahead r a.boarding k c.requires.2,
      alone r a.boarding a.work.now c.fill.new.work c.requires.2 c.requires.0 c.fill.ensures,
    )

pub returns : goal.returns
returns c =
    let a = c.args in
    let r = a.reach.now in
    let k = kept r a.boarding a.work.now c.fill.new.work c.requires.2 c.requires.0 c.fill.ensures in
    let w = c.write_wanted.ensures in (
      λ p. w.0 (still_ahead r a.boarding k p),
      outside_then (outside_wider (omega arith) (omega arith) k) w.1,
    )
