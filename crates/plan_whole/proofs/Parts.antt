-- The part of the rows that planning looks at, by T + g and the bound. Uses a sound file's rows.
use Prim.Native.Nat.{ℕ, ◌≤◌, ◌<◌}
use native.Mathlib.Omega.{arith}
use mathlib.Core.List.{List}
use mathlib.Core.Path.{refl, sym, subst}
use lib.Dec.{eqb, ltb}
use lib.ListN.{length}
use borrow.Author.Tests.{eqb-true, eqb-false, ltb-true, ltb-false}
use Rattle.laws.proofs.Tests.{ifb}
use Rattle.timetable.specs.Timetable.{Timetable}
use Rattle.timetable.specs.declared.Row.{Row}
use Rattle.query.specs.declared.Query.{Query}
use Rattle.plans.specs.Journeys.{goal_of, ready_at}
use Rattle.plans.specs.Sound.{Timely}
use Rattle.plans.specs.Chosen.{in_ticks}
use Rattle.plan_rows.specs.declared.SectionPlaces.{SectionPlaces}
use Rattle.plan_rows.specs.Reading.{rows_in, timetable_in, Cut}
use Rattle.plan_rows.specs.Idle.{Idle}
use Rattle.plan_rows.proofs.Cuts.{idle_end, bound_idle}
use Rattle.plans.specs.declared.Goal.{Goal}
use Rattle.plan_whole.specs.Steps.{PlanningInput, Reaches, RowsWithin, RowsInReach}

-- rows that depart before an earlier minute stand ahead of those that do not before a later one
cuts_in_order : (rows : List Row) (minute bound first end : ℕ) → Cut rows minute first → Cut rows bound end → minute ≤ bound → first ≤ end
cuts_in_order rows minute bound first end early late h =
    ifb (λ _. first ≤ end) (ltb end first)
    (λ e.
    let past : end < first = ltb-true end first e in
    let inside : end < length rows = omega (arith, early.inside) in
    absurd (let z : ⊥ = omega (arith, early.before end past, late.behind end (let y : end ≤ end = omega arith in y) inside) in z))
    (λ e. ltb-false end first e)

-- rows from `end` on are worth nothing, whether there is a bound or not
within_idle : (t : Timetable) → Timely t → (goal : Goal) (end : ℕ) → RowsWithin t.rows goal.bound end → Idle (in_ticks goal) t end
within_idle t timely goal end within =
    ifb (λ _. Idle (in_ticks goal) t end) (eqb goal.bound 0)
    (λ e. subst (Idle (in_ticks goal) t) (sym (within.all (eqb-true goal.bound 0 e))) (idle_end (in_ticks goal) t))
    (λ e. bound_idle t timely goal (eqb-false goal.bound 0 e) end (within.before (eqb-false goal.bound 0 e)))

within_ordered : (rows : List Row) (minute bound first end : ℕ) → Cut rows minute first → Reaches minute bound → RowsWithin rows bound end
    → first ≤ end
within_ordered rows minute bound first end cut reaches within =
    ifb (λ _. first ≤ end) (eqb bound 0) (λ e. omega (arith, cut.inside, within.all (eqb-true bound 0 e)))
    (λ e. cuts_in_order rows minute bound first end cut (within.before (eqb-false bound 0 e)) (reaches (eqb-false bound 0 e)))

within_inside : (rows : List Row) (bound end : ℕ) → RowsWithin rows bound end → end ≤ length rows
within_inside rows bound end within =
    ifb (λ _. end ≤ length rows) (eqb bound 0) (λ e. omega (arith, within.all (eqb-true bound 0 e)))
    (λ e. (within.before (eqb-false bound 0 e)).inside)

pub is_part : (file : List ℕ) (s : SectionPlaces) (tables : List ℕ) (q : Query) (bound first end : ℕ) → PlanningInput file s tables q first
    → bound < 4294967296 → Reaches (ready_at q) bound → RowsWithin (rows_in file s) bound end → RowsInReach file s q (goal_of q bound) first end
is_part file s tables q bound first end laid fits reaches within =
    record {
      aims = refl;
      bound = fits;
      ordered = within_ordered (rows_in file s) (ready_at q) bound first end laid.cut reaches within;
      inside = omega (arith, within_inside (rows_in file s) bound end within, laid.stand.rows_count);
      idle = within_idle (timetable_in file s) laid.timely (goal_of q bound) end within;
    }
