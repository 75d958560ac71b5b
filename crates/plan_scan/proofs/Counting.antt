-- Counting the rows that board at each stop: with the rows to come, the sizes are those of all rows. Assumes nothing.
use Prim.Native.Nat.{ℕ, ◌+◌, ◌≤◌, ◌<◌}
use mathlib.Core.List.{List, [], ◌∷◌}
use mathlib.Core.Path.{◌≡◌, refl, subst}
use native.Mathlib.Omega.{arith}
use lib.Dec.{eqb}
use lib.ListN.{length}
use lib.Seq.{get_or-set_same, get_or-set_other}
use borrow.Author.Tests.{eqb-true, eqb-false}
use Rattle.timetable.specs.Limits.{most_stops}
use Rattle.timetable.specs.declared.Row.{Row}
use Rattle.laws.proofs.Tests.{ifb}
use Rattle.plan_cells.specs.Cells.{stop_cells, size_cells, pair_cells}
use Rattle.plan_cells.specs.Outside.{SameOutside}
use Rattle.plan_cells.proofs.Outside.{outside_same, outside_then, outside_set}
use Rattle.plan_stacks.specs.Stacks.{stack_size, with_size}
use Rattle.plan_scan.specs.Regions.{count_at, Counted}
use Rattle.plan_scan.proofs.Regions.{count_here, count_elsewhere}

pub record Counting (all rest : List Row) (w w' : List ℕ) : Type 0 where
  pub outside : SameOutside stop_cells pair_cells w w'
  pub so_far : (stop : ℕ) → stop < most_stops → stack_size w' stop + count_at stop rest ≡ count_at stop all

pub counting_begins : (rows : List Row) (w : List ℕ) → ((stop : ℕ) → stop < most_stops → stack_size w stop ≡ 0) → Counting rows rows w w
counting_begins rows w empty = record { outside = outside_same stop_cells pair_cells w; so_far = λ stop h. let e : stack_size w stop ≡ 0 = empty stop h in omega arith }

counts_on :
    (all rest : List Row) (r : Row) (w : List ℕ) → pair_cells ≤ length w → r.board < most_stops → (stop : ℕ) → stop < most_stops
    → stack_size w stop + count_at stop (r ∷ rest) ≡ count_at stop all
    → stack_size (with_size w r.board (stack_size w r.board + 1)) stop + count_at stop rest ≡ count_at stop all
counts_on all rest r w room board stop h so_far =
    ifb (λ b. eqb r.board stop ≡ b → stack_size (with_size w r.board (stack_size w r.board + 1)) stop + count_at stop rest ≡ count_at stop all) (eqb r.board stop)
    (λ e _. let here : r.board ≡ stop = eqb-true r.board stop e in
    let count = count_here stop r rest here in
    let stored : stack_size (with_size w r.board (stack_size w r.board + 1)) r.board ≡ stack_size w r.board + 1 =
    get_or-set_same w (size_cells + r.board) (stack_size w r.board + 1) 0 (omega arith) in
    let moved : stack_size (with_size w r.board (stack_size w r.board + 1)) stop ≡ stack_size w stop + 1 =
    subst (λ k. stack_size (with_size w r.board (stack_size w r.board + 1)) k ≡ stack_size w k + 1) here stored in
    omega arith)
    (λ e _. let apart : r.board ≡ stop → ⊥ = eqb-false r.board stop e in
    let count = count_elsewhere stop r rest apart in
    let kept : stack_size (with_size w r.board (stack_size w r.board + 1)) stop ≡ stack_size w stop =
    get_or-set_other w (size_cells + r.board) (size_cells + stop) (stack_size w r.board + 1) 0 (λ q. apart (omega arith)) in
    omega arith) refl

pub counting_on :
    (all rest : List Row) (r : Row) (w w' : List ℕ) → pair_cells ≤ length w → r.board < most_stops → Counting all (r ∷ rest) w w'
    → Counting all rest w (with_size w' r.board (stack_size w' r.board + 1))
counting_on all rest r w w' room board c =
    record {
      outside = outside_then c.outside (outside_set w' (size_cells + r.board) (stack_size w' r.board + 1) (omega arith) (omega arith));
      so_far = λ stop h. counts_on all rest r w' (omega (arith, c.outside.same_length)) board stop h (c.so_far stop h);
    }

pub counting_done : (all : List Row) (w w' : List ℕ) → Counting all [] w w' → Counted all w w'
unfolding count_at
counting_done all w w' c = record { outside = c.outside; counts = λ stop h. omega (arith, c.so_far stop h) }
