-- The marks before the first ride: row `boarding` alone is marked, and the cells behind the marks are as they were. Assumes nothing.
use Prim.Native.Nat.{ℕ, ◌+◌, ◌≤◌, ◌<◌}
use mathlib.Core.List.{List}
use mathlib.Core.Path.{◌≡◌, sym, ap, subst, ◌∙◌}
use native.Mathlib.Nat.{zero-add}
use native.Mathlib.Omega.{arith}
use lib.ListN.{length, get_or, set}
use lib.Seq.{get_or-set_same}
use Rattle.plan_cells.specs.Cells.{trip_cells, stop_cells, filled}
use Rattle.plan_cells.specs.Outside.{SameOutside}
use Rattle.plan_cells.proofs.Filled.{length_filled, filled_inside}
use Rattle.plan_cells.proofs.Outside.{outside_then, outside_wider, outside_set, outside_filled, set_cell}
use Rattle.plan_extract.specs.Marks.{MarkedAlone}

module _ (work : List ℕ) (n at boarding : ℕ) (here : at ≡ boarding) (inside : boarding < n) (few : n ≤ 2000) (room : 2000 ≤ length work) where
  abbrev cleared : List ℕ
  cleared = filled work 0 n 0

  cleared_length : length cleared ≡ length work
  cleared_length = length_filled work 0 n 0 (omega arith)

  pub alone_kept : SameOutside trip_cells stop_cells work (set cleared at 1)
  alone_kept =
      outside_then (outside_wider (omega arith) (omega arith) (outside_filled work 0 n 0 (omega arith)))
      (outside_set cleared at 1 (omega arith) (omega arith))

  pub alone_marked : MarkedAlone (set cleared at 1) n boarding
  alone_marked =
      let fits : at < length cleared = omega (arith, cleared_length) in
      record {
        marked = subst (λ k. get_or (set cleared at 1) k 0 ≡ 1) here (get_or-set_same cleared at 1 0 fits);
        only = λ i h.
            set_cell (λ x. x ≡ 1 → i ≡ boarding) cleared at i 1 fits (λ same _. sym same ∙ here)
            (λ _ marked. absurd (let none : get_or cleared (0 + i) 0 ≡ 0 = filled_inside work 0 n 0 i (omega arith) h in
            let place : get_or cleared (0 + i) 0 ≡ get_or cleared i 0 = ap (λ k. get_or cleared k 0) (zero-add i) in
            let z : ⊥ = omega arith in z));
      }
