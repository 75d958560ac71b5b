-- Marks change nothing of what the scan left in the cells behind them. Assumes nothing.
use Prim.Native.Nat.{ℕ, suc, ◌+◌, ◌*◌, ◌≤◌}
use mathlib.Core.List.{List}
use mathlib.Core.Option.{Option, none, some}
use mathlib.Core.Path.{◌≡◌, sym, ap, ap₂, subst, ◌∙◌}
use native.Mathlib.Omega.{arith}
use Rattle.plans.specs.Worth.{Valued}
use Rattle.plans.specs.Chosen.{Scan}
use Rattle.plan_cells.specs.Cells.{trip_cells, stop_cells, pair_cells, used}
use Rattle.plan_stacks.specs.Stacks.{stack_at, stack_start, stack_size}
use Rattle.plan_cells.specs.Outside.{SameOutside}
use Rattle.plan_stacks.proofs.Entries.{stack_same}
use Rattle.plan_scan.specs.Scanned.{ScanHeld, PairHolds, best_in}

module _ {old new : List ℕ} (k : SameOutside trip_cells stop_cells old new) where
  same_start : (stop : ℕ) → stack_start new stop ≡ stack_start old stop
  same_start stop = ap (λ x. pair_cells + 2 * x) (k.behind (stop_cells + stop) (omega arith))

  same_size : (stop : ℕ) → stack_size new stop ≡ stack_size old stop
  same_size stop = k.behind (2200 + stop) (omega arith)

  same_pair : (i : ℕ) (best : Option Valued) → PairHolds old i best → PairHolds new i best
  same_pair i none p = k.behind (pair_cells + 2 * i) (omega arith) ∙ p
  same_pair i (some v) p =
      (k.behind (pair_cells + 2 * i) (omega arith) ∙ p.0, k.behind (pair_cells + 2 * i + 1) (omega arith) ∙ p.1, p.2)

  pub kept_held : {n first end : ℕ} {sc : Scan} → ScanHeld old n first end sc → ScanHeld new n first end sc
  kept_held {n} {first} {end} {sc} held =
      record {
        pair_holds = λ i a b. same_pair i (best_in sc first i) (held.pair_holds i a b);
        stack_holds = λ stop h.
            ap₂ (λ a b. stack_at new a b) (same_start stop) (same_size stop)
            ∙ stack_same old new (stack_start old stop) (stack_size old stop) (λ i low high. k.behind i (omega arith)) ∙ held.stack_holds stop h;
        climbing = held.climbing;
        stack_behind = λ stop h. subst (λ a. pair_cells + 2 * suc n ≤ a) (sym (same_start stop)) (held.stack_behind stop h);
        stack_inside = λ stop h.
            (let a : stack_start new stop ≡ stack_start old stop = same_start stop in
            let b : stack_size new stop ≡ stack_size old stop = same_size stop in
            let z : stack_start new stop + 2 * stack_size new stop ≤ used n = omega (arith, held.stack_inside stop h) in z);
      }
