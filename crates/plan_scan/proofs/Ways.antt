-- Each way in which `choose` stores an entry, over plain values. Assumes nothing.
use Prim.Native.Nat.{ℕ, suc, ◌-◌, ◌<◌}
use mathlib.Core.List.{List}
use mathlib.Core.Path.{◌≡◌, sym, subst, ap₂, ◌∙◌}
use native.Mathlib.Omega.{arith}
use Rattle.timetable.specs.declared.Row.{Row}
use Rattle.timetable.specs.Limits.{most_stops}
use Rattle.plan_stacks.specs.Stacks.{stack_start, stack_size, entry_departure, with_entry, with_size}
use Rattle.plan_stacks.proofs.Stored.{entered_stored}
use Rattle.plan_scan.specs.Stores.{stored, row_worth, Stacked, alone, replaces, ahead}

module _ (row : Row) (i : ℕ) (w : List ℕ) (start size : ℕ) (starts : start ≡ stack_start w row.board) (sizes : size ≡ stack_size w row.board) where
  abbrev pushed : List ℕ
  pushed = with_size (with_entry w start size row.departure i (row_worth w i)) row.board (suc size)

  push_stores : (k : ℕ) → size ≡ k → pushed ≡ stored row i k w
  push_stores k e = ap₂ (λ (s n : ℕ). with_size (with_entry w s n row.departure i (row_worth w i)) row.board (suc n)) starts e

  pub stacked_alone : (w₁ : List ℕ) → size ≡ 0 → w₁ ≡ pushed → Stacked row i w w₁
  stacked_alone w₁ none' e = alone (sym sizes ∙ none') (e ∙ push_stores 0 none')

  module _ (some' : size ≡ 0 → ⊥) where
    one_more : size ≡ suc (size - 1)
    one_more = omega arith

    pub stacked_replacing : (w₁ : List ℕ) → row.board < most_stops → entry_departure w start (size - 1) ≡ row.departure
        → w₁ ≡ with_entry w start (size - 1) row.departure i (row_worth w i) → Stacked row i w w₁
    stacked_replacing w₁ board same e =
        replaces (size - 1) (sym sizes ∙ one_more) (subst (λ s. entry_departure w s (size - 1) ≡ row.departure) starts same)
        (e ∙ subst (λ s. with_entry w s (size - 1) row.departure i (row_worth w i) ≡ stored row i (size - 1) w) (sym starts)
        (entered_stored w row.board (size - 1) row.departure i (row_worth w i) board (sym sizes ∙ one_more)))

    pub stacked_ahead : (w₁ : List ℕ) → (entry_departure w start (size - 1) ≡ row.departure → ⊥) → w₁ ≡ pushed → Stacked row i w w₁
    stacked_ahead w₁ other e =
        ahead (size - 1) (sym sizes ∙ one_more) (λ q. other (subst (λ s. entry_departure w s (size - 1) ≡ row.departure) (sym starts) q))
        (e ∙ push_stores (suc (size - 1)) one_more)
