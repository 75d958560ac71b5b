-- The cells after a row's entry was stored on its stop's stack. Assumes nothing.
use Prim.Native.Nat.{ℕ, suc, ◌+◌, ◌*◌, ◌<◌}
use mathlib.Core.List.{List, ◌∷◌}
use mathlib.Core.Path.{◌≡◌, sym, ap, ap₂, ◌∙◌}
use native.Mathlib.Omega.{arith}
use lib.ListN.{length, get_or}
use lib.Seq.{get_or-set_same, get_or-set_other, set-get_or}
use Rattle.timetable.specs.Limits.{most_stops}
use Rattle.plan_cells.specs.Cells.{trip_cells, stop_cells, size_cells, pair_cells}
use Rattle.plan_cells.specs.Outside.{SameOutside}
use Rattle.plan_cells.proofs.Outside.{outside_then, outside_set}
use Rattle.plan_cells.proofs.TwoCells.{length_two, two_other, outside_two}
use Rattle.plan_stacks.specs.Stacks.{key_of, stack_at, stack_start, stack_of, start_pair, stack_size, with_entry, with_size, with_top}
use Rattle.plan_stacks.proofs.Entries.{entry, stack_same, stack_pushed}

module _ (w : List ℕ) (stop k departure row worth : ℕ) (inside : stop < most_stops) where
  abbrev at : ℕ
  at = stack_start w stop + 2 * k

  abbrev entered : List ℕ
  entered = with_entry w (stack_start w stop) k departure row worth

  abbrev topped : List ℕ
  topped = with_top w stop k departure row worth

  pub stored_other : (j : ℕ) → (j ≡ size_cells + stop → ⊥) → (j ≡ at → ⊥) → (j ≡ at + 1 → ⊥) → get_or topped j 0 ≡ get_or w j 0
  stored_other j size front behind =
      get_or-set_other entered (size_cells + stop) j (suc k) 0 size ∙ two_other w at (key_of departure row) worth j front behind

  pub stored_start : (other : ℕ) → other < most_stops → start_pair topped other ≡ start_pair w other
  stored_start other h = stored_other (stop_cells + other) (λ e. omega arith) (λ e. omega arith) (λ e. omega arith)

  pub stored_size : (other : ℕ) → other < most_stops → (stop ≡ other → ⊥) → stack_size topped other ≡ stack_size w other
  stored_size other h apart = stored_other (size_cells + other) (λ e. apart (omega arith)) (λ e. omega arith) (λ e. omega arith)

  pub outside_stored : {to : ℕ} → at + 1 < to → SameOutside trip_cells to w topped
  outside_stored h =
      outside_then (outside_two w at (key_of departure row) worth (omega arith) h)
      (outside_set entered (size_cells + stop) (suc k) (omega arith) (omega arith))

  -- on a stack of k + 1 entries already, the size is stored for free
  pub entered_stored : stack_size w stop ≡ suc k → entered ≡ topped
  entered_stored size =
      sym (set-get_or entered (size_cells + stop) 0)
      ∙ ap (with_size entered stop) (two_other w at (key_of departure row) worth (size_cells + stop) (λ e. omega arith) (λ e. omega arith) ∙ size)

  module _ (room : at + 1 < length w) where
    pub stored_own_size : stack_size topped stop ≡ suc k
    stored_own_size = get_or-set_same entered (size_cells + stop) (suc k) 0 (omega (arith, length_two w at (key_of departure row) worth))

    pub stored_stack : stack_of topped stop ≡ entry (key_of departure row) worth ∷ stack_at w (stack_start w stop) k
    stored_stack =
        ap₂ (λ (a n : ℕ). stack_at topped (pair_cells + 2 * a) n) (stored_start stop inside) stored_own_size
        ∙ stack_same entered topped (stack_start w stop) (suc k)
        (λ j low high. get_or-set_other entered (size_cells + stop) j (suc k) 0 (λ e. omega arith))
        ∙ stack_pushed w (stack_start w stop) k departure row worth room
