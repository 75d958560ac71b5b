-- Document 01, "What every contract settles": any two outcomes that the readers permit coincide. Assumes nothing.
use Prim.Native.Nat.{ℕ, ◌≤◌, ◌<◌}
use mathlib.Core.List.{List}
use mathlib.Core.Logic.{◌⊎◌, inl, inr, ⊎_elim}
use mathlib.Core.Path.{◌≡◌, refl, sym, ◌∙◌}
use native.Mathlib.Nat.{le_antisymm, not-le_of_lt}
use native.Mathlib.Omega.{arith}
use Rattle.timetable.specs.declared.Row.{Row}
use lib.Dec.{ltb}
use borrow.Author.Tests.{ltb-true, ltb-false}
use Rattle.laws.proofs.Tests.{ifb}
use Rattle.laws.proofs.Outcomes.{SettlesResult}
use Rattle.plan_rows.specs.Reading.{Cut}
use Rattle.plan_rows.proofs.ready.Kinds as ready_kinds
use Rattle.plan_rows.proofs.ready.Reads as ready_reads
use Rattle.plan_rows.proofs.can_board.Kinds as can_board_kinds
use Rattle.plan_rows.proofs.can_board.Reads as can_board_reads
use Rattle.plan_rows.proofs.sailings.Sailings.nth_row.Kinds as row_kinds
use Rattle.plan_rows.proofs.sailings.Sailings.nth_row.Reads as row_reads
use Rattle.plan_rows.proofs.sailings.Sailings.rows_before.Kinds as before_kinds
use Rattle.plan_rows.proofs.sailings.Sailings.rows_before.Reads as before_reads

less_or_not : (m n : ℕ) → (m < n) ⊎ (n ≤ m)
less_or_not m n = ifb (λ b. ltb m n ≡ b → (m < n) ⊎ (n ≤ m)) (ltb m n) (λ e q. inl (ltb-true m n e)) (λ e q. inr (ltb-false m n e)) refl

-- rows are cut by a minute in one place
not_below : (rows : List Row) (minute first other : ℕ) → Cut rows minute first → Cut rows minute other → first ≤ other
not_below rows minute first other one two =
    ⊎_elim (λ less. absurd (not-le_of_lt (one.before other less) (two.behind other (omega arith) (omega (arith, one.inside))))) (λ h. h)
    (less_or_not other first)

pub ready_settled : SettlesResult 0 ready_kinds.ps ready_kinds.r ready_reads.Post
ready_settled κs arguments one other ending another first second = first ∙ sym second

pub can_board_settled : SettlesResult 0 can_board_kinds.ps can_board_kinds.r can_board_reads.Post
can_board_settled κs arguments one other ending another first second = first ∙ sym second

pub nth_row_settled : SettlesResult 2 row_kinds.ps row_kinds.r row_reads.Post
nth_row_settled κs arguments one other ending another first second = first.0 ∙ sym second.0

pub rows_before_settled : SettlesResult 2 before_kinds.ps before_kinds.r before_reads.Post
rows_before_settled κs arguments one other ending another first second =
    le_antisymm (not_below _ _ one other first second) (not_below _ _ other one second first)
