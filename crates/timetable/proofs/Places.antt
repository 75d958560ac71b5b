-- Document 01, "Numbers returned on refusal": each fault's place is its class for 3, its row for 4 and 5, otherwise 0. Assumes nothing.
use Prim.Native.Nat.{ℕ, suc, ◌+◌, ◌≤◌, ◌<◌}
use mathlib.Core.Bool.{Bool, true, false, ◌&&◌}
use mathlib.Core.List.{List, [], ◌∷◌}
use native.Mathlib.Omega.{arith}
use lib.ListN.{length}
use Rattle.laws.proofs.Tests.{ifb}
use Rattle.timetable.specs.declared.Row.{Row}
use Rattle.timetable.specs.declared.Ranges.{Ranges}
use Rattle.timetable.specs.Verdict.{Verdict, fine, fault, or_else, unless}
use Rattle.timetable.specs.Places.{Placed, outside, unjoined, class, own, order, WellPlaced}
use Rattle.timetable.specs.Rows.{own_rule, departure_rule, trip_rule, row_verdict, rows_verdict}

-- a refusal of the check has a number from 1 to 5
pub number_small : {classes rows number place : ℕ} → Placed classes rows number place → (1 ≤ number) × (number ≤ 5)
number_small outside = (omega arith, omega arith)
number_small unjoined = (omega arith, omega arith)
number_small (class h) = (omega arith, omega arith)
number_small (own h) = (omega arith, omega arith)
number_small (order h) = (omega arith, omega arith)

-- no place is past the classes and the rows
pub place_small : {classes rows number place : ℕ} → Placed classes rows number place → place ≤ classes + rows
place_small outside = omega arith
place_small unjoined = omega arith
place_small (class h) = omega arith
place_small (own h) = omega arith
place_small (order h) = omega arith

pub one_of_two_placed : (classes rows : ℕ) (v w : Verdict) → WellPlaced classes rows v → WellPlaced classes rows w
    → WellPlaced classes rows (or_else v w)
one_of_two_placed classes rows fine w p q = q
one_of_two_placed classes rows (fault number place) w p q = p

pub rule_placed : {classes rows number place : ℕ} (b : Bool) → Placed classes rows number place
    → WellPlaced classes rows (unless b number place)
rule_placed true p = tt
rule_placed false p = p

-- a verdict that is fine, or a fault whose number and place are such
abbrev pub FaultSuch : (ℕ → ℕ → Type 0) → Verdict → Type 0
FaultSuch Such fine = Unit {0}
FaultSuch Such (fault number place) = Such number place

-- the faults of rows are 4 and 5, each at a row
pub rows_such : (Such : ℕ → ℕ → Type 0) (n : ℕ) → ((i : ℕ) → i < n → Such 4 i) → ((i : ℕ) → i < n → Such 5 i)
    → (g : Ranges) (back : List Row) (i : ℕ) (rows : List Row) → i + length rows ≤ n → FaultSuch Such (rows_verdict g back i rows)
unfolding rows_verdict row_verdict
rows_such Such n four five g back i [] h = tt
rows_such Such n four five g back i (r ∷ rows) h =
    let later = rows_verdict g (r ∷ back) (suc i) rows in
    let rule = departure_rule back r && trip_rule back r in
    ifb (λ b. FaultSuch Such (or_else (or_else (unless b 4 i) (unless rule 5 i)) later)) (own_rule g r)
    (λ e. ifb (λ b. FaultSuch Such (or_else (unless b 5 i) later)) rule (λ e. rows_such Such n four five g (r ∷ back) (suc i) rows (omega arith))
    (λ e. five i (omega arith))) (λ e. four i (omega arith))

such_placed : (classes rows : ℕ) (v : Verdict) → FaultSuch (Placed classes rows) v → WellPlaced classes rows v
such_placed classes rows fine p = p
such_placed classes rows (fault number place) p = p

pub rows_placed : (classes n : ℕ) (g : Ranges) (back : List Row) (i : ℕ) (rows : List Row) → i + length rows ≤ n
    → WellPlaced classes n (rows_verdict g back i rows)
rows_placed classes n g back i rows h =
    such_placed classes n (rows_verdict g back i rows) (rows_such (Placed classes n) n (λ i h. own h) (λ i h. order h) g back i rows h)
