-- The plan slice with the rides written so far, and one ride more; how many numbers they are. Assumes nothing.
use Prim.Native.Nat.{ℕ, suc, ◌+◌, ◌*◌, ◌≤◌}
use mathlib.Core.List.{List, [], ◌∷◌, ◌++◌}
use mathlib.Core.Path.{◌≡◌, refl, sym, ap, ◌∙◌}
use native.Mathlib.Omega.{arith}
use lib.ListN.{length, drop, set, length-append, length-drop}
use lib.Seq.{sets-eq, take_at, drop-append-add, drop-drop}
use Rattle.plans.specs.Worth.{Valued}
use Rattle.numbers.specs.Over.{over}
use Rattle.plan_slice.specs.Slice.{written, with_ride}

abbrev numbers : Valued → List ℕ
numbers v = v.ride.board ∷ v.ride.leave ∷ v.worth ∷ []

pub length_written : (rides : List Valued) → length (written rides) ≡ 3 * length rides
unfolding written
length_written [] = refl
length_written (v ∷ rides) = let rest = length_written rides in omega arith

written_more : (past : List Valued) (v : Valued) → written (past ++ v ∷ []) ≡ written past ++ numbers v
unfolding written
written_more [] v = refl
written_more (u ∷ past) v = ap (λ l. u.ride.board ∷ u.ride.leave ∷ u.worth ∷ l) (written_more past v)

pub length_more : (past : List Valued) (v : Valued) → length (past ++ v ∷ []) ≡ length past + 1
length_more past v = length-append past (v ∷ [])

pub length_over : (rides : List Valued) (plan : List ℕ) → 3 * length rides ≤ length plan → length (over (written rides) plan) ≡ length plan
length_over rides plan room =
    length-append (written rides) (drop (length (written rides)) plan)
    ∙ (let rest = length-drop (length (written rides)) plan in let front = length_written rides in omega arith)

-- no ride is written yet
pub over_none : (plan : List ℕ) → plan ≡ over (written []) plan
unfolding written
over_none plan = refl

-- one ride more
pub over_more : (past : List Valued) (v : Valued) (plan : List ℕ) (rides : ℕ) → rides ≡ length past → 3 * suc (length past) ≤ length plan
    → with_ride (over (written past) plan) rides v.ride.board v.ride.leave v.worth ≡ over (written (past ++ v ∷ [])) plan
over_more past v plan rides count room =
    let front : length (written past) ≡ 3 * rides = length_written past ∙ ap (λ k. 3 * k) (sym count) in
    let rest = drop (length (written past)) plan in
    let whole = over (written past) plan in
    let long : length whole ≡ length plan = length_over past plan (omega arith) in
    let one : suc (3 * rides) ≡ 3 * rides + 1 = omega arith in
    let two : suc (suc (3 * rides)) ≡ 3 * rides + 2 = omega arith in
    ap (λ k. at_places whole (3 * rides) k (3 * rides + 2)) (sym one) ∙ ap (λ k. at_places whole (3 * rides) (suc (3 * rides)) k) (sym two)
    ∙ sets-eq (numbers v) whole (3 * rides) (omega arith)
    ∙ ap (λ l. l ++ numbers v ++ drop (3 * rides + 3) whole) (take_at (written past) rest (3 * rides) front)
    ∙ ap (λ l. written past ++ numbers v ++ l)
    (ap (λ k. drop (k + 3) whole) (sym front) ∙ drop-append-add (written past) rest 3 ∙ drop-drop 3 (length (written past)) plan
    ∙ ap (λ k. drop k plan) (sym (length-append (written past) (numbers v))))
    ∙ ap (λ l. over l plan) (sym (written_more past v))
  where
    at_places : List ℕ → ℕ → ℕ → ℕ → List ℕ
    at_places l i j k = set (set (set l i v.ride.board) j v.ride.leave) k v.worth
