-- The rows behind a row, nearest first, as the check looks back on them, and the nearest of a trip by its place. Assumes nothing.
use Prim.Native.Nat.{ℕ, zero, suc, ◌≤◌, ◌<◌}
use mathlib.Core.List.{List, [], ◌∷◌}
use mathlib.Core.Option.{some}
use mathlib.Core.Path.{◌≡◌, refl, ap, sym, ◌∙◌}
use mathlib.Core.Logic.{inl, inr}
use native.Mathlib.Omega.{arith}
use native.Mathlib.Nat.{eq-or-lt_of_le}
use lib.ListN.{length}
use borrow.Author.Tests.{eq-eqb, ne_eqb}
use Rattle.laws.proofs.Tests.{cond_true, cond_false}
use Rattle.timetable.specs.declared.Row.{Row}
use Rattle.timetable.specs.Timetable.{row_of}
use Rattle.timetable.specs.Rows.{last_of_trip}

-- what lies behind row j of `rows`, where `back` lies behind row 0
unfoldable pub behind : List Row → List Row → ℕ → List Row
behind back rows zero = back
behind back [] (suc j) = back
behind back (r ∷ rows) (suc j) = behind (r ∷ back) rows j

-- one row further, that row lies nearest
pub behind_next : (back rows : List Row) (j : ℕ) → j < length rows
    → behind back rows (suc j) ≡ row_of rows j ∷ behind back rows j
unfolding behind
behind_next back [] j h = absurd (let z : ⊥ = omega arith in z)
behind_next back (r ∷ rows) zero h = refl
behind_next back (r ∷ rows) (suc j) h = behind_next (r ∷ back) rows j (omega arith)

pub last_here : (trip : ℕ) (p : Row) (back : List Row) → p.trip ≡ trip → last_of_trip trip (p ∷ back) ≡ some p
unfolding last_of_trip
last_here trip p back e = cond_true (some p) (last_of_trip trip back) (eq-eqb p.trip trip e)

pub last_further : (trip : ℕ) (p : Row) (back : List Row) → (p.trip ≡ trip → ⊥) → last_of_trip trip (p ∷ back) ≡ last_of_trip trip back
unfolding last_of_trip
last_further trip p back h = cond_false (some p) (last_of_trip trip back) (ne_eqb p.trip trip h)

-- looking back from row j stops at row i, the nearest of the trip
pub nearest_of_trip : (rows : List Row) (trip i j : ℕ) → i < j → j ≤ length rows → (row_of rows i).trip ≡ trip
    → ((k : ℕ) → i < k → k < j → (row_of rows k).trip ≡ trip → ⊥) → last_of_trip trip (behind [] rows j) ≡ some (row_of rows i)
nearest_of_trip rows trip i zero h inside same between = absurd (let z : ⊥ = omega arith in z)
nearest_of_trip rows trip i (suc j) h inside same between =
    let back = behind [] rows j in
    let seen : last_of_trip trip (behind [] rows (suc j)) ≡ last_of_trip trip (row_of rows j ∷ back) =
    ap (last_of_trip trip) (behind_next [] rows j (omega arith))
    in
    seen
    ∙ elim (eq-or-lt_of_le (let z : i ≤ j = omega arith in z)) [
      | inl e ↦ last_here trip (row_of rows j) back (sym (ap (λ k. (row_of rows k).trip) e) ∙ same) ∙ ap (λ k. some (row_of rows k)) (sym e)
      | inr l ↦ last_further trip (row_of rows j) back (between j l (omega arith))
          ∙ nearest_of_trip rows trip i j l (omega arith) same (λ k above below. between k above (omega arith))
    ]
