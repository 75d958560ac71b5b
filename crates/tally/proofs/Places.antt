-- Laws on the place of a landing in a tally. Assumes nothing.
use Prim.Native.Nat.{ℕ, ◌+◌, ◌-◌, ◌<◌, ◌≤◌, min}
use mathlib.Core.Bool.{cond}
use mathlib.Core.Path.{◌≡◌, ◌∙◌}
use native.Mathlib.Omega.{arith}
use lib.Dec.{leb}
use borrow.Author.Tests.{le-leb, lt-leb, leb-true, leb-false}
use Rattle.laws.proofs.Tests.{ifb, cond_true, cond_false}
use Rattle.tally.specs.declared.Landing.{Landing}
use Rattle.tally.specs.Landing.{lateness, counted_as}
use Rattle.tally.specs.Tally.{counts, apart, place_of}
use Rattle.tally.proofs.Differences.{counted_late}

place_late : (top : ℕ) (l : Landing) → counted_as (lateness l) ≤ top → place_of top l ≡ counted_as (lateness l)
unfolding place_of
place_late top l within = cond_true _ _ (le-leb (counted_as (lateness l)) top within)

place_apart : (top : ℕ) (l : Landing) → top < counted_as (lateness l) → place_of top l ≡ apart top
unfolding place_of
place_apart top l over = cond_false _ _ (lt-leb (counted_as (lateness l)) top over)

-- in the minutes of a landing: early ones at 0, which the difference is then
pub place_by_minutes : (top : ℕ) (l : Landing) → l.actual - l.planned ≤ top → place_of top l ≡ l.actual - l.planned
place_by_minutes top l within = place_late top l (omega (arith, counted_late l)) ∙ counted_late l

pub place_over : (top : ℕ) (l : Landing) → top < l.actual - l.planned → place_of top l ≡ apart top
place_over top l over = place_apart top l (omega (arith, counted_late l))

pub place_inside : (top : ℕ) (l : Landing) → place_of top l < counts top
unfolding place_of
place_inside top l =
    ifb (λ t. cond t (counted_as (lateness l)) (apart top) < counts top) (leb (counted_as (lateness l)) top)
    (λ within. omega (arith, leb-true (counted_as (lateness l)) top within)) (λ over. omega arith)

-- the minutes that a landing is late, or the place behind the top one if they are more
pub place_capped : (top : ℕ) (l : Landing) → min (l.actual - l.planned) (top + 1) ≡ place_of top l
place_capped top l =
    ifb (λ t. min (l.actual - l.planned) (top + 1) ≡ place_of top l) (leb (l.actual - l.planned) top)
    (λ within. omega (arith, leb-true _ top within, place_by_minutes top l (leb-true _ top within)))
    (λ over. omega (arith, leb-false _ top over, place_over top l (leb-false _ top over)))
