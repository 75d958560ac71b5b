-- A stop's limit: a worth lies below it just where it leads the stop's first chosen ride. Assumes nothing.
use Prim.Native.Nat.{ℕ, ◌+◌, ◌≤◌, ◌<◌}
use mathlib.Core.Bool.{true, false}
use mathlib.Core.List.{List, [], ◌∷◌, Memᴰ}
use mathlib.Core.Option.{Option, none, some}
use mathlib.Core.Path.{◌≡◌, refl, sym, subst}
use native.Mathlib.Omega.{arith}
use lib.ListN.{replicate, length-replicate, get_or-replicate}
use borrow.Author.Tests.{le-leb, lt-leb}
use Rattle.timetable.specs.Limits.{most_stops}
use Rattle.plans.specs.Worth.{Valued}
use Rattle.plans.specs.Chosen.{leads, first_at}
use Rattle.plan_cells.specs.Cells.{missing}
use Rattle.plan_stacks.specs.Chosen.{at_stop, EntryFits}
use Rattle.plan_stacks.proofs.AtStop.{at_stop_member}
use Rattle.plan_scan.specs.Held.{limit_of, LimitsHeld}
use Rattle.plan_scan.proofs.ByStop.{head_of, first_at_lem}

-- the limits before a row is chosen
abbrev pub no_limits : List ℕ
no_limits = replicate most_stops missing

pub no_limits_lem : (margin : ℕ) → LimitsHeld no_limits margin []
unfolding first_at
no_limits_lem margin = record { count = length-replicate most_stops missing; limit = λ stop h. get_or-replicate most_stops stop missing 0 h }

pub below_leads : (margin worth : ℕ) (first : Option Valued) → worth < limit_of margin first → leads margin worth first ≡ true
unfolding leads
below_leads margin worth none below = refl
below_leads margin worth (some first) below = le-leb (worth + margin) first.worth (omega arith)

pub above_behind : (margin worth : ℕ) (first : Option Valued) → worth < missing → limit_of margin first ≤ worth → leads margin worth first ≡ false
unfolding leads
above_behind margin worth none small above = absurd (let z : ⊥ = omega arith in z)
above_behind margin worth (some first) small above = lt-leb (worth + margin) first.worth (omega arith)

head_limit : (margin : ℕ) (vs : List Valued) → ((v : Valued) → Memᴰ v vs → EntryFits v) → limit_of margin (head_of vs) ≤ missing
head_limit margin [] fits = let z : missing ≤ missing = omega arith in z
head_limit margin (v ∷ vs) fits = let worth = (fits v (Memᴰ.head refl)).worth in omega arith

-- "no worth" lies below no limit
pub limit_most : (margin : ℕ) (chosen : List Valued) (stop : ℕ) → ((v : Valued) → Memᴰ v chosen → EntryFits v) → limit_of margin (first_at chosen stop) ≤ missing
limit_most margin chosen stop fits =
    subst (λ (o : Option Valued). limit_of margin o ≤ missing) (sym (first_at_lem chosen stop))
    (head_limit margin (at_stop stop chosen) (λ v m. fits v (at_stop_member stop chosen v m)))
