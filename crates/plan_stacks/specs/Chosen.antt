-- The chosen rides of one stop, as its stack holds them.
use Rattle.std.specs.Prelude.{ℕ, ◌≤◌, ◌<◌, cond, ◌≡◌, eqb, length, get_or}
use mathlib.Core.List.{List, [], ◌∷◌, map, Memᴰ}
use Rattle.plans.specs.Worth.{Valued}
use Rattle.plan_stacks.specs.Stacks.{Entry, key_step, key_of, stack_of}

-- the chosen rides that board at a stop
unfoldable pub at_stop : ℕ → List Valued → List Valued
at_stop stop [] = []
at_stop stop (v ∷ vs) = let rest = at_stop stop vs in cond (eqb v.ride.from stop) (v ∷ rest) rest

abbrev pub entry_of : Valued → Entry
entry_of v = record { key = key_of v.ride.departs v.ride.board; worth = v.worth }

-- the entries of a stop's stack are its chosen rides, the first to depart on top
abbrev pub StackHolds : List ℕ → ℕ → List Valued → Type 0
StackHolds work stop chosen = stack_of work stop ≡ map entry_of (at_stop stop chosen)

-- a chosen ride's numbers fit an entry: the row below 2,048, the departure a minute of 16 bits, a worth that is no more than that of minute 65,535
pub record EntryFits (v : Valued) : Type 0 where
  pub row : v.ride.board < key_step
  pub departure : v.ride.departs < 65536
  pub worth : v.worth ≤ 16777216

-- chosen rides whose departures rise from one to the next, stop by stop, and whose numbers fit
pub record Climbing (stop : ℕ) (chosen : List Valued) : Type 0 where
  pub fits : (v : Valued) → Memᴰ v (at_stop stop chosen) → EntryFits v
  pub climbs :
      (k l : ℕ) (d : Valued) → k < l → l < length (at_stop stop chosen)
      → (get_or (at_stop stop chosen) k d).ride.departs < (get_or (at_stop stop chosen) l d).ride.departs
