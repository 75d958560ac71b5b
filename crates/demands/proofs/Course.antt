-- The walk as one pass over the plan: what has been passed over is never boarded later. Assumes nothing.
use Prim.Native.Nat.{ℕ, zero, suc, ◌+◌, ◌≤◌, ◌<◌}
use mathlib.Core.Bool.{true, false, cond}
use mathlib.Core.List.Memᴰ
use mathlib.Core.List.{List, [], ◌∷◌, map, Memᴰ}
use mathlib.Core.Logic.{◌≢◌}
use mathlib.Core.Option.{Option, none, some}
use mathlib.Core.Path.{◌≡◌, refl, sym, ◌∙◌, ap, subst}
use native.Mathlib.Omega.{arith}
use borrow.Author.Tests.{ne_eqb}
use lib.Dec.{eqb}
use lib.ListN.{length}
use Rattle.laws.proofs.Tests.{ifb, cond_true, cond_false}
use Rattle.laws.proofs.Options.{absent, same_thing}
use Rattle.plans.specs.Rides.{Ride, ready, boards}
use Rattle.demands.specs.Walk.{Sailed, Standing, first_sailed, landed, step, steps}
use Rattle.plans.proofs.Open.{boards_stop, too_late}
use Rattle.demands.proofs.Forward.{Timed, AllTimed, one, rides_forward}

abbrev pub rides_sailed : List Sailed → List Ride
rides_sailed = map (λ s. s.ride)

-- each ride of the plan in turn: boarded where it opens, passed over where not
unfoldable pub course : (gate : ℕ) → List Sailed → Standing → Standing
course gate [] at = at
course gate (s ∷ sailed) at =
    let boarded = course gate sailed (landed at (some s)) in
    let passed = course gate sailed at in
    cond (boards s.ride at.stop (ready gate at.minute)) boarded passed

-- the ride found stands in the list and opens
pub found_sailed :
    (sailed : List Sailed) (stop minute : ℕ) {s : Sailed} → first_sailed sailed stop minute ≡ some s
    → Memᴰ s sailed × (boards s.ride stop minute ≡ true)
unfolding first_sailed
found_sailed [] stop minute e = absent e
found_sailed (u ∷ sailed) stop minute {s} e =
    ifb (λ b. cond b (some u) (first_sailed sailed stop minute) ≡ some s → Found)
    (boards u.ride stop minute) (λ opened here. at_head opened (same_thing here)) (λ shut further. behind (found_sailed sailed stop minute further)) e
  where
    Found : Type 0
    Found = Memᴰ s (u ∷ sailed) × (boards s.ride stop minute ≡ true)

    at_head : boards u.ride stop minute ≡ true → u ≡ s → Found
    at_head opened same = (Memᴰ.head (sym same), subst (λ (x : Sailed). boards x.ride stop minute ≡ true) same opened)

    behind : Memᴰ s sailed × (boards s.ride stop minute ≡ true) → Found
    behind found = (Memᴰ.tail found.0, found.1)

-- what holds where the passenger stands and after each landing holds all along
pub steps_keep :
    (P : Standing → Type 0) (gate target : ℕ) (sailed : List Sailed)
    → ((at : Standing) (s : Sailed) → P at → first_sailed sailed at.stop (ready gate at.minute) ≡ some s → P (landed at (some s)))
    → (k : ℕ) (at : Standing) → P at → P (steps gate target sailed k at)
unfolding steps step landed
steps_keep P gate target sailed lands zero at here = here
steps_keep P gate target sailed lands (suc k) at here =
    steps_keep P gate target sailed lands k (step gate target sailed at)
    (ifb (λ b. P (cond b at (landed at (first_sailed sailed at.stop (ready gate at.minute))))) (eqb at.stop target) (λ over. here)
    (λ onward. go (first_sailed sailed at.stop (ready gate at.minute)) (λ s. lands at s here)))
  where
    go : (o : Option Sailed) → ((s : Sailed) → o ≡ some s → P (landed at (some s))) → P (landed at o)
    go none lands_here = here
    go (some s) lands_here = lands_here s refl

-- a ride that is shut stays shut: whatever lands, lands after it departs
step_shut :
    (gate target : ℕ) (r : Ride) (sailed : List Sailed) (at : Standing)
    → ((s : Sailed) → Memᴰ s sailed → r.departs < s.ride.arrives) → boards r at.stop (ready gate at.minute) ≡ false
    → boards r (step gate target sailed at).stop (ready gate (step gate target sailed at).minute) ≡ false
unfolding step landed
step_shut gate target r sailed at later shut =
    ifb (λ b. Shut (cond b at (landed at (first_sailed sailed at.stop (ready gate at.minute))))) (eqb at.stop target) (λ over. shut)
    (λ onward. go (first_sailed sailed at.stop (ready gate at.minute)) refl)
  where
    Shut : Standing → Type 0
    Shut here = boards r here.stop (ready gate here.minute) ≡ false

    go : (o : Option Sailed) → first_sailed sailed at.stop (ready gate at.minute) ≡ o → Shut (landed at o)
    go none e = shut
    go (some s) e =
        too_late r s.ride.to (ready gate (s.ride.arrives + s.delay))
        (omega (arith, later s (found_sailed sailed at.stop (ready gate at.minute) e).0))

pass_one :
    (gate target : ℕ) (s : Sailed) (sailed : List Sailed) (at : Standing) → boards s.ride at.stop (ready gate at.minute) ≡ false
    → step gate target (s ∷ sailed) at ≡ step gate target sailed at
unfolding step first_sailed
pass_one gate target s sailed at shut =
    ap (λ b. cond (eqb at.stop target) at (landed at (cond b (some s) (first_sailed sailed at.stop (ready gate at.minute))))) shut

board_one :
    (gate target : ℕ) (s : Sailed) (sailed : List Sailed) (at : Standing) → s.ride.from ≢ target
    → boards s.ride at.stop (ready gate at.minute) ≡ true → step gate target (s ∷ sailed) at ≡ landed at (some s)
unfolding step first_sailed
board_one gate target s sailed at off_target opens =
    cond_false at (landed at (first_sailed (s ∷ sailed) at.stop (ready gate at.minute)))
    (ne_eqb at.stop target (λ there. off_target (boards_stop s.ride at.stop (ready gate at.minute) opens ∙ there)))
    ∙ ap (landed at) (cond_true (some s) (first_sailed sailed at.stop (ready gate at.minute)) opens)

-- a shut ride is passed over, now and later
steps_pass :
    (gate target : ℕ) (s : Sailed) (sailed : List Sailed)
    → ((u : Sailed) → Memᴰ u sailed → s.ride.departs < u.ride.arrives) → (k : ℕ) (at : Standing)
    → boards s.ride at.stop (ready gate at.minute) ≡ false → steps gate target (s ∷ sailed) k at ≡ steps gate target sailed k at
unfolding steps
steps_pass gate target s sailed later zero at shut = refl
steps_pass gate target s sailed later (suc k) at shut =
    ap (steps gate target (s ∷ sailed) k) (pass_one gate target s sailed at shut)
    ∙ steps_pass gate target s sailed later k (step gate target sailed at) (step_shut gate target s.ride sailed at later shut)

-- rides behind depart no earlier, so they land later
pub lands_later :
    {target : ℕ} {r : Ride} {behind : List Ride} → Timed target r behind → AllTimed target behind → (u : Ride) → Memᴰ u behind
    → r.departs < u.arrives
lands_later timed rest u among = omega (arith, timed.in_order u among, rides_forward rest u among)

-- a ride that opens is boarded, and the rest of the walk is in the rides behind it
pub steps_board :
    (gate target : ℕ) (s : Sailed) (sailed : List Sailed) → Timed target s.ride (rides_sailed sailed) → AllTimed target (rides_sailed sailed)
    → (k : ℕ) (at : Standing) → boards s.ride at.stop (ready gate at.minute) ≡ true
    → steps gate target (s ∷ sailed) (suc k) at ≡ steps gate target sailed k (landed at (some s))
unfolding steps landed
steps_board gate target s sailed timed rest k at opens =
    ap (steps gate target (s ∷ sailed) k) (board_one gate target s sailed at timed.off_target opens)
    ∙ steps_pass gate target s sailed (λ u among. lands_later timed rest u.ride (Memᴰ.map (λ x. x.ride) among)) k (landed at (some s))
    (too_late s.ride s.ride.to (ready gate (s.ride.arrives + s.delay)) (omega (arith, timed.forward)))

pub steps_shut :
    (gate target : ℕ) (s : Sailed) (sailed : List Sailed) → Timed target s.ride (rides_sailed sailed) → AllTimed target (rides_sailed sailed)
    → (k : ℕ) (at : Standing) → boards s.ride at.stop (ready gate at.minute) ≡ false
    → steps gate target (s ∷ sailed) k at ≡ steps gate target sailed k at
steps_shut gate target s sailed timed rest =
    steps_pass gate target s sailed (λ u among. lands_later timed rest u.ride (Memᴰ.map (λ x. x.ride) among))

steps_end : (gate target k : ℕ) (at : Standing) → steps gate target [] k at ≡ at
unfolding steps step first_sailed landed
steps_end gate target zero at = refl
steps_end gate target (suc k) at =
    ap (steps gate target [] k) (ifb (λ b. cond b at at ≡ at) (eqb at.stop target) (λ _. refl) (λ _. refl)) ∙ steps_end gate target k at

-- as many landings as there are rides go the whole course, and more of them go no further
pub steps_course :
    (gate target : ℕ) (sailed : List Sailed) → AllTimed target (rides_sailed sailed) → (k : ℕ) → length sailed ≤ k → (at : Standing)
    → steps gate target sailed k at ≡ course gate sailed at
unfolding course
steps_course gate target [] timed k enough at = steps_end gate target k at
steps_course gate target (s ∷ sailed) (one timed rest) zero enough at = absurd (let z : ⊥ = omega arith in z)
steps_course gate target (s ∷ sailed) (one timed rest) (suc k) enough at =
    ifb (λ b. steps gate target (s ∷ sailed) (suc k) at ≡ cond b (course gate sailed (landed at (some s))) (course gate sailed at))
    (boards s.ride at.stop (ready gate at.minute))
    (λ opens. steps_board gate target s sailed timed rest k at opens ∙ steps_course gate target sailed rest k (omega arith) (landed at (some s)))
    (λ shut. steps_shut gate target s sailed timed rest (suc k) at shut ∙ steps_course gate target sailed rest (suc k) (omega arith) at)
