-- A ride that a course comes upon and boards is boarded by the walk. Assumes nothing.
use Prim.Native.Nat.{ℕ, suc, ◌+◌, ◌≤◌}
use mathlib.Core.Bool.{true, false, false≢true}
use mathlib.Core.List.Memᴰ
use mathlib.Core.List.{List, [], ◌∷◌, Memᴰ}
use mathlib.Core.Logic.{◌≢◌}
use mathlib.Core.Option.{some}
use mathlib.Core.Path.{◌≡◌, refl, sym, ◌∙◌, ap, subst}
use native.Mathlib.Omega.{arith}
use Rattle.laws.proofs.Tests.{ifb, cond_true, cond_false}
use Rattle.plans.specs.Rides.{Ride, ready, boards}
use Rattle.demands.specs.Walk.{Sailed, Standing, first_sailed, landed, steps, Boards}
use Rattle.plans.proofs.Open.{boards_stop, boards_earlier, too_late}
use Rattle.demands.proofs.Forward.{Timed, AllTimed, one}
use Rattle.demands.proofs.Course.{rides_sailed, found_sailed, steps_keep, steps_board, steps_shut, lands_later}

-- going through the rides in turn, ready at a stop at a minute, one boards r
pub data Meets (gate : ℕ) (r : Ride) : List Sailed → (stop minute : ℕ) → Type 0 where
  here :
      {s : Sailed} {sailed : List Sailed} {stop minute : ℕ} → s.ride ≡ r → boards s.ride stop minute ≡ true
      → Meets gate r (s ∷ sailed) stop minute
  lands :
      {s : Sailed} {sailed : List Sailed} {stop minute : ℕ} → boards s.ride stop minute ≡ true
      → Meets gate r sailed s.ride.to (ready gate (s.ride.arrives + s.delay)) → Meets gate r (s ∷ sailed) stop minute
  passes :
      {s : Sailed} {sailed : List Sailed} {stop minute : ℕ} → boards s.ride stop minute ≡ false → Meets gate r sailed stop minute
      → Meets gate r (s ∷ sailed) stop minute

-- one who comes sooner boards the same, if nothing more can be boarded then
pub meets_sooner :
    {gate : ℕ} {r : Ride} {sailed : List Sailed} {stop minute : ℕ} (soon : ℕ) → soon ≤ minute
    → ((s : Sailed) → Memᴰ s sailed → boards s.ride stop soon ≡ true → boards s.ride stop minute ≡ true)
    → Meets gate r sailed stop minute → Meets gate r sailed stop soon
meets_sooner {stop = stop} {minute = minute} soon before same (here {s = s} is opens) =
    here is (boards_earlier s.ride stop minute soon before opens)
meets_sooner {stop = stop} {minute = minute} soon before same (lands {s = s} opens onward) =
    lands (boards_earlier s.ride stop minute soon before opens) onward
meets_sooner {r = r} {stop = stop} {minute = minute} soon before same (passes {s = s} {sailed = sailed} shut onward) =
    passes still (meets_sooner soon before (λ u there. same u (Memᴰ.tail there)) onward)
  where
    still : boards s.ride stop soon ≡ false
    still =
        ifb (λ b. boards s.ride stop soon ≡ b → b ≡ false) (boards s.ride stop soon)
        (λ _ opens. absurd (false≢true (sym shut ∙ same s (Memᴰ.head refl) opens))) (λ _ _. refl) refl

-- the ride that was first is first in the longer list, where its head can't be boarded
later_boards :
    (gate target : ℕ) (s : Sailed) (sailed : List Sailed) → Timed target s.ride (rides_sailed sailed) → AllTimed target (rides_sailed sailed)
    → (at next : Standing) → boards s.ride next.stop (ready gate next.minute) ≡ false → (more : ℕ → ℕ)
    → ((k : ℕ) → steps gate target (s ∷ sailed) (more k) at ≡ steps gate target sailed k next) → {r : Ride} → Boards gate target sailed next r
    → Boards gate target (s ∷ sailed) at r
unfolding first_sailed landed
later_boards gate target s sailed timed rest at next shut more same {r} b =
    record {
      landings = more b.landings;
      delay = b.delay;
      short = subst (λ (x : Standing). x.stop ≢ target) (sym (same b.landings)) b.short;
      first =
          ap (λ x. first_sailed (s ∷ sailed) x.stop (ready gate x.minute)) (same b.landings)
          ∙ cond_false (some s) (first_sailed sailed then.stop (ready gate then.minute)) still_shut ∙ b.first;
    }
  where
    then : Standing
    then = steps gate target sailed b.landings next

    Shut : Standing → Type 0
    Shut x = boards s.ride x.stop (ready gate x.minute) ≡ false

    landing : (x : Standing) (u : Sailed) → Shut x → first_sailed sailed x.stop (ready gate x.minute) ≡ some u → Shut (landed x (some u))
    landing x u _ found =
        too_late s.ride u.ride.to (ready gate (u.ride.arrives + u.delay))
        (omega (
          arith,
          lands_later timed rest u.ride (Memᴰ.map (λ x. x.ride) (found_sailed sailed x.stop (ready gate x.minute) found).0),
        ))

    still_shut : Shut then
    still_shut = steps_keep Shut gate target sailed landing b.landings next shut

pub meets_boards :
    (gate target : ℕ) {r : Ride} (sailed : List Sailed) → AllTimed target (rides_sailed sailed) → (at : Standing) → Meets gate r sailed at.stop (ready gate at.minute)
    → Boards gate target sailed at r
unfolding first_sailed steps landed
meets_boards gate target {r = r} [] timed at m = elim m [ ]
meets_boards gate target {r} (s ∷ sailed) (one timed rest) at (here is opens) =
    record {
      landings = 0;
      delay = s.delay;
      short = λ there. timed.off_target (boards_stop s.ride at.stop (ready gate at.minute) opens ∙ there);
      first =
          cond_true (some s) (first_sailed sailed at.stop (ready gate at.minute)) opens
          ∙ ap (λ x. some (record { ride = x; delay = s.delay })) is;
    }
meets_boards gate target (s ∷ sailed) (one timed rest) at (lands opens onward) =
    later_boards gate target s sailed timed rest at (landed at (some s))
    (too_late s.ride s.ride.to (ready gate (s.ride.arrives + s.delay)) (omega (arith, timed.forward))) suc
    (λ k. steps_board gate target s sailed timed rest k at opens) (meets_boards gate target sailed rest (landed at (some s)) onward)
meets_boards gate target (s ∷ sailed) (one timed rest) at (passes shut onward) =
    later_boards gate target s sailed timed rest at at shut (λ k. k) (λ k. steps_shut gate target s sailed timed rest k at shut)
    (meets_boards gate target sailed rest at onward)
