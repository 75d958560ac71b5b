-- Whatever the delays, a ride is always there until the target is reached, by the latest minute. Assumes nothing.
use Prim.Native.Nat.{ℕ, zero, suc, ◌+◌, ◌≤◌, ◌<◌}
use mathlib.Core.Bool.{true, cond, false≢true}
use mathlib.Core.List.Memᴰ
use mathlib.Core.List.{List, [], ◌∷◌, Memᴰ}
use mathlib.Core.Logic.{◌≢◌}
use mathlib.Core.Option.{Option, none, some}
use mathlib.Core.Path.{◌≡◌, refl, sym, ◌∙◌, ap}
use native.Mathlib.Nat.{le_trans}
use native.Mathlib.Omega.{arith}
use lib.Dec.{eqb}
use lib.ListN.{length}
use Rattle.laws.proofs.Tests.{ifb, T_true}
use Rattle.plans.specs.Rides.{Ride, boards, lands_by, ready}
use Rattle.demands.specs.Walk.{Sailed, Standing, first_sailed, landed, step, steps}
use Rattle.demands.proofs.Forward.{Served, over, onward, Forward, served_sooner, served_behind, delay_latest}
use Rattle.demands.proofs.Course.{rides_sailed, course, found_sailed, steps_keep}

-- delays from 0 to M
abbrev pub InRange : List Sailed → Type 0
InRange sailed = (s : Sailed) → Memᴰ s sailed → s.delay < length s.ride.shares

-- the course ends at the target
pub course_reaches :
    (gate target : ℕ) (sailed : List Sailed) → Forward gate target (rides_sailed sailed) → InRange sailed → (at : Standing)
    → Served target (rides_sailed sailed) at.stop (ready gate at.minute) → (course gate sailed at).stop ≡ target
unfolding course landed
course_reaches gate target [] forward ranged at (over there) = there
course_reaches gate target [] forward ranged at (onward next among opens) = absurd (Memᴰ.not-nil among)
course_reaches gate target (s ∷ sailed) (Forward.one timed goes_on rest) ranged at served =
    ifb (λ b. (cond b (course gate sailed (landed at (some s))) (course gate sailed at)).stop ≡ target)
    (boards s.ride at.stop (ready gate at.minute))
    (λ opens.
    course_reaches gate target sailed rest behind (landed at (some s))
    (served_sooner (ready gate (s.ride.arrives + s.delay)) (omega (arith, delay_latest s.ride s.delay (ranged s (Memᴰ.head refl)))) goes_on))
    (λ shut. course_reaches gate target sailed rest behind at (served_behind shut served))
  where
    behind : InRange sailed
    behind u there = ranged u (Memᴰ.tail there)

-- wherever one lands in the plan, one is served
pub steps_served :
    (gate target : ℕ) (sailed : List Sailed) → InRange sailed
    → ((r : Ride) → Memᴰ r (rides_sailed sailed) → Served target (rides_sailed sailed) r.to (ready gate (lands_by r))) → (k : ℕ) (at : Standing)
    → Served target (rides_sailed sailed) at.stop (ready gate at.minute)
    → Served target (rides_sailed sailed) (steps gate target sailed k at).stop (ready gate (steps gate target sailed k at).minute)
unfolding landed
steps_served gate target sailed ranged goes_on =
    steps_keep (λ at. Served target (rides_sailed sailed) at.stop (ready gate at.minute)) gate target sailed lands
  where
    lands :
        (at : Standing) (s : Sailed) → Served target (rides_sailed sailed) at.stop (ready gate at.minute)
        → first_sailed sailed at.stop (ready gate at.minute) ≡ some s
        → Served target (rides_sailed sailed) (landed at (some s)).stop (ready gate (landed at (some s)).minute)
    lands at s served found =
        let there = (found_sailed sailed at.stop (ready gate at.minute) found).0 in
        served_sooner (ready gate (s.ride.arrives + s.delay)) (omega (arith, delay_latest s.ride s.delay (ranged s there)))
        (goes_on s.ride (Memᴰ.map (λ x. x.ride) there))

-- one who is served away from the target finds a ride
find :
    (sailed : List Sailed) (stop minute : ℕ) (next : Ride) → Memᴰ next (rides_sailed sailed) → boards next stop minute ≡ true
    → (s : Sailed) × (first_sailed sailed stop minute ≡ some s)
unfolding first_sailed
find [] stop minute next among opens = absurd (Memᴰ.not-nil among)
find (u ∷ sailed) stop minute next (Memᴰ.head same) opens =
    ifb (λ b. boards u.ride stop minute ≡ b → (s : Sailed) × (cond b (some u) (first_sailed sailed stop minute) ≡ some s))
    (boards u.ride stop minute) (λ here _. (u, refl))
    (λ shut _. absurd (false≢true (sym shut ∙ ap (λ x. boards x stop minute) (sym same) ∙ opens))) refl
find (u ∷ sailed) stop minute next (Memᴰ.tail among) opens =
    ifb (λ b. (s : Sailed) × (cond b (some u) (first_sailed sailed stop minute) ≡ some s)) (boards u.ride stop minute)
    (λ here. (u, refl)) (λ shut. find sailed stop minute next among opens)

pub served_finds :
    {target : ℕ} (sailed : List Sailed) (stop minute : ℕ) → Served target (rides_sailed sailed) stop minute → stop ≢ target
    → (s : Sailed) × (first_sailed sailed stop minute ≡ some s)
served_finds sailed stop minute (over there) elsewhere = absurd (elsewhere there)
served_finds sailed stop minute (onward next among opens) elsewhere = find sailed stop minute next among (T_true opens)

-- nobody lands later than the latest minute
pub steps_in_time :
    (gate target last : ℕ) (sailed : List Sailed) → InRange sailed → ((r : Ride) → Memᴰ r (rides_sailed sailed) → lands_by r ≤ last)
    → (k : ℕ) (at : Standing) → at.minute ≤ last → (steps gate target sailed k at).minute ≤ last
unfolding landed
steps_in_time gate target last sailed ranged by_last = steps_keep (λ at. at.minute ≤ last) gate target sailed lands
  where
    lands :
        (at : Standing) (s : Sailed) → at.minute ≤ last → first_sailed sailed at.stop (ready gate at.minute) ≡ some s
        → (landed at (some s)).minute ≤ last
    lands at s before found =
        let there = (found_sailed sailed at.stop (ready gate at.minute) found).0 in
        le_trans (delay_latest s.ride s.delay (ranged s there)) (by_last s.ride (Memᴰ.map (λ x. x.ride) there))

-- a landing boards one ride at most
pub steps_count :
    (gate target : ℕ) (sailed : List Sailed) (k : ℕ) (at : Standing) → (steps gate target sailed k at).boarded ≤ at.boarded + k
unfolding steps step landed
steps_count gate target sailed zero at = omega arith
steps_count gate target sailed (suc k) at =
    omega (arith, steps_count gate target sailed k (step gate target sailed at), one_more)
  where
    go : (o : Option Sailed) → (landed at o).boarded ≤ suc at.boarded
    go none = omega arith
    go (some s) = omega arith

    one_more : (step gate target sailed at).boarded ≤ suc at.boarded
    one_more =
        ifb (λ b. (cond b at (landed at (first_sailed sailed at.stop (ready gate at.minute)))).boarded ≤ suc at.boarded)
        (eqb at.stop target) (λ there. omega arith) (λ onward. go (first_sailed sailed at.stop (ready gate at.minute)))
