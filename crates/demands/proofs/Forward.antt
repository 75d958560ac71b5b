-- A plan as a list by boarding row rising: departures never fall along it, and what a ride leads to stands behind it. Assumes nothing.
use Prim.Native.Nat.{ℕ, pred, ◌+◌, ◌≤◌, ◌<◌}
use mathlib.Core.Bool.{false, false≢true}
use mathlib.Core.List.{List, [], ◌∷◌, Memᴰ}
use mathlib.Core.Logic.{◌≢◌}
use mathlib.Core.Path.{◌≡◌, sym, ◌∙◌, ap, subst}
use native.Mathlib.Omega.{arith}
use lib.Dec.{T}
use lib.ListN.{length}
use Rattle.laws.proofs.Tests.{T_true, true_T}
use Rattle.timetable.specs.Classes.{sum, share_total}
use Rattle.plans.specs.Rides.{Ride, lands_by, ready, boards}
use Rattle.plans.proofs.Open.{boards_earlier}

-- one ride, and the rides behind it
pub record Timed (target : ℕ) (r : Ride) (behind : List Ride) : Type 0 where
  pub off_target : r.from ≢ target
  pub forward : r.departs < r.arrives
  pub full : sum r.shares ≡ share_total
  pub in_order : (next : Ride) → Memᴰ next behind → r.departs ≤ next.departs

pub data AllTimed (target : ℕ) : List Ride → Type 0 where
  none : AllTimed target []
  one : {r : Ride} {behind : List Ride} → Timed target r behind → AllTimed target behind → AllTimed target (r ∷ behind)

-- one boards at this stop at or after this minute, or it is the target
pub data Served (target : ℕ) (rides : List Ride) (stop minute : ℕ) : Type 0 where
  over : stop ≡ target → Served target rides stop minute
  onward : (next : Ride) → Memᴰ next rides → T (boards next stop minute) → Served target rides stop minute

-- each ride goes on from when its latest landing is ready, or ends at the target
pub data Forward (gate target : ℕ) : List Ride → Type 0 where
  none : Forward gate target []
  one :
      {r : Ride} {behind : List Ride} → Timed target r behind → Served target behind r.to (ready gate (lands_by r)) → Forward gate target behind
      → Forward gate target (r ∷ behind)

pub forward_timed : {gate target : ℕ} {rides : List Ride} → Forward gate target rides → AllTimed target rides
forward_timed none = none
forward_timed (one timed goes_on rest) = one timed (forward_timed rest)

-- one who is served at a minute is served at an earlier one
pub served_sooner :
    {target : ℕ} {rides : List Ride} {stop minute : ℕ} (soon : ℕ) → soon ≤ minute → Served target rides stop minute
    → Served target rides stop soon
served_sooner soon before (over there) = over there
served_sooner {stop = stop} {minute = minute} soon before (onward next among opened) =
    onward next among (true_T (boards_earlier next stop minute soon before (T_true opened)))

pub served_behind :
    {target : ℕ} {r : Ride} {behind : List Ride} {stop minute : ℕ} → boards r stop minute ≡ false → Served target (r ∷ behind) stop minute
    → Served target behind stop minute
served_behind shut (over there) = over there
served_behind {r = r} {stop = stop} {minute = minute} shut (onward next (Memᴰ.head same) opens) =
    absurd (false≢true (sym shut ∙ ap (λ x. boards x stop minute) (sym same) ∙ T_true opens))
served_behind shut (onward next (Memᴰ.tail among) opens) = onward next among opens

-- a landing within the ride's delays is no later than a + M
pub landing_latest : (r : Ride) (minute : ℕ) → r.arrives ≤ minute → minute < r.arrives + length r.shares → minute ≤ lands_by r
landing_latest r minute = up_to r.arrives minute (length r.shares)
  where
    up_to : (a m n : ℕ) → a ≤ m → m < a + n → m ≤ a + pred n
    up_to a m n from below = omega arith

pub delay_latest : (r : Ride) (v : ℕ) → v < length r.shares → r.arrives + v ≤ lands_by r
delay_latest r v within = landing_latest r (r.arrives + v) (omega arith) (omega arith)

pub rides_forward : {target : ℕ} {rides : List Ride} → AllTimed target rides → (r : Ride) → Memᴰ r rides → r.departs < r.arrives
rides_forward {target = target} none r m = elim m [ ]
rides_forward (one timed rest) r (Memᴰ.head same) = subst (λ (x : Ride). x.departs < x.arrives) (sym same) timed.forward
rides_forward (one timed rest) r (Memᴰ.tail among) = rides_forward rest r among
