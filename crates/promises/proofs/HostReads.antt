-- A plan's bytes, read as a host reads them, are its numbers. Assumes nothing.
use Prim.Native.Nat.{ℕ, suc, ◌+◌, ◌-◌, ◌*◌, ◌≤◌, ◌<◌}
use native.Mathlib.Omega.{arith}
use mathlib.Core.List.{List, [], ◌∷◌, ◌++◌, Memᴰ}
use mathlib.Core.Path.{◌≡◌, refl, ap, ap₂, ◌∙◌}
use lib.ListN.{length}
use Rattle.numbers.specs.Numbers.{u16_at, u32_at, u16_bytes, u32_bytes}
use Rattle.numbers.proofs.Bytes.{u32_value}
use Rattle.plans.specs.Rides.{Ride}
use Rattle.plans.specs.Worth.{Valued}
use Rattle.demands.specs.SafePlan.{ByBoardingRow, no_rides, before_all}
use Rattle.plan_slice.specs.Slice.{written}
use Rattle.sayurimpak.specs.Desk.{ride_bytes, plan_bytes}
use Rattle.sayurimpak.specs.Host.{numbers_in, NumbersFit}

pub host_reads : (rides : List Valued) (rest : List ℕ) → ((v : Valued) → Memᴰ v rides → NumbersFit v)
    → numbers_in (3 * length rides) (plan_bytes rides ++ rest) ≡ written rides
unfolding numbers_in plan_bytes ride_bytes u32_bytes u16_bytes u32_at u16_at written
host_reads [] rest fits = refl
host_reads (v ∷ rides) rest fits =
    let own = fits v (Memᴰ.head refl) in
    let three : 3 * suc (length rides) ≡ suc (suc (suc (3 * length rides))) = omega arith in
    ap (λ k. numbers_in k (plan_bytes (v ∷ rides) ++ rest)) three
    ∙ ap₂ ◌∷◌ (u32_value v.ride.board own.board)
    (ap₂ ◌∷◌ (u32_value v.ride.leave own.leave)
    (ap₂ ◌∷◌ (u32_value v.worth own.worth) (host_reads rides rest (λ u m. fits u (Memᴰ.tail m)))))

-- 12 bytes a ride
pub length_bytes : (rides : List Valued) → length (plan_bytes rides) ≡ 12 * length rides
unfolding plan_bytes ride_bytes u32_bytes u16_bytes
length_bytes [] = refl
length_bytes (v ∷ rides) = omega (arith, length_bytes rides)

-- rides by boarding row, of rows from k to before n, are at most n − k
pub few_rides : {rides : List Ride} → ByBoardingRow rides → (k n : ℕ) → ((r : Ride) → Memᴰ r rides → (k ≤ r.board) × (r.board < n))
    → length rides ≤ n - k
few_rides no_rides k n each = let z : 0 ≤ n - k = omega arith in z
few_rides (before_all {r} {rides} before rest) k n each =
    let own = each r (Memᴰ.head refl) in
    let later = few_rides rest (suc r.board) n (λ x m. (before x m, (each x (Memᴰ.tail m)).1)) in
    let z : suc (length rides) ≤ n - k = omega (arith, own.0, own.1, later) in z

-- rides of which one is known are at least one
pub some_rides : {rides : List Valued} {v : Valued} → Memᴰ v rides → 1 ≤ length rides
some_rides (Memᴰ.head e) = omega arith
some_rides (Memᴰ.tail m) = omega arith
