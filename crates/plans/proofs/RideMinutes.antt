-- A ride's minutes, and that what is boarded after it stands behind it. Uses rising departures and rows that arrive after they depart.
use Prim.Native.Nat.{ℕ, suc, pred, ◌+◌, ◌-◌, ◌≤◌, ◌<◌}
use native.Mathlib.Nat.{lt_of_not-le}
use native.Mathlib.Omega.{arith}
use mathlib.Core.Bool.{true}
use mathlib.Core.List.{List, [], ◌∷◌}
use mathlib.Core.Logic.{◌≢◌}
use mathlib.Core.Path.{◌≡◌, sym, ap, subst, ◌∙◌}
use lib.ListN.{length}
use Rattle.timetable.specs.Timetable.{Timetable, row_of, maximum_delay}
use Rattle.timetable.specs.Classes.{sum, share_total}
use Rattle.plans.specs.Sound.{Timely}
use Rattle.plans.specs.Rides.{Ride, IsRide, boards}
use Rattle.plans.specs.Worth.{first_open}
use Rattle.plans.specs.Chosen.{Aim}
use Rattle.plans.proofs.Open.{boards_stop, boards_minute}
use Rattle.plans.proofs.AtMost.{AtMost, raised, found_at_most}
use Rattle.plans.specs.FromRow.{chosen_from, best_at}
use Rattle.plans.proofs.BestRides.{best_boards}
use Rattle.plans.proofs.FirstLeast.{first_least}

-- shares that sum to something are not empty
pub shares_stand : (shares : List ℕ) → sum shares ≡ share_total → length shares ≡ suc (maximum_delay shares)
unfolding sum
shares_stand [] e = absurd (let z : ⊥ = omega arith in z)
shares_stand (p ∷ shares) e = let z : suc (length shares) ≡ suc (pred (suc (length shares))) = omega arith in z

module _ (t : Timetable) (timely : Timely t) where
  pub ride_shares : (r : Ride) → IsRide t r → sum r.shares ≡ share_total
  ride_shares r is = ap (λ (x : Ride). sum x.shares) is.as_timed ∙ timely.shared r.leave is.inside

  pub ride_delays : (r : Ride) → IsRide t r → length r.shares ≡ suc (maximum_delay r.shares)
  ride_delays r is = shares_stand r.shares (ride_shares r is)

  pub leaves_before : (r : Ride) → IsRide t r → (row_of t.rows r.leave).departure < r.arrives
  leaves_before r is = subst (λ k. (row_of t.rows r.leave).departure < k) (sym (ap (λ (x : Ride). x.arrives) is.as_timed))
      (timely.forward r.leave is.inside)

  pub departs_before : (r : Ride) → IsRide t r → r.departs < r.arrives
  departs_before r is =
      let a : r.departs ≡ (row_of t.rows r.board).departure = ap (λ (x : Ride). x.departs) is.as_timed in
      omega (arith, timely.rising r.board r.leave is.onward is.inside, leaves_before r is)

  -- what departs no earlier than a ride arrives stands behind the row where it leaves
  pub boards_behind : (r next : Ride) → IsRide t r → IsRide t next → r.arrives ≤ next.departs → r.leave < next.board
  boards_behind r next is is' late =
      lt_of_not-le (λ h. let a : next.departs ≡ (row_of t.rows next.board).departure = ap (λ (x : Ride). x.departs) is'.as_timed in
      let z : ⊥ = omega (arith, timely.rising next.board r.leave h is.inside, leaves_before r is) in z)

  pub board_inside : (r : Ride) → IsRide t r → r.board < length t.rows
  board_inside r is = omega (arith, is.onward, is.inside)

  module _ (aim : Aim) where
    -- who can board a ride finds a first chosen row that is worth less than the margin more than the ride's boarding row
    pub ride_first :
        (i : ℕ) (r : Ride) → IsRide t r → i ≤ r.board → (s m w : ℕ) → boards r s m ≡ true → s ≢ aim.target → AtMost (best_at aim t r.board) w
        → AtMost (first_open (chosen_from aim t i) s m) (w + (aim.margin - 1))
    ride_first i r is here s m w b elsewhere best =
        found_at_most (AtMost (first_open (chosen_from aim t i) s m) (w + (aim.margin - 1))) best
        (λ v e h. let at = best_boards aim t r.board (board_inside r is) v e in
        let there : v.ride.from ≡ s = at.stop ∙ sym (ap (λ (x : Ride). x.from) is.as_timed) ∙ boards_stop r s m b in
        let then : v.ride.departs ≡ r.departs = at.minute ∙ sym (ap (λ (x : Ride). x.departs) is.as_timed) in
        raised (subst (λ k. AtMost (first_open (chosen_from aim t i) k m) (v.worth + (aim.margin - 1))) there
        (first_least aim t timely i (let z : i ≤ length t.rows = omega (arith, board_inside r is) in z) r.board here
        (board_inside r is) v e
        (λ q. elsewhere (sym there ∙ q)) m (let z : m ≤ v.ride.departs = omega (arith, boards_minute r s m b) in z))) (omega arith))
