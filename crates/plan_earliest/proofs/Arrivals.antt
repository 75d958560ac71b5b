-- One can be at the target by a minute exactly if a safe journey ends then. Assumes that source and target differ.
use Prim.Native.Nat.{ℕ, ◌≤◌}
use mathlib.Core.Logic.{◌≢◌}
use mathlib.Core.Path.{◌≡◌, refl, sym, subst}
use Rattle.laws.proofs.Tests.{T_true, true_T}
use Rattle.timetable.specs.Timetable.{Timetable}
use Rattle.query.specs.declared.Query.{Query}
use Rattle.plans.specs.Rides.{Ride, lands_by, ready}
use Rattle.plans.specs.Journeys.{Onward, leaves, changes, Journey, ready_at}
use Rattle.plans.proofs.Open.{boards_stop, boards_minute, can_board}
use Rattle.plan_earliest.specs.Reached.{Reached, sets_out, rides}

module _ (t : Timetable) (q : Query) where
  abbrev There : ℕ → ℕ → Type 0
  There s m = Reached t q.gate q.source q.minute s m

  -- who can board the first ride of what is left of a journey gets to its end
  onward_reached : {r : Ride} {m end : ℕ} → There r.from m → ready q.gate m ≤ r.departs → Onward t q.gate q.target r end → There q.target end
  onward_reached here since (leaves {r} is e) = subst (λ s. There s (lands_by r)) e (rides here since is)
  onward_reached here since (changes {r} {next} is b on) =
      onward_reached (subst (λ s. There s (lands_by r)) (sym (boards_stop next r.to (ready q.gate (lands_by r)) (T_true b))) (rides here since is))
      (boards_minute next r.to (ready q.gate (lands_by r)) (T_true b)) on

  pub journey_reached : {end : ℕ} → Journey t q end → Reached t q.gate q.source q.minute q.target end
  journey_reached j =
      onward_reached
      (subst (λ s. There s q.minute) (sym (boards_stop j.first q.source (ready_at q) (T_true j.in_time))) sets_out)
      (boards_minute j.first q.source (ready_at q) (T_true j.in_time)) j.onward

  -- what goes on from a stop where one can be is the rest of a journey
  reached_onward :
      {s m : ℕ} → There s m → (r : Ride) → r.from ≡ s → ready q.gate m ≤ r.departs → {end : ℕ} → Onward t q.gate q.target r end → Journey t q end
  reached_onward sets_out r there late on =
      record { first = r; in_time = true_T (can_board r q.source (ready_at q) there late); onward = on }
  reached_onward (rides {r = earlier} here since is) r there late on =
      reached_onward here earlier refl since
      (changes {next = r} is (true_T (can_board r earlier.to (ready q.gate (lands_by earlier)) there late)) on)

  pub reached_journey : q.source ≢ q.target → {s m : ℕ} → Reached t q.gate q.source q.minute s m → s ≡ q.target → Journey t q m
  reached_journey apart sets_out e = absurd (apart e)
  reached_journey apart (rides {r} here since is) e = reached_onward here r refl since (leaves is e)
