-- The last call of a trip: none before the trip appears, and then the call that was read last. Assumes nothing.
use Prim.Native.Nat.{ℕ, ◌<◌, ◌≤◌}
use mathlib.Core.Bool.{true, false}
use mathlib.Core.List.{List, [], ◌∷◌}
use mathlib.Core.Option.{Option, none, some}
use mathlib.Core.Path.{◌≡◌, refl, sym, ap, subst, ◌∙◌}
use native.Mathlib.Omega.{arith}
use lib.ListN.{length, get_or}
use Rattle.laws.proofs.Tests.{ifb, cond_true, cond_false}
use Rattle.text.specs.Same.{same_bytes}
use Rattle.text.proofs.Same.{same_equal, equal_same}
use Rattle.gtfs_ids.specs.Ids.{number_of, with_id}
use Rattle.gtfs_ids.proofs.Numbering.{number_within, number_kept, known_or_new, length_with}
use Rattle.gtfs_stop_time.specs.StopTime.{StopTime}
use Rattle.gtfs_calls.specs.Calls.{trips_of, last_call}
use Rattle.gtfs_calls.proofs.Numbers.{own_known}

-- a call of the trip is its last one
pub last_own : (trip : List ℕ) (call : StopTime) (back : List StopTime) → call.trip ≡ trip → last_call trip (call ∷ back) ≡ some call
unfolding last_call
last_own trip call back own = cond_true (some call) (last_call trip back) (equal_same call.trip trip own)

-- a call of another trip changes nothing
pub last_other : (trip : List ℕ) (call : StopTime) (back : List StopTime) → (call.trip ≡ trip → ⊥) → last_call trip (call ∷ back) ≡ last_call trip back
unfolding last_call
last_other trip call back other =
    ifb (λ b. same_bytes call.trip trip ≡ b → last_call trip (call ∷ back) ≡ last_call trip back) (same_bytes call.trip trip)
    (λ same _. absurd (other (same_equal call.trip trip same)))
    (λ _ e. cond_false (some call) (last_call trip back) e) refl

-- a trip that is new has no call yet
pub last_none : (trip : List ℕ) (back : List StopTime) → number_of (trips_of back) trip ≡ length (trips_of back) → last_call trip back ≡ none
unfolding trips_of last_call
last_none trip [] new = refl
last_none trip (call ∷ back) new =
    let ids = trips_of back in
    last_other trip call back other ∙ last_none trip back
    (known_or_new (number_of ids trip ≡ length ids) ids trip
    (λ known. absurd (let z : ⊥ = omega (arith, number_kept ids call.trip trip known, length_with ids call.trip) in z))
    (λ still. still))
  where
    other : call.trip ≡ trip → ⊥
    other same =
        let own = own_known (trips_of back) call.trip in
        let z : number_of (with_id (trips_of back) call.trip) trip < length (with_id (trips_of back) call.trip) =
        subst (λ t. number_of (with_id (trips_of back) call.trip) t < length (with_id (trips_of back) call.trip)) same own
        in
        omega arith
