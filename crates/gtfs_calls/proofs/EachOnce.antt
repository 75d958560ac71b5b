-- There are as many pairs of neighbouring calls as calls that are not the first of their trip. Assumes nothing.
use Prim.Native.Nat.{ℕ, suc, ◌+◌}
use mathlib.Core.List.{List, [], ◌∷◌}
use mathlib.Core.Option.{none}
use mathlib.Core.Path.{◌≡◌, refl, sym, ap, ◌∙◌}
use native.Mathlib.Omega.{arith}
use lib.ListN.{length, length-append}
use Rattle.laws.proofs.Options.{absent, present_or_absent}
use Rattle.gtfs_ids.specs.Ids.{number_of, with_id}
use Rattle.gtfs_ids.proofs.Numbering.{either_way, length_known, length_new, known_or_new}
use Rattle.gtfs_stop_time.specs.StopTime.{StopTime}
use Rattle.gtfs_calls.specs.Calls.{trips_of, last_call}
use Rattle.gtfs_calls.specs.Neighbours.{pair_behind, neighbours}
use Rattle.gtfs_calls.proofs.LastCalls.{last_own, last_other, last_none}
use Rattle.gtfs_calls.proofs.Appearance.{still_new}

-- a trip that has no call yet is new
pub none_new : (trip : List ℕ) (back : List StopTime) → last_call trip back ≡ none → number_of (trips_of back) trip ≡ length (trips_of back)
unfolding trips_of number_of
none_new trip [] e = refl
none_new trip (call ∷ back) e =
    either_way (number_of (trips_of (call ∷ back)) trip ≡ length (trips_of (call ∷ back))) call.trip trip
    (λ own. absent (sym e ∙ last_own trip call back own))
    (λ other. still_new (trips_of back) call.trip trip other (none_new trip back (sym (last_other trip call back other) ∙ e)))

-- a call whose trip is new adds an id and no pair, and any other a pair and no id
one_more : (call : StopTime) (back : List StopTime)
    → length (pair_behind (last_call call.trip back) call) + length (trips_of (call ∷ back)) ≡ suc (length (trips_of back))
unfolding trips_of pair_behind
one_more call back =
    let ids = trips_of back in
    known_or_new (length (pair_behind (last_call call.trip back) call) + length (with_id ids call.trip) ≡ suc (length ids)) ids call.trip
    (λ known. present_or_absent (length (pair_behind (last_call call.trip back) call) + length (with_id ids call.trip) ≡ suc (length ids))
    (last_call call.trip back)
    (λ nothing. absurd (let z : ⊥ = omega (arith, none_new call.trip back nothing) in z))
    (λ previous e. ap (λ o. length (pair_behind o call) + length (with_id ids call.trip)) e ∙ omega (arith, length_known ids call.trip known)))
    (λ new. ap (λ o. length (pair_behind o call) + length (with_id ids call.trip)) (last_none call.trip back new)
    ∙ omega (arith, length_new ids call.trip new))

-- every call is the first of its trip or ends one pair
pub each_once : (calls : List StopTime) → length (neighbours calls) + length (trips_of calls) ≡ length calls
unfolding neighbours trips_of
each_once [] = refl
each_once (call ∷ back) =
    let pairs = pair_behind (last_call call.trip back) call in
    omega (arith, length-append (neighbours back) pairs, one_more call back, each_once back)
