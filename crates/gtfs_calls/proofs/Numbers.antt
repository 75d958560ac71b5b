-- The ids of the calls read so far are all different, and the one that appears is known from then on. Assumes nothing.
use Prim.Native.Nat.{ℕ, ◌<◌}
use mathlib.Core.List.{List, [], ◌∷◌}
use native.Mathlib.Omega.{arith}
use lib.ListN.{length}
use Rattle.gtfs_ids.specs.Ids.{number_of, with_id, Different}
use Rattle.gtfs_ids.proofs.Numbering.{length_known, length_new, known_or_new, number_with}
use Rattle.gtfs_ids.proofs.Different.{none_different, with_different}
use Rattle.gtfs_stop_time.specs.StopTime.{StopTime}
use Rattle.gtfs_calls.specs.Calls.{trips_of}

pub trips_different : (back : List StopTime) → Different (trips_of back)
unfolding trips_of
trips_different [] = none_different
trips_different (call ∷ back) = with_different (trips_of back) call.trip (trips_different back)

pub own_known : (ids : List (List ℕ)) (id : List ℕ) → number_of (with_id ids id) id < length (with_id ids id)
own_known ids id =
    known_or_new (number_of (with_id ids id) id < length (with_id ids id)) ids id
    (λ old. omega (arith, number_with ids id, length_known ids id old))
    (λ fresh. omega (arith, number_with ids id, length_new ids id fresh))
