-- In a text without a fault no pair of neighbouring calls is read twice. Assumes nothing.
use Prim.Native.Nat.{ℕ, ◌<◌}
use mathlib.Core.List.Memᴰ
use mathlib.Core.List.{List, [], ◌∷◌, ◌++◌, append-nil, Memᴰ}
use mathlib.Core.Logic.{⊎_elim}
use mathlib.Core.Option.{Option, none, some}
use mathlib.Core.Path.{◌≡◌, refl, sym, ap, subst⁻¹}
use native.Mathlib.Omega.{arith}
use Rattle.gtfs_stop_time.specs.StopTime.{StopTime}
use Rattle.gtfs_calls.specs.Calls.{last_call}
use Rattle.gtfs_calls.specs.Reading.{said, stop_times}
use Rattle.gtfs_calls.specs.Neighbours.{Pair, pair_behind, neighbours, NoneTwice, no_pair, one_pair_more, Rising}
use Rattle.gtfs_calls.proofs.Neighbours.{pair_members}
use Rattle.gtfs_calls.proofs.Rising.{text_rising}

none_twice_with : (pairs : List Pair) (pair : Pair) → NoneTwice pairs → (Memᴰ pair pairs → ⊥) → NoneTwice (pairs ++ (pair ∷ []))
none_twice_with [] pair no_pair new = one_pair_more (λ m. Memᴰ.not-nil m) no_pair
none_twice_with (first ∷ pairs) pair (one_pair_more apart others) new =
    one_pair_more
    (λ m. ⊎_elim apart (λ there. new (Memᴰ.head (sym (Memᴰ.eq_of_singleton there)))) (Memᴰ.append_cases pairs m))
    (none_twice_with pairs pair others (λ m. new (Memᴰ.tail m)))

-- the pair that a call ends is new, since the call is
pair_new : (call : StopTime) (back : List StopTime) (o : Option StopTime) → (Memᴰ call back → ⊥) → NoneTwice (neighbours back)
    → NoneTwice (neighbours back ++ pair_behind o call)
unfolding pair_behind
pair_new call back none new others = subst⁻¹ NoneTwice (append-nil (neighbours back)) others
pair_new call back (some previous) new others =
    none_twice_with (neighbours back) (record { first = previous; second = call }) others
    (λ m. new (pair_members back (record { first = previous; second = call }) m).1)

-- where stop_sequence rises, no pair is read twice
pairs_once : (calls : List StopTime) → Rising calls → NoneTwice (neighbours calls)
unfolding neighbours
pairs_once [] rising = no_pair
pairs_once (call ∷ back) rising =
    pair_new call back (last_call call.trip back)
    (λ m. let z : call.sequence < call.sequence = rising.rises [] call back refl call m refl in omega arith)
    (pairs_once back (record {
      rises = λ later second earlier e. rising.rises (call ∷ later) second earlier (ap (λ (l : List StopTime). call ∷ l) e);
    }))

-- no pair of a text without a fault is read twice
pub text_pairs_once : (start : ℕ) (text : List ℕ) (calls : List StopTime) → stop_times start text ≡ said calls → NoneTwice (neighbours calls)
text_pairs_once start text calls e = pairs_once calls (text_rising start text calls e)
