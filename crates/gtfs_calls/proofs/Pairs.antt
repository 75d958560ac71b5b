-- The pairs that are read are exactly the neighbouring calls of a trip. Assumes nothing.
use mathlib.Core.List.Memᴰ
use mathlib.Core.List.{
  List,
  [],
  ◌∷◌,
  ◌++◌,
  Memᴰ,
}
use mathlib.Core.Logic.{⊎_elim}
use mathlib.Core.Option.{Option, none, some}
use mathlib.Core.Path.{◌≡◌, refl, sym, ap, subst, subst⁻¹, ◌∙◌}
use Prim.Native.Nat.{ℕ}
use Rattle.laws.proofs.Members.{head_or_later}
use Rattle.laws.proofs.Options.{absent, same_thing}
use Rattle.gtfs_ids.proofs.Numbering.{either_way}
use Rattle.gtfs_stop_time.specs.StopTime.{StopTime}
use Rattle.gtfs_calls.specs.Calls.{last_call}
use Rattle.gtfs_calls.specs.Neighbours.{Pair, pair_behind, neighbours, AreNeighbours}
use Rattle.gtfs_calls.proofs.LastCalls.{last_own, last_other}

-- no call of the trip is among these
abbrev pub NoneOf : (trip : List ℕ) → List StopTime → Type 0
NoneOf trip calls = (call : StopTime) → Memᴰ call calls → call.trip ≡ trip → ⊥

-- where a trip's last call was read
pub record LastRead (trip : List ℕ) (back : List StopTime) (call : StopTime) : Type 0 where
  pub between : List StopTime
  pub earlier : List StopTime
  pub read : back ≡ between ++ (call ∷ earlier)
  pub own : call.trip ≡ trip
  pub none_between : NoneOf trip between

none_more : (trip : List ℕ) (next : StopTime) (calls : List StopTime) → (next.trip ≡ trip → ⊥) → NoneOf trip calls → NoneOf trip (next ∷ calls)
none_more trip next calls other others call m own =
    head_or_later ⊥ m (λ same. other (subst (λ (c : StopTime). c.trip ≡ trip) same own)) (λ later. others call later own)

pub last_read : (trip : List ℕ) (back : List StopTime) (call : StopTime) → last_call trip back ≡ some call → LastRead trip back call
unfolding last_call
last_read trip [] call e = absent e
last_read trip (next ∷ back) call e =
    either_way (LastRead trip (next ∷ back) call) next.trip trip
    (λ own.
    let same : next ≡ call = same_thing (sym (last_own trip next back own) ∙ e) in
    record {
      between = [];
      earlier = back;
      read = ap (λ (c : StopTime). c ∷ back) same;
      own = subst (λ (c : StopTime). c.trip ≡ trip) same own;
      none_between = λ c m _. Memᴰ.not-nil m;
    })
    (λ other.
    let further = last_read trip back call (sym (last_other trip next back other) ∙ e) in
    record {
      between = next ∷ further.between;
      earlier = further.earlier;
      read = ap (λ (l : List StopTime). next ∷ l) further.read;
      own = further.own;
      none_between = none_more trip next further.between other further.none_between;
    })

last_behind : (trip : List ℕ) (between : List StopTime) (call : StopTime) (earlier : List StopTime) → call.trip ≡ trip → NoneOf trip between
    → last_call trip (between ++ (call ∷ earlier)) ≡ some call
last_behind trip [] call earlier own others = last_own trip call earlier own
last_behind trip (next ∷ between) call earlier own others =
    last_other trip next (between ++ (call ∷ earlier)) (others next (Memᴰ.head refl))
    ∙ last_behind trip between call earlier own (λ c m. others c (Memᴰ.tail m))

-- a call read later changes nothing
neighbours_on : (next : StopTime) (calls : List StopTime) (first second : StopTime) → AreNeighbours calls first second
    → AreNeighbours (next ∷ calls) first second
neighbours_on next calls first second are =
    record {
      later = next ∷ are.later;
      between = are.between;
      earlier = are.earlier;
      read = ap (λ (l : List StopTime). next ∷ l) are.read;
      one_trip = are.one_trip;
      none_between = are.none_between;
    }

behind_are : (call : StopTime) (back : List StopTime) (o : Option StopTime) (pair : Pair) → last_call call.trip back ≡ o
    → Memᴰ pair (pair_behind o call) → AreNeighbours (call ∷ back) pair.first pair.second
unfolding pair_behind
behind_are call back none pair e m = absurd (Memᴰ.not-nil m)
behind_are call back (some previous) pair e m =
    let last = last_read call.trip back previous e in
    subst⁻¹ (λ (p : Pair). AreNeighbours (call ∷ back) p.first p.second) (Memᴰ.eq_of_singleton m)
    (record {
      later = [];
      between = last.between;
      earlier = last.earlier;
      read = ap (λ (l : List StopTime). call ∷ l) last.read;
      one_trip = last.own;
      none_between = last.none_between;
    })

-- the two calls of a pair are of one trip, and no call of it was read between them
pub neighbours_are : (calls : List StopTime) (pair : Pair) → Memᴰ pair (neighbours calls) → AreNeighbours calls pair.first pair.second
unfolding neighbours
neighbours_are [] pair m = absurd (Memᴰ.not-nil m)
neighbours_are (call ∷ back) pair m =
    ⊎_elim (λ earlier. neighbours_on call back pair.first pair.second (neighbours_are back pair earlier))
    (λ own. behind_are call back (last_call call.trip back) pair refl own)
    (Memᴰ.append_cases (neighbours back) m)

-- pairs read so far stay
pairs_stay : (later calls : List StopTime) (pair : Pair) → Memᴰ pair (neighbours calls) → Memᴰ pair (neighbours (later ++ calls))
unfolding neighbours
pairs_stay [] calls pair m = m
pairs_stay (call ∷ later) calls pair m =
    Memᴰ.append_left (pair_behind (last_call call.trip (later ++ calls)) call) (pairs_stay later calls pair m)

own_pair : (first second : StopTime) (between earlier : List StopTime) → first.trip ≡ second.trip → NoneOf second.trip between
    → Memᴰ (record { first = first; second = second }) (neighbours (second ∷ (between ++ (first ∷ earlier))))
unfolding neighbours pair_behind
own_pair first second between earlier one_trip others =
    let back = between ++ (first ∷ earlier) in
    Memᴰ.append_right (neighbours back)
    (subst⁻¹ (λ (o : Option StopTime). Memᴰ (record { first = first; second = second }) (pair_behind o second))
    (last_behind second.trip between first earlier one_trip others) (Memᴰ.head refl))

-- every two such calls are a pair
pub are_neighbours : (calls : List StopTime) (first second : StopTime) → AreNeighbours calls first second
    → Memᴰ (record { first = first; second = second }) (neighbours calls)
are_neighbours calls first second are =
    subst⁻¹ (λ (l : List StopTime). Memᴰ (record { first = first; second = second }) (neighbours l)) are.read
    (pairs_stay are.later (second ∷ (are.between ++ (first ∷ are.earlier))) (record { first = first; second = second })
    (own_pair first second are.between are.earlier are.one_trip are.none_between))
