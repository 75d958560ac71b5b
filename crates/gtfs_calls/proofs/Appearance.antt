-- Ids are numbered by first appearance: one law for trips and stops. Assumes nothing.
use Prim.Native.Nat.{ℕ, ◌<◌}
use mathlib.Core.List.Memᴰ
use mathlib.Core.List.{List, [], ◌∷◌, Memᴰ}
use mathlib.Core.Path.{◌≡◌, refl, sym, ap, subst, subst⁻¹, ◌∙◌}
use native.Mathlib.Omega.{arith}
use lib.ListN.{length, get_or}
use Rattle.laws.proofs.Members.{head_or_later}
use Rattle.gtfs_ids.specs.Ids.{number_of, with_id, Different}
use Rattle.gtfs_ids.proofs.Numbering.{
  either_way,
  number_further,
  number_behind,
  number_with,
  number_kept,
  with_known,
  with_new,
  length_known,
  length_new,
  length_with,
  known_or_new,
}
use Rattle.gtfs_ids.proofs.Different.{number_at, none_different, with_different}
use Rattle.gtfs_stop_time.specs.StopTime.{StopTime}
use Rattle.gtfs_calls.specs.Calls.{trips_of, stops_of}
use Rattle.gtfs_calls.specs.Appearance.{FirstAppears}
use Rattle.gtfs_calls.proofs.Numbers.{own_known}

-- an id stays new where another appears
pub still_new : (ids : List (List ℕ)) (id other : List ℕ) → (id ≡ other → ⊥) → number_of ids other ≡ length ids
    → number_of (with_id ids id) other ≡ length (with_id ids id)
unfolding number_of
still_new ids id other apart new =
    known_or_new (number_of (with_id ids id) other ≡ length (with_id ids id)) ids id
    (λ known. ap (λ l. number_of l other) (with_known ids id known) ∙ new ∙ sym (length_known ids id known))
    (λ fresh. ap (λ l. number_of l other) (with_new ids id fresh)
    ∙ omega (arith, number_behind ids (id ∷ []) other new, number_further id [] other apart, length_new ids id fresh))

-- all ids of calls, call by call
pub record Collected (id_of : StopTime → List ℕ) (ids : List StopTime → List (List ℕ)) : Type 0 where
  pub at_first : ids [] ≡ []
  pub with_call : (call : StopTime) (back : List StopTime) → ids (call ∷ back) ≡ with_id (ids back) (id_of call)

pub trips_collected : Collected (λ call. call.trip) trips_of
unfolding trips_of
trips_collected = record { at_first = refl; with_call = λ call back. refl }

pub stops_collected : Collected (λ call. call.stop) stops_of
unfolding stops_of
stops_collected = record { at_first = refl; with_call = λ call back. refl }

module _ (id_of : StopTime → List ℕ) (ids : List StopTime → List (List ℕ)) (all : Collected id_of ids) where
  abbrev Known : List (List ℕ) → List ℕ → Type 0
  Known l id = number_of l id < length l

  -- every call's id is known
  pub known_id : (calls : List StopTime) (call : StopTime) → Memᴰ call calls → number_of (ids calls) (id_of call) < length (ids calls)
  known_id [] call m = absurd (Memᴰ.not-nil m)
  known_id (next ∷ back) call m =
      subst⁻¹ (λ l. Known l (id_of call)) (all.with_call next back)
      (head_or_later (Known (with_id (ids back) (id_of next)) (id_of call)) m
      (λ same. subst⁻¹ (λ c. Known (with_id (ids back) (id_of next)) (id_of c)) same (own_known (ids back) (id_of next)))
      (λ later.
      let known = known_id back call later in
      omega (arith, number_kept (ids back) (id_of next) (id_of call) known, length_with (ids back) (id_of next))))

  all_different : (calls : List StopTime) → Different (ids calls)
  all_different [] = subst⁻¹ Different all.at_first none_different
  all_different (call ∷ back) = subst⁻¹ Different (all.with_call call back) (with_different (ids back) (id_of call) (all_different back))

  appears_on : (next : StopTime) (calls : List StopTime) (id : List ℕ) (number : ℕ) → FirstAppears id_of ids calls id number
      → FirstAppears id_of ids (next ∷ calls) id number
  appears_on next calls id number appears =
      record {
        later = next ∷ appears.later;
        call = appears.call;
        earlier = appears.earlier;
        read = ap (λ (l : List StopTime). next ∷ l) appears.read;
        own = appears.own;
        none_earlier = appears.none_earlier;
        counted = appears.counted;
      }

  -- an id that is new appears with this call
  appears_here : (call : StopTime) (back : List StopTime) (id : List ℕ) → number_of (ids back) id ≡ length (ids back) → id_of call ≡ id
      → FirstAppears id_of ids (call ∷ back) id (number_of (ids (call ∷ back)) id)
  appears_here call back id new own =
      record {
        later = [];
        call = call;
        earlier = back;
        read = refl;
        own = own;
        none_earlier = λ other m same. omega (arith, subst (Known (ids back)) same (known_id back other m));
        counted =
            ap (λ l. number_of l id) (all.with_call call back)
            ∙ subst (λ i. number_of (with_id (ids back) i) id ≡ length (ids back)) (sym own) (number_with (ids back) id ∙ new);
      }

  -- an id's number is how many different ids were read before it first appeared
  pub first_appearance : (calls : List StopTime) (id : List ℕ) → number_of (ids calls) id < length (ids calls)
      → FirstAppears id_of ids calls id (number_of (ids calls) id)
  first_appearance [] id known = absurd (let z : Known [] id = subst (λ l. Known l id) all.at_first known in let y : ⊥ = omega arith in y)
  first_appearance (call ∷ back) id known =
      known_or_new (FirstAppears id_of ids (call ∷ back) id (number_of (ids (call ∷ back)) id)) (ids back) id
      (λ old.
      subst⁻¹ (FirstAppears id_of ids (call ∷ back) id)
      (ap (λ l. number_of l id) (all.with_call call back) ∙ number_kept (ids back) (id_of call) id old)
      (appears_on call back id (number_of (ids back) id) (first_appearance back id old)))
      (λ new.
      either_way (FirstAppears id_of ids (call ∷ back) id (number_of (ids (call ∷ back)) id)) (id_of call) id
      (λ own. appears_here call back id new own)
      (λ other. absurd (let z : Known (with_id (ids back) (id_of call)) id = subst (λ l. Known l id) (all.with_call call back) known in
      let y : ⊥ = omega (arith, still_new (ids back) (id_of call) id other new) in y)))

  -- the id at a place has that number
  pub appearance_at : (calls : List StopTime) (i : ℕ) → i < length (ids calls) → FirstAppears id_of ids calls (get_or (ids calls) i []) i
  appearance_at calls i inside =
      let id = get_or (ids calls) i [] in
      let number : number_of (ids calls) id ≡ i = number_at (ids calls) i (all_different calls) inside in
      subst (FirstAppears id_of ids calls id) number (first_appearance calls id (omega arith))

-- each call's trip and stop are numbered by first appearance
pub trip_number : (calls : List StopTime) (call : StopTime) → Memᴰ call calls
    → FirstAppears (λ c. c.trip) trips_of calls call.trip (number_of (trips_of calls) call.trip)
trip_number calls call m =
    first_appearance (λ c. c.trip) trips_of trips_collected calls call.trip (known_id (λ c. c.trip) trips_of trips_collected calls call m)

pub stop_number : (calls : List StopTime) (call : StopTime) → Memᴰ call calls
    → FirstAppears (λ c. c.stop) stops_of calls call.stop (number_of (stops_of calls) call.stop)
stop_number calls call m =
    first_appearance (λ c. c.stop) stops_of stops_collected calls call.stop (known_id (λ c. c.stop) stops_of stops_collected calls call m)
