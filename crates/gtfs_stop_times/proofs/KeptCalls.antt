-- Each trip's last call, after one call more: its own three cells are written, and those of other trips stay. Assumes nothing.
use Prim.Native.Nat.{ℕ, suc, ◌+◌, ◌*◌, ◌≤◌, ◌<◌}
use mathlib.Core.List.{List, [], ◌∷◌}
use mathlib.Core.Logic.{◌⊎◌, inl, inr, ◌≢◌}
use mathlib.Core.Option.{some}
use mathlib.Core.Path.{◌≡◌, sym, ap, subst, ◌∙◌}
use native.Mathlib.Nat.{eq-or-lt_of_le}
use native.Mathlib.Omega.{arith}
use borrow.Author.Tests.{eqb-true, eqb-false, ltb-true, ltb-false}
use lib.Dec.{eqb, ltb}
use lib.ListN.{length, get_or, set, length-set}
use lib.Seq.{sets, get_or-set_same, get_or-set_other}
use Rattle.laws.proofs.Tests.{ifb}
use Rattle.gtfs_ids.specs.Ids.{number_of, with_id}
use Rattle.gtfs_ids.proofs.Numbering.{number_points, number_with, number_kept, id_kept, known_or_new, length_known, length_new, length_with}
use Rattle.gtfs_ids.proofs.Different.{number_at}
use Rattle.gtfs_stop_time.specs.StopTime.{StopTime, last_minute}
use Rattle.gtfs_calls.specs.Calls.{trips_of, stops_of, last_call}
use Rattle.gtfs_stop_times.specs.Held.{CallHeld}
use Rattle.gtfs_calls.proofs.Numbers.{trips_different, own_known}
use Rattle.gtfs_calls.proofs.LastCalls.{last_own, last_other}

-- the cells of a trip, written
module _ (last : List ℕ) (trip stop departure sequence : ℕ) where
  abbrev pub call_written : List ℕ
  call_written = sets last (3 * trip) (stop ∷ departure ∷ sequence ∷ [])

  pub written_length : length call_written ≡ length last
  written_length = simp length-set

  module _ (inside : 3 * trip + 2 < length last) where
    pub written_stop : get_or call_written (3 * trip) 0 ≡ stop
    written_stop =
        get_or-set_other (set (set last (3 * trip) stop) (suc (3 * trip)) departure) (suc (suc (3 * trip))) (3 * trip) sequence 0 (λ e. omega arith)
        ∙ get_or-set_other (set last (3 * trip) stop) (suc (3 * trip)) (3 * trip) departure 0 (λ e. omega arith)
        ∙ get_or-set_same last (3 * trip) stop 0 (omega arith)

    pub written_departure : get_or call_written (3 * trip + 1) 0 ≡ departure
    written_departure =
        ap (λ k. get_or call_written k 0) (let z : 3 * trip + 1 ≡ suc (3 * trip) = omega arith in z)
        ∙ get_or-set_other (set (set last (3 * trip) stop) (suc (3 * trip)) departure) (suc (suc (3 * trip))) (suc (3 * trip)) sequence 0 (λ e. omega arith)
        ∙ get_or-set_same (set last (3 * trip) stop) (suc (3 * trip)) departure 0 (simp length-set (omega arith))

    pub written_sequence : get_or call_written (3 * trip + 2) 0 ≡ sequence
    written_sequence =
        ap (λ k. get_or call_written k 0) (let z : 3 * trip + 2 ≡ suc (suc (3 * trip)) = omega arith in z)
        ∙ get_or-set_same (set (set last (3 * trip) stop) (suc (3 * trip)) departure) (suc (suc (3 * trip))) sequence 0 (simp length-set (omega arith))

    -- other cells stay
    pub written_elsewhere : (k : ℕ) → (k < 3 * trip) ⊎ (3 * trip + 2 < k) → get_or call_written k 0 ≡ get_or last k 0
    written_elsewhere k apart =
        get_or-set_other (set (set last (3 * trip) stop) (suc (3 * trip)) departure) (suc (suc (3 * trip))) k sequence 0 (not_at (suc (suc (3 * trip))) apart (omega arith) (omega arith))
        ∙ get_or-set_other (set last (3 * trip) stop) (suc (3 * trip)) k departure 0 (not_at (suc (3 * trip)) apart (omega arith) (omega arith))
        ∙ get_or-set_other last (3 * trip) k stop 0 (not_at (3 * trip) apart (omega arith) (omega arith))
      where
        not_at : (m : ℕ) → (k < 3 * trip) ⊎ (3 * trip + 2 < k) → 3 * trip ≤ m → m ≤ 3 * trip + 2 → k ≢ m
        not_at m (inl low) ahead behind e = omega arith
        not_at m (inr high) ahead behind e = omega arith

-- the three cells as they are stored
pub three_stores : (last : List ℕ) (trip a b d stop departure sequence : ℕ) → a ≡ stop → b ≡ departure → d ≡ sequence
    → set (set (set last (3 * trip) a) (3 * trip + 1) b) (3 * trip + 2) d ≡ call_written last trip stop departure sequence
three_stores last trip a b d stop departure sequence p q r =
    let one : 3 * trip + 1 ≡ suc (3 * trip) = omega arith in
    let two : 3 * trip + 2 ≡ suc (suc (3 * trip)) = omega arith in
    cc

-- cells of two trips are apart
cells_apart : (t trip k : ℕ) → k ≤ 2 → t ≢ trip → (3 * t + k < 3 * trip) ⊎ (3 * trip + 2 < 3 * t + k)
cells_apart t trip k few other = ifb (λ b. (3 * t + k < 3 * trip) ⊎ (3 * trip + 2 < 3 * t + k)) (ltb t trip)
    (λ less. inl (let z : 3 * t + k < 3 * trip = omega (arith, ltb-true t trip less) in z))
    (λ more. inr (let h : trip ≤ t = ltb-false t trip more in let z : 3 * trip + 2 < 3 * t + k = omega (arith, further h) in z))
  where
    further : trip ≤ t → suc trip ≤ t
    further h = go (eq-or-lt_of_le h)
      where
        go : (trip ≡ t) ⊎ (trip < t) → suc trip ≤ t
        go (inl e) = absurd (other (sym e))
        go (inr less) = less

-- a place that is not the id's own was there before
earlier_place : (ids : List (List ℕ)) (id : List ℕ) (i : ℕ) → i < length (with_id ids id) → i ≢ number_of ids id → i < length ids
earlier_place ids id i inside other =
    known_or_new (i < length ids) ids id (λ known. omega (arith, length_known ids id known))
    (λ new. go new (eq-or-lt_of_le (let z : i ≤ length ids = omega (arith, length_new ids id new) in z)))
  where
    go : number_of ids id ≡ length ids → (i ≡ length ids) ⊎ (i < length ids) → i < length ids
    go new (inl e) = absurd (other (e ∙ sym new))
    go new (inr less) = less

module _ (back : List StopTime) (says : StopTime) (last : List ℕ) (trip stop : ℕ)
    (own_trip : trip ≡ number_of (trips_of back) says.trip) (own_stop : stop ≡ number_of (stops_of back) says.stop)
    (room : 3 * trip + 2 < length last) (minute : says.departure ≤ last_minute)
    (held : (t : ℕ) → t < length (trips_of back)
    → (call : StopTime) × (last_call (get_or (trips_of back) t []) back ≡ some call) × CallHeld last (stops_of back) t call)
  where
    abbrev after : List ℕ
    after = call_written last trip stop says.departure says.sequence

    abbrev HeldAt : ℕ → Type 0
    HeldAt t =
        (call : StopTime) × (last_call (get_or (trips_of (says ∷ back)) t []) (says ∷ back) ≡ some call) × CallHeld after (stops_of (says ∷ back)) t call

    -- the trip's own call
    own_held : HeldAt trip
    unfolding trips_of stops_of
    own_held =
        let ids = trips_of back in
        let stops = stops_of back in
        let number : number_of (with_id ids says.trip) says.trip ≡ trip = number_with ids says.trip ∙ sym own_trip in
        let there : get_or (with_id ids says.trip) trip [] ≡ says.trip =
        ap (λ k. get_or (with_id ids says.trip) k []) (sym number)
        ∙ number_points (with_id ids says.trip) says.trip (own_known ids says.trip)
        in
        let stands : stop ≡ number_of (with_id stops says.stop) says.stop = own_stop ∙ sym (number_with stops says.stop) in (
          says,
          last_own (get_or (with_id ids says.trip) trip []) says back (sym there),
          record {
            stop = written_stop last trip stop says.departure says.sequence room ∙ stands;
            departure = written_departure last trip stop says.departure says.sequence room;
            sequence = written_sequence last trip stop says.departure says.sequence room;
            stop_known = own_known stops says.stop;
            minute = minute;
          },
        )

    -- another trip's call stays
    other_held : (t : ℕ) → t < length (trips_of (says ∷ back)) → t ≢ trip → HeldAt t
    unfolding trips_of stops_of
    other_held t inside other =
        let ids = trips_of back in
        let stops = stops_of back in
        let known : t < length ids = earlier_place ids says.trip t inside (λ e. other (e ∙ sym own_trip)) in
        let place : get_or (with_id ids says.trip) t [] ≡ get_or ids t [] = id_kept ids says.trip t known in
        let was = held t known in
        let call = was.0 in
        let cells = was.2 in
        let apart : says.trip ≡ get_or ids t [] → ⊥ =
        λ same. other (sym (own_trip ∙ ap (number_of ids) same ∙ number_at ids t (trips_different back) known))
        in
        let stays : (k : ℕ) → k ≤ 2 → get_or after (3 * t + k) 0 ≡ get_or last (3 * t + k) 0 =
        λ k few. written_elsewhere last trip stop says.departure says.sequence room (3 * t + k) (cells_apart t trip k few other)
        in
        let first : 3 * t ≡ 3 * t + 0 = omega arith in
        let kept : number_of (with_id stops says.stop) call.stop ≡ number_of stops call.stop = number_kept stops says.stop call.stop cells.stop_known in (
          call,
          ap (λ id. last_call id (says ∷ back)) place ∙ last_other (get_or ids t []) says back apart ∙ was.1,
          record {
            stop = ap (λ k. get_or after k 0) first ∙ stays 0 (omega arith) ∙ ap (λ k. get_or last k 0) (sym first) ∙ cells.stop ∙ sym kept;
            departure = stays 1 (omega arith) ∙ cells.departure;
            sequence = stays 2 (omega arith) ∙ cells.sequence;
            stop_known = omega (arith, kept, cells.stop_known, length_with stops says.stop);
            minute = cells.minute;
          },
        )

    pub calls_held : (t : ℕ) → t < length (trips_of (says ∷ back)) → HeldAt t
    calls_held t inside =
        ifb (λ b. HeldAt t) (eqb t trip) (λ same. subst HeldAt (sym (eqb-true t trip same)) own_held) (λ other. other_held t inside (eqb-false t trip other))
