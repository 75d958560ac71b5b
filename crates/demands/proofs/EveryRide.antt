-- Every ride that windows take out of the chosen ones is boarded under some delays. Assumes nothing.
use Prim.Native.Nat.{ℕ, pred, ◌+◌, ◌-◌, ◌≤◌, ◌<◌}
use mathlib.Core.Bool.{true, false, cond, false≢true}
use mathlib.Core.List.Memᴰ
use mathlib.Core.List.{List, [], ◌∷◌, ◌++◌, Memᴰ}
use mathlib.Core.Logic.{◌⊎◌, inl, inr, ⊎_elim, ◌≢◌}
use mathlib.Core.Option.{Option, none, some}
use mathlib.Core.Path.{◌≡◌, refl, sym, ◌∙◌, ap, subst}
use native.Mathlib.Nat.{le_refl}
use native.Mathlib.Decide.{dec_le}
use native.Mathlib.Omega.{arith}
use borrow.Author.Tests.{eqb-false}
use lib.Dec.{eqb}
use lib.ListN.{length}
use Rattle.laws.proofs.Tests.{ifb, either}
use Rattle.laws.proofs.Options.{same_thing}
use Rattle.laws.proofs.Members.{head_or_later}
use Rattle.timetable.specs.Timetable.{maximum_delay}
use Rattle.plans.specs.Rides.{Ride, lands_by, ready, boards}
use Rattle.plans.specs.Worth.{Valued, first_open, rides_of}
use Rattle.plans.specs.Plan.{Window, in_window, wanted, up_to, windows_of, extract}
use Rattle.demands.specs.Walk.{Sailed, Delayed, delay_first}
use Rattle.plans.proofs.Open.{boards_stop, boards_minute, can_board}
use Rattle.plans.proofs.Order.{Ordered, ahead, Before, first_before}
use Rattle.plans.proofs.Extracted.{extract_member, window_boards, window_until}
use Rattle.demands.proofs.Choices.{late, on_time, delayed_rides}
use Rattle.demands.proofs.Meeting.{Meets, here, lands, passes, meets_sooner}

-- a wanted ride lies in one of the windows
pub wanted_in : (ws : List Window) (r : Ride) → wanted ws r ≡ true → (w : Window) × Memᴰ w ws × (in_window w r ≡ true)
unfolding wanted
wanted_in [] r e = absurd (false≢true e)
wanted_in (w ∷ ws) r e = pick (either (in_window w r) (wanted ws r) e) (wanted_in ws r)
  where
    pick :
        (in_window w r ≡ true) ⊎ (wanted ws r ≡ true) → (wanted ws r ≡ true → (w : Window) × Memᴰ w ws × (in_window w r ≡ true))
        → (x : Window) × Memᴰ x (w ∷ ws) × (in_window x r ≡ true)
    pick (inl in_it) later = (w, Memᴰ.head refl, in_it)
    pick (inr further) later = let found = later further in (found.0, Memᴰ.tail found.1, found.2)

-- the window up to a ride that is there
pub up_to_is :
    (stop minute : ℕ) (o : Option Valued) {w : Window} → Memᴰ w (up_to stop minute o)
    → (v : Valued) × (o ≡ some v) × (w ≡ record { stop = stop; minute = minute; until = v.ride.departs })
unfolding up_to
up_to_is stop minute none there = absurd (Memᴰ.not-nil there)
up_to_is stop minute (some v) there = (v, refl, Memᴰ.eq_of_singleton there)

-- a window that a ride opens: from a + g up to the first ride at or after a + M + g
pub record Opened (gate target : ℕ) (r : Ride) (behind : List Valued) (w : Window) : Type 0 where
  pub away : r.to ≢ target
  pub safe : Valued
  pub is_first : first_open behind r.to (ready gate (lands_by r)) ≡ some safe
  pub is : w ≡ record { stop = r.to; minute = ready gate r.arrives; until = safe.ride.departs }

pub window_opened : (gate target : ℕ) (r : Ride) (behind : List Valued) {w : Window} → Memᴰ w (windows_of gate target r behind) → Opened gate target r behind w
unfolding windows_of
window_opened gate target r behind {w} there =
    ifb (λ b. eqb r.to target ≡ b → Memᴰ w (cond b [] (up_to r.to (ready gate r.arrives) (first_open behind r.to (ready gate (lands_by r)))))
    → Opened gate target r behind w)
    (eqb r.to target) (λ _ _ none_there. absurd (Memᴰ.not-nil none_there))
    (λ e _ in_it. let found = up_to_is r.to (ready gate r.arrives) (first_open behind r.to (ready gate (lands_by r))) in_it in
    record { away = eqb-false r.to target e; safe = found.0; is_first = found.1; is = found.2 }) refl there

-- no ride that can be boarded departs before the first
pub first_departs :
    (vs : List Valued) → Ordered vs → (stop minute : ℕ) {first x : Valued} → first_open vs stop minute ≡ some first → Memᴰ x vs
    → boards x.ride stop minute ≡ true → first.ride.departs ≤ x.ride.departs
first_departs vs ordered stop minute {first} {x} e among opens =
    let found = first_before vs ordered stop minute x among opens in
    subst (λ (u : Valued). u.ride.departs ≤ x.ride.departs) (same_thing (sym found.1 ∙ e))
    (⊎_elim (λ (same : found.0 ≡ x). omega (arith, ap (λ u. u.ride.departs) same)) (λ (ahead : Before found.0 x). ahead.minutes) found.2)

-- nor do the rides taken from them, whatever their delays
pub taken_after :
    (chosen taken : List Valued) → Ordered chosen → ((v : Valued) → Memᴰ v taken → Memᴰ v chosen) → (stop minute : ℕ) {first : Valued}
    → first_open chosen stop minute ≡ some first → {sailed : List Sailed} → Delayed (rides_of taken) sailed → (s : Sailed) → Memᴰ s sailed
    → boards s.ride stop minute ≡ true → first.ride.departs ≤ s.ride.departs
taken_after chosen taken ordered part stop minute is_first delayed s there opens =
    let found = Memᴰ.of_map (λ v. v.ride) taken (subst (Memᴰ s.ride) (delayed_rides delayed) (Memᴰ.map (λ x. x.ride) there)) in
    omega (
      arith,
      ap (λ x. x.departs) found.2,
      first_departs chosen ordered stop minute is_first (part found.0 found.1) (ap (λ x. boards x stop minute) found.2 ∙ opens),
    )

-- a delay of u after which r is met
record Landing (gate : ℕ) (u r : Ride) (sailed : List Sailed) : Type 0 where
  delay : ℕ
  below : delay < length u.shares
  meets : Meets gate r sailed u.to (ready gate (u.arrives + delay))

-- one who, ready at a minute, would meet r meets it by landing a gate time ahead of it, or at a + M if that is sooner and nothing departs between
landing :
    (gate : ℕ) (u : Ride) {r : Ride} {sailed : List Sailed} {minute : ℕ} → 0 < length u.shares → ready gate u.arrives ≤ minute
    → ((s : Sailed) → Memᴰ s sailed → boards s.ride u.to (ready gate (lands_by u)) ≡ true → minute ≤ s.ride.departs)
    → Meets gate r sailed u.to minute → Landing gate u r sailed
landing gate u {r} {sailed} {minute} some_share from none_between meets = pick (dec_le minute (ready gate (lands_by u)))
  where
    in_range : (a m n : ℕ) → 0 < n → m ≤ ready gate (a + pred n) → ready gate a ≤ m → m - ready gate a < n
    in_range a m n positive before from = omega arith

    last_share : (n : ℕ) → 0 < n → pred n < n
    last_share n positive = omega arith

    pick : Dec (minute ≤ ready gate (lands_by u)) → Landing gate u r sailed
    pick (yes before) =
        record {
          delay = minute - ready gate u.arrives;
          below = in_range u.arrives minute (length u.shares) some_share before from;
          meets = subst (Meets gate r sailed u.to) (omega arith) meets;
        }
    pick (no after) =
        record {
          delay = maximum_delay u.shares;
          below = last_share (length u.shares) some_share;
          meets =
              meets_sooner (ready gate (lands_by u)) (omega (arith, after))
              (λ s there opens.
              can_board s.ride u.to minute (boards_stop s.ride u.to (ready gate (lands_by u)) opens) (none_between s there opens))
              meets;
        }

-- one who stands in a window at the minute of a chosen ride there meets r, under some choice for the rides taken
pub record Entry (gate : ℕ) (ws : List Window) (chosen taken : List Valued) (r : Ride) : Type 0 where
  pub window : Window
  pub among : Memᴰ window ws
  pub first : Valued
  pub is_chosen : Memᴰ first chosen
  pub within_window : in_window window first.ride ≡ true
  pub sailed : List Sailed
  pub delayed : Delayed (rides_of taken) sailed
  pub meets : Meets gate r sailed window.stop first.ride.departs

-- the ride itself can be boarded when it departs
window_departs : (w : Window) (r : Ride) → in_window w r ≡ true → boards r w.stop r.departs ≡ true
window_departs w r e = can_board r w.stop r.departs (boards_stop r w.stop w.minute (window_boards w r e)) (le_refl r.departs)

abbrev pub SomeShare : List Valued → Type 0
SomeShare vs = (v : Valued) → Memᴰ v vs → 0 < length v.ride.shares

-- a ride taken by a window of the list
module _ {gate : ℕ} {ws : List Window} {u : Valued} {behind taken : List Valued} (w : Window) (among : Memᴰ w ws)
    (in_it : in_window w u.ride ≡ true) (some_share : 0 < length u.ride.shares) where
  entry_itself : SomeShare taken → Entry gate ws (u ∷ behind) (u ∷ taken) u.ride
  entry_itself shares =
      record {
        window = w;
        among = among;
        first = u;
        is_chosen = Memᴰ.head refl;
        within_window = in_it;
        sailed = late u.ride 0 ∷ others.0;
        delayed = delay_first refl some_share others.1;
        meets = here refl (window_departs w u.ride in_it);
      }
    where
      others : (sailed : List Sailed) × Delayed (rides_of taken) sailed
      others =
          on_time (rides_of taken)
          (λ r there. let found = Memᴰ.of_map (λ v. v.ride) taken there in
          subst (λ (x : Ride). 0 < length x.shares) found.2 (shares found.0 found.1))

  -- and what is met from the window that it opens
  entry_onward :
      {r : Ride} {target : ℕ} → Ordered behind → ((v : Valued) → Memᴰ v taken → Memᴰ v behind) → {more : List Window}
      (e : Entry gate more behind taken r) → Opened gate target u.ride behind e.window → Entry gate ws (u ∷ behind) (u ∷ taken) r
  entry_onward {r} ordered part e opened =
      record {
        window = w;
        among = among;
        first = u;
        is_chosen = Memᴰ.head refl;
        within_window = in_it;
        sailed = late u.ride landed.delay ∷ e.sailed;
        delayed = delay_first refl landed.below e.delayed;
        meets = lands (window_departs w u.ride in_it) landed.meets;
      }
    where
      none_between :
          (s : Sailed) → Memᴰ s e.sailed → boards s.ride u.ride.to (ready gate (lands_by u.ride)) ≡ true
          → e.first.ride.departs ≤ s.ride.departs
      none_between s there opens =
          omega (
            arith,
            window_until e.window e.first.ride e.within_window,
            ap (λ x. x.until) opened.is,
            taken_after behind taken ordered part u.ride.to (ready gate (lands_by u.ride)) opened.is_first e.delayed s there opens,
          )

      landed : Landing gate u.ride r e.sailed
      landed =
          landing gate u.ride some_share
          (omega (
            arith,
            ap (λ x. x.minute) opened.is,
            boards_minute e.first.ride e.window.stop e.window.minute (window_boards e.window e.first.ride e.within_window),
          ))
          none_between (subst (λ (stop : ℕ). Meets gate r e.sailed stop e.first.ride.departs) (ap (λ x. x.stop) opened.is) e.meets)

-- what is met from an older window is met all the same: a ride taken before does not depart then and there
entry_older :
    {gate : ℕ} {ws more : List Window} {u : Valued} {behind taken : List Valued} {r : Ride} → 0 < length u.ride.shares
    → ((v : Valued) → Memᴰ v behind → Before u v) → (e : Entry gate more behind taken r) → Memᴰ e.window ws
    → Entry gate ws (u ∷ behind) (u ∷ taken) r
entry_older {u = u} some_share before e among =
    record {
      window = e.window;
      among = among;
      first = e.first;
      is_chosen = Memᴰ.tail e.is_chosen;
      within_window = e.within_window;
      sailed = late u.ride 0 ∷ e.sailed;
      delayed = delay_first refl some_share e.delayed;
      meets = passes shut e.meets;
    }
  where
    stop : ℕ
    stop = e.window.stop

    there : boards e.first.ride stop e.window.minute ≡ true
    there = window_boards e.window e.first.ride e.within_window

    shut : boards u.ride stop e.first.ride.departs ≡ false
    shut =
        ifb (λ b. boards u.ride stop e.first.ride.departs ≡ b → b ≡ false) (boards u.ride stop e.first.ride.departs)
        (λ _ opens. absurd (let z : ⊥ = omega (
          arith,
          boards_minute u.ride stop e.first.ride.departs opens,
          (before e.first e.is_chosen).apart
              (boards_stop u.ride stop e.first.ride.departs opens ∙ sym (boards_stop e.first.ride stop e.window.minute there)),
        ) in z))
        (λ _ _. refl) refl

entry_passed :
    {gate : ℕ} {ws : List Window} {u : Valued} {behind taken : List Valued} {r : Ride} → Entry gate ws behind taken r → Entry gate ws (u ∷ behind) taken r
entry_passed e =
    record {
      window = e.window;
      among = e.among;
      first = e.first;
      is_chosen = Memᴰ.tail e.is_chosen;
      within_window = e.within_window;
      sailed = e.sailed;
      delayed = e.delayed;
      meets = e.meets;
    }

pub entries :
    (gate target : ℕ) (chosen : List Valued) → Ordered chosen → SomeShare chosen → (ws : List Window) (v : Valued)
    → Memᴰ v (extract gate target ws chosen) → Entry gate ws chosen (extract gate target ws chosen) v.ride
unfolding extract
entries gate target [] ordered shares ws v there = absurd (Memᴰ.not-nil there)
entries gate target (u ∷ behind) (ahead before ordered) shares ws v there =
    ifb
    (λ b. wanted ws u.ride ≡ b → Memᴰ v (cond b (u ∷ taken) passed) → Entry gate ws (u ∷ behind) (cond b (u ∷ taken) passed) v.ride)
    (wanted ws u.ride)
    (λ _ wants among. head_or_later (Entry gate ws (u ∷ behind) (u ∷ taken) v.ride) among (itself wants)
    (λ later. onward wants (entries gate target behind ordered shares_behind (windows_of gate target u.ride behind ++ ws) v later)))
    (λ _ _ among. entry_passed (entries gate target behind ordered shares_behind ws v among)) refl there
  where
    taken : List Valued
    taken = extract gate target (windows_of gate target u.ride behind ++ ws) behind

    passed : List Valued
    passed = extract gate target ws behind

    shares_behind : SomeShare behind
    shares_behind x among = shares x (Memᴰ.tail among)

    part : (x : Valued) → Memᴰ x taken → Memᴰ x behind
    part x among = extract_member gate target behind (windows_of gate target u.ride behind ++ ws) among

    some_share : 0 < length u.ride.shares
    some_share = shares u (Memᴰ.head refl)

    itself : wanted ws u.ride ≡ true → v ≡ u → Entry gate ws (u ∷ behind) (u ∷ taken) v.ride
    itself wants same =
        let found = wanted_in ws u.ride wants in
        subst (λ (x : Valued). Entry gate ws (u ∷ behind) (u ∷ taken) x.ride) (sym same)
        (entry_itself found.0 found.1 found.2 some_share (λ x among. shares_behind x (part x among)))

    onward :
        wanted ws u.ride ≡ true → Entry gate (windows_of gate target u.ride behind ++ ws) behind taken v.ride
        → Entry gate ws (u ∷ behind) (u ∷ taken) v.ride
    onward wants e =
        let found = wanted_in ws u.ride wants in
        ⊎_elim
        (λ (own : Memᴰ e.window (windows_of gate target u.ride behind)).
        entry_onward found.0 found.1 found.2 some_share ordered part e (window_opened gate target u.ride behind own))
        (λ (older : Memᴰ e.window ws). entry_older some_share before e older)
        (Memᴰ.append_cases (windows_of gate target u.ride behind) e.among)
