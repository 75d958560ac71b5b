-- Where the best ride of a row comes from, and which rows are chosen. Assumes nothing.
use Prim.Native.Nat.{ℕ, suc, ◌≤◌, ◌<◌}
use native.Mathlib.Nat.{le_refl, eq-or-lt_of_le}
use native.Mathlib.Omega.{arith}
use mathlib.Core.Bool.{true, cond}
use mathlib.Core.List.Memᴰ
use mathlib.Core.List.{List, Memᴰ}
use mathlib.Core.Logic.{⊎_elim, ◌≢◌}
use mathlib.Core.Option.{Option, none, some}
use mathlib.Core.Path.{◌≡◌, refl, sym, ap, subst, ◌∙◌}
use lib.Dec.{eqb}
use lib.ListN.{length}
use borrow.Author.Tests.{eqb-true, eqb-false}
use Rattle.laws.proofs.Options.{absent, same_thing}
use Rattle.laws.proofs.Tests.{ifb}
use Rattle.laws.proofs.Members.{head_or_later}
use Rattle.laws.proofs.Downward.{downward, from_greater}
use Rattle.timetable.specs.Timetable.{Timetable, row_of}
use Rattle.plans.specs.Rides.{Ride, IsRide}
use Rattle.plans.specs.Trips.{NextOfTrip}
use Rattle.plans.specs.Worth.{Valued}
use Rattle.plans.specs.Chosen.{Aim, leads, first_at, get_off, stay_on, row_ride, boarded_at}
use Rattle.plans.proofs.AtMost.{least_either}
use Rattle.plans.specs.FromRow.{chosen_from, best_at, next_from, off_at}
use Rattle.plans.proofs.FromRow.{chosen_row, chosen_end, next_row, next_end, best_row_lem}
use Rattle.plans.proofs.Choice.{Choice, worthless, at_target, behind, added, choice, others_member}

-- a trip's first row from row i on
pub record FirstOf (t : Timetable) (trip i : ℕ) : Type 0 where
  pub row : ℕ
  pub later : i ≤ row
  pub inside : row < length t.rows
  pub one_trip : (row_of t.rows row).trip ≡ trip
  pub first : (k : ℕ) → i ≤ k → k < row → (row_of t.rows k).trip ≢ trip

pub first_here : (t : Timetable) (trip i : ℕ) → i < length t.rows → (row_of t.rows i).trip ≡ trip → FirstOf t trip i
first_here t trip i h same =
    record { row = i; later = le_refl i; inside = h; one_trip = same; first = λ k a b. absurd (let z : ⊥ = omega arith in z) }

pub first_later : (t : Timetable) (trip i : ℕ) → (row_of t.rows i).trip ≢ trip → FirstOf t trip (suc i) → FirstOf t trip i
first_later t trip i other f =
    record {
      row = f.row;
      later = (let z : i ≤ f.row = omega (arith, f.later) in z);
      inside = f.inside;
      one_trip = f.one_trip;
      first = λ k a b. ⊎_elim (λ e. subst (λ x. (row_of t.rows x).trip ≢ trip) e other) (λ c. f.first k c b) (eq-or-lt_of_le a);
    }

module _ (aim : Aim) (t : Timetable) where
  -- the best ride of row i gets off where the row lands, if staying on is dearer, or is that of the trip's next row, boarded here
  pub data Source (i : ℕ) : Valued → Type 0 where
    off_here :
        {w : ℕ} → off_at aim t i ≡ some w
        → ((u : Valued) → next_from aim t (suc i) (row_of t.rows i).trip ≡ some u → w < u.worth)
        → Source i (record { ride = row_ride t.tables i (row_of t.rows i); worth = w })
    stays :
        {u : Valued} {j : ℕ} → NextOfTrip t i j → best_at aim t j ≡ some u
        → Source i (record { ride = boarded_at i (row_of t.rows i) u.ride; worth = u.worth })

  pub next_is :
      (trip i : ℕ) → i ≤ length t.rows → (u : Valued) → next_from aim t i trip ≡ some u → (f : FirstOf t trip i) × (best_at aim t f.row ≡ some u)
  unfolding first_here first_later
  next_is trip =
      downward (λ i. (u : Valued) → next_from aim t i trip ≡ some u → Next i u) (length t.rows) (λ u e. absent (sym (next_end aim t trip) ∙ e))
      (λ i h further u e.
      ifb (λ b. eqb (row_of t.rows i).trip trip ≡ b → cond b (best_at aim t i) (next_from aim t (suc i) trip) ≡ some u → Next i u)
      (eqb (row_of t.rows i).trip trip) (λ q _ k. (first_here t trip i h (eqb-true (row_of t.rows i).trip trip q), k))
      (λ q _ k. let found = further u k in (first_later t trip i (eqb-false (row_of t.rows i).trip trip q) found.0, found.1)) refl
      (sym (next_row aim t i trip h) ∙ e))
    where
      Next : ℕ → Valued → Type 0
      Next i u = (f : FirstOf t trip i) × (best_at aim t f.row ≡ some u)

  got_off :
      (r : Ride) (o : Option ℕ) (i : ℕ) (v : Valued) → r ≡ row_ride t.tables i (row_of t.rows i) → o ≡ off_at aim t i
      → ((u : Valued) → next_from aim t (suc i) (row_of t.rows i).trip ≡ some u → v.worth < u.worth) → get_off r o ≡ some v → Source i v
  unfolding get_off
  got_off r none i v p q dearer e = absent e
  got_off r (some w) i v p q dearer e =
      subst (λ (x : Valued). Source i x) (ap (λ (x : Ride). record { ride = x; worth = w }) (sym p) ∙ same_thing e)
      (off_here (sym q) (λ u n. subst (λ (x : Valued). x.worth < u.worth) (sym (same_thing e)) (dearer u n)))

  stayed : (o : Option Valued) (i : ℕ) (v : Valued) → i < length t.rows → next_from aim t (suc i) (row_of t.rows i).trip ≡ o
      → stay_on i (row_of t.rows i) o ≡ some v → Source i v
  unfolding stay_on
  stayed none i v h p e = absent e
  stayed (some u) i v h p e =
      let found = next_is (row_of t.rows i).trip (suc i) h u p in
      let next = found.0 in
      subst (λ (x : Valued). Source i x) (same_thing e)
      (stays {u = u} (record { later = next.later; inside = next.inside; one_trip = next.one_trip; first = next.first }) found.1)

  dearer_on :
      (i w : ℕ) (o : Option Valued) → ((x : Valued) → stay_on i (row_of t.rows i) o ≡ some x → w < x.worth) → (u : Valued) → o ≡ some u
      → w < u.worth
  unfolding stay_on
  dearer_on i w o dearer u e =
      dearer (record { ride = boarded_at i (row_of t.rows i) u.ride; worth = u.worth }) (ap (stay_on i (row_of t.rows i)) e)

  pub best_source : (i : ℕ) → i < length t.rows → (v : Valued) → best_at aim t i ≡ some v → Source i v
  best_source i h v e =
      ⊎_elim (λ k. got_off _ _ i v refl refl (dearer_on i v.worth _ k.1) k.0) (λ k. stayed _ i v h refl k)
      (least_either (get_off (row_ride t.tables i (row_of t.rows i)) (off_at aim t i))
      (stay_on i (row_of t.rows i) (next_from aim t (suc i) (row_of t.rows i).trip)) (sym (best_row_lem aim t i) ∙ e))

  -- it boards at row i
  pub record Boards (i : ℕ) (v : Valued) : Type 0 where
    pub row : v.ride.board ≡ i
    pub stop : v.ride.from ≡ (row_of t.rows i).board
    pub minute : v.ride.departs ≡ (row_of t.rows i).departure

  pub source_boards : (i : ℕ) (v : Valued) → Source i v → Boards i v
  source_boards i v (off_here e dearer) = record { row = refl; stop = refl; minute = refl }
  source_boards i v (stays next e) = record { row = refl; stop = refl; minute = refl }

  pub best_boards : (i : ℕ) → i < length t.rows → (v : Valued) → best_at aim t i ≡ some v → Boards i v
  best_boards i h v e = source_boards i v (best_source i h v e)

  -- what the scan says of a chosen ride
  pub record Picked (i : ℕ) (v : Valued) : Type 0 where
    pub here : i ≤ v.ride.board
    pub inside : v.ride.board < length t.rows
    pub best : best_at aim t v.ride.board ≡ some v
    pub elsewhere : v.ride.from ≢ aim.target
    pub leading : leads aim.margin v.worth (first_at (chosen_from aim t (suc v.ride.board)) v.ride.from) ≡ true

  picked_later : (i : ℕ) (v : Valued) → Picked (suc i) v → Picked i v
  picked_later i v p =
      record {
        here = (let z : i ≤ v.ride.board = omega (arith, p.here) in z);
        inside = p.inside;
        best = p.best;
        elsewhere = p.elsewhere;
        leading = p.leading;
      }

  pub picked_here :
      (i : ℕ) → i < length t.rows → (v : Valued) → best_at aim t i ≡ some v → v.ride.from ≢ aim.target
      → leads aim.margin v.worth (first_at (chosen_from aim t (suc i)) v.ride.from) ≡ true → Picked i v
  picked_here i h v e apart lead =
      let at : i ≡ v.ride.board = sym (best_boards i h v e).row in
      record {
        here = (let z : i ≤ v.ride.board = omega arith in z);
        inside = subst (λ k. k < length t.rows) at h;
        best = subst (λ k. best_at aim t k ≡ some v) at e;
        elsewhere = apart;
        leading = subst (λ k. leads aim.margin v.worth (first_at (chosen_from aim t (suc k)) v.ride.from) ≡ true) at lead;
      }

  picked_by :
      (i : ℕ) → i < length t.rows → ((v : Valued) → Memᴰ v (chosen_from aim t (suc i)) → Picked (suc i) v)
      → (best : Option Valued) (chosen : List Valued) → best_at aim t i ≡ best → Choice aim (chosen_from aim t (suc i)) best chosen
      → (v : Valued) → Memᴰ v chosen → Picked i v
  picked_by i h later best chosen e worthless v m = picked_later i v (later v m)
  picked_by i h later best chosen e (at_target p) v m = picked_later i v (later v m)
  picked_by i h later best chosen e (behind p) v m = picked_later i v (later v m)
  picked_by i h later best chosen e (added {v = u} apart lead) v m =
      head_or_later (Picked i v) m
      (λ q. subst (λ (x : Valued). Picked i x) (sym q) (picked_here i h u e apart lead))
      (λ n. picked_later i v (later v (others_member u.ride (chosen_from aim t (suc i)) n)))

  pub chosen_picked : (i : ℕ) → i ≤ length t.rows → (v : Valued) → Memᴰ v (chosen_from aim t i) → Picked i v
  chosen_picked =
      downward (λ i. (v : Valued) → Memᴰ v (chosen_from aim t i) → Picked i v) (length t.rows)
      (λ v m. absurd (Memᴰ.not-nil (subst (λ (l : List Valued). Memᴰ v l) (chosen_end aim t) m)))
      (λ i h later v m. picked_by i h later _ _ refl (choice aim (best_at aim t i) (chosen_from aim t (suc i))) v
      (subst (λ (l : List Valued). Memᴰ v l) (chosen_row aim t i h) m))

  -- what holds of getting off, given that it holds of the chosen rides behind, and of staying on, holds of each best ride
  pub each_best :
      (P : Valued → Type 0)
      → ((i : ℕ) → i < length t.rows → ((u : Valued) → Memᴰ u (chosen_from aim t (suc i)) → P u) → (w : ℕ)
      → off_at aim t i ≡ some w
      → P (record { ride = row_ride t.tables i (row_of t.rows i); worth = w }))
      → ((i j : ℕ) → i < j → j < length t.rows → (row_of t.rows j).trip ≡ (row_of t.rows i).trip → (u : Valued) → best_at aim t j ≡ some u
      → P u
      → P (record { ride = boarded_at i (row_of t.rows i) u.ride; worth = u.worth }))
      → (i : ℕ) → i < length t.rows → (v : Valued) → best_at aim t i ≡ some v → P v
  each_best P gets_off stays_on =
      from_greater (λ i. (v : Valued) → best_at aim t i ≡ some v → P v) (length t.rows)
      (λ i h all v e. at_row i h all v (best_source i h v e))
    where
      at_row : (i : ℕ) → i < length t.rows → ((j : ℕ) → i < j → j < length t.rows → (v : Valued) → best_at aim t j ≡ some v → P v)
          → (v : Valued) → Source i v → P v
      at_row i h all v (off_here {w = w} e dearer) =
          gets_off i h (λ u m. let p = chosen_picked (suc i) h u m in all u.ride.board p.here p.inside u p.best) w e
      at_row i h all v (stays {u = u} {j = j} next e) =
          stays_on i j next.later next.inside next.one_trip u e (all j next.later next.inside u e)

  -- a ride of a later row of the trip, boarded at row i already, is a ride
  pub boarded_earlier :
      (i j : ℕ) → i < j → (row_of t.rows j).trip ≡ (row_of t.rows i).trip → (r : Ride) → r.board ≡ j → IsRide t r
      → IsRide t (boarded_at i (row_of t.rows i) r)
  boarded_earlier i j before same r at is =
      record {
        onward = (let z : i ≤ r.leave = omega (arith, is.onward) in z);
        inside = is.inside;
        one_trip = sym same ∙ ap (λ k. (row_of t.rows k).trip) (sym at) ∙ is.one_trip;
        as_timed = ap (boarded_at i (row_of t.rows i)) is.as_timed;
      }

  pub row_is_ride : (i : ℕ) → i < length t.rows → IsRide t (row_ride t.tables i (row_of t.rows i))
  row_is_ride i h = record { onward = le_refl i; inside = h; one_trip = refl; as_timed = refl }

  pub best_is_ride : (i : ℕ) → i < length t.rows → (v : Valued) → best_at aim t i ≡ some v → IsRide t v.ride
  best_is_ride =
      each_best (λ v. IsRide t v.ride) (λ i h _ w _. row_is_ride i h)
      (λ i j a b s u e r. boarded_earlier i j a s u.ride (best_boards j b u e).row r)
