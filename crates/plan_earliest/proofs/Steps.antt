-- What one row does to the cells, by trips and stops. Assumes that there are cells for 2,000 trips and 200 stops.
use Prim.Native.Nat.{ℕ, ◌+◌, ◌≤◌, ◌<◌}
use native.Mathlib.Nat.{le_refl}
use native.Mathlib.Omega.{arith}
use mathlib.Core.Bool.{Bool, true}
use mathlib.Core.List.{List}
use mathlib.Core.Logic.{◌⊎◌, inl, inr, ⊎_elim}
use mathlib.Core.Path.{◌≡◌, refl, sym, ap, subst, ◌∙◌}
use lib.ListN.{length, get_or, set}
use lib.Seq.{get_or-set_same, get_or-set_other}
use Rattle.timetable.specs.Limits.{most_stops, most_trips}
use Rattle.timetable.specs.declared.Row.{Row}
use Rattle.plans.specs.Rides.{ready}
use Rattle.plan_cells.specs.Cells.{trip_cells, stop_cells, pair_cells}
use Rattle.plan_cells.specs.Outside.{SameOutside}
use Rattle.plan_cells.proofs.Outside.{outside_same, outside_then, outside_set, set_cell}
use Rattle.plan_earliest.specs.Cells.{aboard, reached_at, Boarded, already, boards, misses, Landed, sooner, no_sooner, RowSailed, missed, sailed}

never_both : {x : ℕ} → x ≡ 0 → x ≡ 1 → ⊥
never_both zero' one = let no' : ⊥ = omega arith in no'

-- a trip is boarded since before, or at this row
abbrev pub Since : (gate : ℕ) → Row → List ℕ → ℕ → Type 0
Since gate row before trip = (aboard before trip ≡ 0 → ⊥) ⊎ ((trip ≡ row.trip) × (ready gate (reached_at before row.board) ≤ row.departure))

-- one is aboard now: the stops' cells are as they were, and no trip's is cleared
record AboardNow (gate : ℕ) (row : Row) (before after : List ℕ) : Type 0 where
  now : aboard after row.trip ≡ 0 → ⊥
  same_stops : (stop : ℕ) → reached_at after stop ≡ reached_at before stop
  still : (trip : ℕ) → aboard after trip ≡ 0 → aboard before trip ≡ 0
  since : (trip : ℕ) → (aboard after trip ≡ 0 → ⊥) → Since gate row before trip

aboard_now :
    (gate : ℕ) (row : Row) {before after : List ℕ} → row.trip < most_trips → pair_cells ≤ length before → Boarded gate row before after true
    → AboardNow gate row before after
aboard_now gate row trip_small room (already n) = record { now = n; same_stops = λ _. refl; still = λ _ z. z; since = λ _ z. inl z }
aboard_now gate row {before} trip_small room (boards in_time) =
    record {
      now = λ z. never_both z (get_or-set_same before at 1 0 inside);
      same_stops = λ stop. get_or-set_other before at (stop_cells + stop) 1 0 (λ e. let no' : ⊥ = omega arith in no');
      still =
          λ trip. set_cell (λ x. x ≡ 0 → aboard before trip ≡ 0) before at (trip_cells + trip) 1 inside
          (λ _ z. absurd (never_both z refl)) (λ _ z. z);
      since =
          λ trip. set_cell (λ x. (x ≡ 0 → ⊥) → Since gate row before trip) before at (trip_cells + trip) 1 inside
          (λ e _. inr (omega arith, omega arith)) (λ _ n. inl n);
    }
  where
    at : ℕ
    at = trip_cells + row.trip

    inside : trip_cells + row.trip < length before
    inside = omega arith

-- one is at the stop by the landing: the trips' cells are as they were, and no stop's is later
record ThereNow (stop landing : ℕ) (before after : List ℕ) : Type 0 where
  by_then : reached_at after stop ≤ landing
  same_trips : (trip : ℕ) → trip < most_trips → aboard after trip ≡ aboard before trip
  no_later : (other : ℕ) → reached_at after other ≤ reached_at before other
  so : (other : ℕ) → (reached_at after other ≡ reached_at before other) ⊎ ((other ≡ stop) × (reached_at after other ≡ landing))

there_now :
    (stop landing : ℕ) {before after : List ℕ} → stop < most_stops → pair_cells ≤ length before → Landed stop landing before after
    → ThereNow stop landing before after
there_now stop landing {before} stop_small room (no_sooner h) =
    record { by_then = h; same_trips = λ _ _. refl; no_later = λ other. le_refl (reached_at before other); so = λ _. inl refl }
there_now stop landing {before} stop_small room (sooner h) =
    record {
      by_then = let v : reached_at (set before at landing) stop ≡ landing = get_or-set_same before at landing 0 inside in omega arith;
      same_trips = λ trip small. get_or-set_other before at (trip_cells + trip) landing 0 (λ e. let no' : ⊥ = omega arith in no');
      no_later =
          λ other. set_cell (λ x. x ≤ reached_at before other) before at (stop_cells + other) landing inside
          (λ e. let same : reached_at before stop ≡ reached_at before other = ap (λ k. get_or before k 0) e in omega arith) (λ _. omega arith);
      so =
          λ other. set_cell (λ x. (x ≡ reached_at before other) ⊎ ((other ≡ stop) × (x ≡ landing))) before at (stop_cells + other) landing inside
          (λ e. inr (omega arith, refl)) (λ _. inl refl);
    }
  where
    at : ℕ
    at = stop_cells + stop

    inside : stop_cells + stop < length before
    inside = omega arith

-- one row: who is aboard or can board lands by a + M, and nothing else changes
pub record Step (gate : ℕ) (row : Row) (landing : ℕ) (before after : List ℕ) : Type 0 where
  pub misses : aboard after row.trip ≡ 0 → row.departure < ready gate (reached_at before row.board)
  pub lands : (aboard after row.trip ≡ 0 → ⊥) → reached_at after row.land ≤ landing
  pub still : (trip : ℕ) → trip < most_trips → aboard after trip ≡ 0 → aboard before trip ≡ 0
  pub no_later : (stop : ℕ) → reached_at after stop ≤ reached_at before stop
  pub since : (trip : ℕ) → trip < most_trips → (aboard after trip ≡ 0 → ⊥) → Since gate row before trip
  pub so :
      (stop : ℕ)
      → (reached_at after stop ≡ reached_at before stop) ⊎ ((stop ≡ row.land) × (aboard after row.trip ≡ 0 → ⊥) × (reached_at after stop ≡ landing))

module _ (gate : ℕ) (row : Row) (landing : ℕ) (trip_small : row.trip < most_trips) (land_small : row.land < most_stops) where
  boarded_behind : {before after : List ℕ} {b : Bool} → Boarded gate row before after b → SameOutside trip_cells pair_cells before after
  boarded_behind {before} (already n) = outside_same trip_cells pair_cells before
  boarded_behind {before} (boards in_time) = outside_set before (trip_cells + row.trip) 1 (omega arith) (omega arith)
  boarded_behind {before} (misses z late) = outside_same trip_cells pair_cells before

  -- aboard, and then there
  lands_step :
      {before between after : List ℕ} → AboardNow gate row before between → ThereNow row.land landing between after
      → Step gate row landing before after
  lands_step {before} {between} {after} a l =
      record {
        misses = λ z. absurd (aboard_after z);
        lands = λ _. l.by_then;
        still = λ trip small z. a.still trip (sym (l.same_trips trip small) ∙ z);
        no_later = λ stop. subst (λ k. reached_at after stop ≤ k) (a.same_stops stop) (l.no_later stop);
        since = λ trip small n. a.since trip (λ z. n (l.same_trips trip small ∙ z));
        so =
            λ stop. ⊎_elim (λ e. inl (e ∙ a.same_stops stop))
            (λ (e : (stop ≡ row.land) × (reached_at after stop ≡ landing)). inr (e.0, aboard_after, e.1)) (l.so stop);
      }
    where
      aboard_after : aboard after row.trip ≡ 0 → ⊥
      aboard_after z = a.now (sym (l.same_trips row.trip trip_small) ∙ z)

  misses_step : (work : List ℕ) → aboard work row.trip ≡ 0 → row.departure < ready gate (reached_at work row.board) → Step gate row landing work work
  misses_step work z late =
      record {
        misses = λ _. late;
        lands = λ n. absurd (n z);
        still = λ _ _ e. e;
        no_later = λ stop. le_refl (reached_at work stop);
        since = λ _ _ n. inl n;
        so = λ _. inl refl;
      }

  pub sails_step : {before after : List ℕ} → pair_cells ≤ length before → RowSailed gate row landing before after → Step gate row landing before after
  sails_step {before} room (missed (misses z late)) = misses_step before z late
  sails_step room (sailed b l) =
      lands_step (aboard_now gate row trip_small room b)
      (there_now row.land landing land_small (omega (arith, (boarded_behind b).same_length)) l)

  landed_behind : {before after : List ℕ} → Landed row.land landing before after → SameOutside trip_cells pair_cells before after
  landed_behind {before} (sooner h) = outside_set before (stop_cells + row.land) landing (omega arith) (omega arith)
  landed_behind {before} (no_sooner h) = outside_same trip_cells pair_cells before

  -- the cells behind stay
  pub sails_behind : {before after : List ℕ} → RowSailed gate row landing before after → SameOutside trip_cells pair_cells before after
  sails_behind (missed b) = boarded_behind b
  sails_behind (sailed b l) = outside_then (boarded_behind b) (landed_behind l)
