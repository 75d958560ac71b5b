-- What a fine verdict tells of the rows of a timetable, by their file places. Assumes nothing.
use Prim.Native.Nat.{ℕ, zero, suc, ◌≤◌, ◌<◌}
use mathlib.Core.Bool.{true, not, ◌&&◌}
use mathlib.Core.List.{List, [], ◌∷◌}
use mathlib.Core.Logic.{inl, inr}
use mathlib.Core.Option.{Option, some}
use mathlib.Core.Path.{◌≡◌, ap, subst}
use native.Mathlib.Omega.{arith}
use native.Mathlib.Nat.{eq-or-lt_of_le, le_of_eq, le_trans}
use lib.Dec.{ltb, leb, eqb}
use lib.ListN.{length}
use borrow.Author.Tests.{leb-true, ltb-true, eqb-true, eqb-false, not-true}
use Rattle.laws.proofs.Tests.{both_left, both_right}
use Rattle.timetable.specs.declared.Row.{Row}
use Rattle.timetable.specs.declared.Ranges.{Ranges}
use Rattle.timetable.specs.Timetable.{row_of}
use Rattle.timetable.specs.Verdict.{fine, unless}
use Rattle.timetable.specs.Rows.{own_rule, departure_rule, last_of_trip, follows, trip_rule, row_verdict, rows_verdict}
use Rattle.timetable.specs.Limits.{most_trips}
use Rattle.timetable.specs.Sound.{OwnSound, RowsSound}
use Rattle.timetable.proofs.Verdicts.{first_fine, second_fine, rule_holds}
use Rattle.timetable.proofs.Behind.{behind, behind_next, nearest_of_trip}

pub own_gives : (g : Ranges) (r : Row) → own_rule g r ≡ true → OwnSound g r
unfolding own_rule
own_gives g r e =
    let board = ltb r.board g.stops in
    let land = board && ltb r.land g.stops in
    let differ = land && not (eqb r.board r.land) in
    let onward = differ && ltb r.departure r.arrival in
    let departure = onward && leb r.departure g.lastminute in
    let arrival = departure && leb r.arrival g.lastminute in
    let trip = arrival && ltb r.trip most_trips in
    let e₆ = both_left trip (ltb r.class g.classes) e in
    let e₅ = both_left arrival (ltb r.trip most_trips) e₆ in
    let e₄ = both_left departure (leb r.arrival g.lastminute) e₅ in
    let e₃ = both_left onward (leb r.departure g.lastminute) e₄ in
    let e₂ = both_left differ (ltb r.departure r.arrival) e₃ in
    let e₁ = both_left land (not (eqb r.board r.land)) e₂ in
    record {
      board = ltb-true r.board g.stops (both_left board (ltb r.land g.stops) e₁);
      land = ltb-true r.land g.stops (both_right board (ltb r.land g.stops) e₁);
      differ =
          eqb-false r.board r.land
          (not-true (eqb r.board r.land) (both_right land (not (eqb r.board r.land)) e₂));
      onward = ltb-true r.departure r.arrival (both_right differ (ltb r.departure r.arrival) e₃);
      departure = leb-true r.departure g.lastminute (both_right onward (leb r.departure g.lastminute) e₄);
      arrival = leb-true r.arrival g.lastminute (both_right departure (leb r.arrival g.lastminute) e₅);
      trip = ltb-true r.trip most_trips (both_right arrival (ltb r.trip most_trips) e₆);
      class = ltb-true r.class g.classes (both_right trip (ltb r.class g.classes) e);
    }

-- a row that keeps its rules, `back` behind it
pub record Kept (g : Ranges) (back : List Row) (r : Row) : Type 0 where
  pub own : own_rule g r ≡ true
  pub departures : departure_rule back r ≡ true
  pub trip : trip_rule back r ≡ true

row_keeps : (g : Ranges) (back : List Row) (i : ℕ) (r : Row) → row_verdict g back i r ≡ fine → Kept g back r
unfolding row_verdict
row_keeps g back i r e =
    let own = unless (own_rule g r) 4 i in
    let five = departure_rule back r && trip_rule back r in
    let kept = rule_holds five 5 i (second_fine own (unless five 5 i) e) in
    record {
      own = rule_holds (own_rule g r) 4 i (first_fine own (unless five 5 i) e);
      departures = both_left (departure_rule back r) (trip_rule back r) kept;
      trip = both_right (departure_rule back r) (trip_rule back r) kept;
    }

rows_keep : (g : Ranges) (back : List Row) (i : ℕ) (rows : List Row) → rows_verdict g back i rows ≡ fine
    → (j : ℕ) → j < length rows → Kept g (behind back rows j) (row_of rows j)
unfolding rows_verdict behind
rows_keep g back i [] e j h = absurd (let z : ⊥ = omega arith in z)
rows_keep g back i (r ∷ rows) e zero h =
    row_keeps g back i r (first_fine (row_verdict g back i r) (rows_verdict g (r ∷ back) (suc i) rows) e)
rows_keep g back i (r ∷ rows) e (suc j) h =
    rows_keep g (r ∷ back) (suc i) rows (second_fine (row_verdict g back i r) (rows_verdict g (r ∷ back) (suc i) rows) e) j (omega arith)

departure_kept : (p r : Row) (back : List Row) → departure_rule (p ∷ back) r ≡ true → p.departure ≤ r.departure
unfolding departure_rule
departure_kept p r back e = leb-true p.departure r.departure e

followed : (p r : Row) → follows (some p) r ≡ true → (p.land ≡ r.board) × (p.arrival ≤ r.departure)
unfolding follows
followed p r e = (
  eqb-true p.land r.board (both_left (eqb p.land r.board) (leb p.arrival r.departure) e),
  leb-true p.arrival r.departure (both_right (eqb p.land r.board) (leb p.arrival r.departure) e),
)

trip_kept : (back : List Row) (p r : Row) → last_of_trip r.trip back ≡ some p → trip_rule back r ≡ true
    → (p.land ≡ r.board) × (p.arrival ≤ r.departure)
unfolding trip_rule
trip_kept back p r found e = followed p r (subst (λ (o : Option Row). follows o r ≡ true) found e)

module _ (g : Ranges) (rows : List Row) (e : rows_verdict g [] 0 rows ≡ fine) where
  next_departs : (j : ℕ) → suc j < length rows → (row_of rows j).departure ≤ (row_of rows (suc j)).departure
  next_departs j h =
      departure_kept (row_of rows j) (row_of rows (suc j)) (behind [] rows j)
      (subst (λ (back : List Row). departure_rule back (row_of rows (suc j)) ≡ true) (behind_next [] rows j (omega arith))
      (rows_keep g [] 0 rows e (suc j) h).departures)

  departures_kept : (i j : ℕ) → i ≤ j → j < length rows → (row_of rows i).departure ≤ (row_of rows j).departure
  departures_kept i zero p h = le_of_eq (ap (λ k. (row_of rows k).departure) (let z : i ≡ 0 = omega arith in z))
  departures_kept i (suc j) p h =
      elim (eq-or-lt_of_le p) [
        | inl e ↦ le_of_eq (ap (λ k. (row_of rows k).departure) e)
        | inr l ↦ le_trans (departures_kept i j (omega arith) (omega arith)) (next_departs j h)
      ]

  joins_kept : (i j : ℕ) → i < j → j < length rows → (row_of rows i).trip ≡ (row_of rows j).trip
      → ((k : ℕ) → i < k → k < j → (row_of rows k).trip ≡ (row_of rows j).trip → ⊥)
      → ((row_of rows i).land ≡ (row_of rows j).board) × ((row_of rows i).arrival ≤ (row_of rows j).departure)
  joins_kept i j p h same between =
      trip_kept (behind [] rows j) (row_of rows i) (row_of rows j)
      (nearest_of_trip rows (row_of rows j).trip i j p (omega arith) same between) (rows_keep g [] 0 rows e j h).trip

-- all that a fine verdict on the rows tells
pub rows_give : (g : Ranges) (rows : List Row) → rows_verdict g [] 0 rows ≡ fine → RowsSound g rows
rows_give g rows e =
    record {
      own = λ i h. own_gives g (row_of rows i) (rows_keep g [] 0 rows e i h).own;
      departures = departures_kept g rows e;
      joins = joins_kept g rows e;
    }
