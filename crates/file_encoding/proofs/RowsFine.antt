-- Rows that keep all rules have a fine verdict: the check refuses nothing else. Assumes nothing.
use Prim.Native.Nat.{ℕ, zero, suc, ◌≤◌, ◌<◌}
use mathlib.Core.Bool.{true, not, ◌&&◌}
use mathlib.Core.List.{List, [], ◌∷◌}
use mathlib.Core.Logic.{◌⊎◌, inl, inr}
use mathlib.Core.Option.{Option, none, some}
use mathlib.Core.Path.{◌≡◌, refl, ap, sym, subst, ◌∙◌}
use native.Mathlib.Omega.{arith}
use native.Mathlib.Nat.{eq-or-lt_of_le}
use lib.Dec.{eqb}
use lib.ListN.{length}
use borrow.Author.Tests.{lt-ltb, le-leb, eq-eqb, ne_eqb, eqb-true, eqb-false}
use Rattle.laws.proofs.Tests.{ifb, both}
use Rattle.timetable.specs.declared.Row.{Row}
use Rattle.timetable.specs.declared.Ranges.{Ranges}
use Rattle.timetable.specs.Timetable.{row_of}
use Rattle.timetable.specs.Verdict.{fine, unless}
use Rattle.timetable.specs.Rows.{own_rule, departure_rule, last_of_trip, follows, trip_rule, row_verdict, rows_verdict}
use Rattle.timetable.specs.Limits.{most_trips}
use Rattle.timetable.proofs.Verdicts.{both_fine, holding_fine}
use Rattle.timetable.proofs.Behind.{behind, behind_next, last_here, last_further}
use Rattle.timetable.proofs.RowsSound.{Kept}
use Rattle.timetable.specs.Sound.{OwnSound, RowsSound}

own_rule_kept : (g : Ranges) (r : Row) → OwnSound g r → own_rule g r ≡ true
unfolding own_rule
own_rule_kept g r own =
    both (both (both (both (both (both (both (lt-ltb r.board g.stops own.board) (lt-ltb r.land g.stops own.land))
    (ap not (ne_eqb r.board r.land own.differ))) (lt-ltb r.departure r.arrival own.onward))
    (le-leb r.departure g.lastminute own.departure)) (le-leb r.arrival g.lastminute own.arrival))
    (lt-ltb r.trip most_trips own.trip)) (lt-ltb r.class g.classes own.class)

-- row i is the nearest of the trip behind row j
record Nearest (rows : List Row) (trip j i : ℕ) : Type 0 where
  earlier : i < j
  same : (row_of rows i).trip ≡ trip
  between : (k : ℕ) → i < k → k < j → (row_of rows k).trip ≡ trip → ⊥
  found : last_of_trip trip (behind [] rows j) ≡ some (row_of rows i)

-- looking back finds no row of the trip, or the nearest one
LookedBack : List Row → ℕ → ℕ → Type 0
LookedBack rows trip j = (last_of_trip trip (behind [] rows j) ≡ none) ⊎ ((i : ℕ) × Nearest rows trip j i)

nearest_here : (rows : List Row) (trip j : ℕ) → j < length rows → (row_of rows j).trip ≡ trip → LookedBack rows trip (suc j)
unfolding LookedBack
nearest_here rows trip j h e =
    inr (
      j,
      record {
        earlier = omega arith;
        same = e;
        between = λ k above below same. absurd (let z : ⊥ = omega arith in z);
        found = ap (last_of_trip trip) (behind_next [] rows j h) ∙ last_here trip (row_of rows j) (behind [] rows j) e;
      },
    )

nearest_further : (rows : List Row) (trip j : ℕ) → j < length rows → ((row_of rows j).trip ≡ trip → ⊥) → LookedBack rows trip j
    → LookedBack rows trip (suc j)
unfolding LookedBack
nearest_further rows trip j h other (inl e) =
    inl (ap (last_of_trip trip) (behind_next [] rows j h) ∙ last_further trip (row_of rows j) (behind [] rows j) other ∙ e)
nearest_further rows trip j h other (inr (i, n)) =
    inr (
      i,
      record {
        earlier = omega (arith, n.earlier);
        same = n.same;
        between =
            λ k above below same. elim (eq-or-lt_of_le (let z : k ≤ j = omega arith in z)) [
              | inl e ↦ other (ap (λ (x : ℕ). (row_of rows x).trip) (sym e) ∙ same)
              | inr l ↦ n.between k above l same
            ];
        found =
            ap (last_of_trip trip) (behind_next [] rows j h) ∙ last_further trip (row_of rows j) (behind [] rows j) other ∙ n.found;
      },
    )

looked_back : (rows : List Row) (trip j : ℕ) → j ≤ length rows → LookedBack rows trip j
unfolding LookedBack behind last_of_trip
looked_back rows trip zero h = inl refl
looked_back rows trip (suc j) h =
    ifb (λ b. LookedBack rows trip (suc j)) (eqb (row_of rows j).trip trip)
    (λ e. nearest_here rows trip j (omega arith) (eqb-true (row_of rows j).trip trip e))
    (λ e. nearest_further rows trip j (omega arith) (eqb-false (row_of rows j).trip trip e)
    (looked_back rows trip j (omega arith)))

nothing_followed : (back : List Row) (r : Row) → last_of_trip r.trip back ≡ none → trip_rule back r ≡ true
unfolding trip_rule follows
nothing_followed back r e = ap (λ (o : Option Row). follows o r) e

row_followed : (back : List Row) (p r : Row) → last_of_trip r.trip back ≡ some p → p.land ≡ r.board → p.arrival ≤ r.departure
    → trip_rule back r ≡ true
unfolding trip_rule follows
row_followed back p r e land arrival =
    ap (λ (o : Option Row). follows o r) e ∙ both (eq-eqb p.land r.board land) (le-leb p.arrival r.departure arrival)

first_departs : (r : Row) → departure_rule [] r ≡ true
unfolding departure_rule
first_departs r = refl

later_departs : (p r : Row) (back : List Row) → p.departure ≤ r.departure → departure_rule (p ∷ back) r ≡ true
unfolding departure_rule
later_departs p r back h = le-leb p.departure r.departure h

module _ (g : Ranges) (rows : List Row) (sound : RowsSound g rows) where
  trip_rule_kept : (j : ℕ) → j < length rows → trip_rule (behind [] rows j) (row_of rows j) ≡ true
  unfolding LookedBack
  trip_rule_kept j h =
      elim (looked_back rows (row_of rows j).trip j (omega arith)) [
        | inl e ↦ nothing_followed (behind [] rows j) (row_of rows j) e
        | inr p ↦
            let joined = sound.joins p.0 j p.1.earlier h p.1.same p.1.between in
            row_followed (behind [] rows j) (row_of rows p.0) (row_of rows j) p.1.found joined.0 joined.1
      ]

  departure_rule_kept : (j : ℕ) → j < length rows → departure_rule (behind [] rows j) (row_of rows j) ≡ true
  unfolding behind
  departure_rule_kept zero h = first_departs (row_of rows 0)
  departure_rule_kept (suc j) h =
      subst (λ (back : List Row). departure_rule back (row_of rows (suc j)) ≡ true) (sym (behind_next [] rows j (omega arith)))
      (later_departs (row_of rows j) (row_of rows (suc j)) (behind [] rows j) (sound.departures j (suc j) (omega arith) h))

row_fine : (g : Ranges) (back : List Row) (i : ℕ) (r : Row) → Kept g back r → row_verdict g back i r ≡ fine
unfolding row_verdict
row_fine g back i r kept =
    both_fine (unless (own_rule g r) 4 i) (unless (departure_rule back r && trip_rule back r) 5 i)
    (holding_fine (own_rule g r) 4 i kept.own)
    (holding_fine (departure_rule back r && trip_rule back r) 5 i (both kept.departures kept.trip))

each_fine : (g : Ranges) (back : List Row) (i : ℕ) (rows : List Row)
    → ((j : ℕ) → j < length rows → Kept g (behind back rows j) (row_of rows j)) → rows_verdict g back i rows ≡ fine
unfolding rows_verdict behind
each_fine g back i [] kept = refl
each_fine g back i (r ∷ rows) kept =
    both_fine (row_verdict g back i r) (rows_verdict g (r ∷ back) (suc i) rows) (row_fine g back i r (kept 0 (omega arith)))
    (each_fine g (r ∷ back) (suc i) rows (λ j h. kept (suc j) (omega arith)))

-- rows that keep all rules are fine
pub rows_fine : (g : Ranges) (rows : List Row) → RowsSound g rows → rows_verdict g [] 0 rows ≡ fine
rows_fine g rows sound =
    each_fine g [] 0 rows
    (λ j h. record {
      own = own_rule_kept g (row_of rows j) (sound.own j h);
      departures = departure_rule_kept g rows sound j h;
      trip = trip_rule_kept g rows sound j h;
    })
