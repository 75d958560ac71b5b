-- The rows' verdict, one row at a time: a row that breaks a rule decides it, a row that keeps both hands on to the next. Assumes nothing.
use Prim.Native.Nat.{ℕ, suc, ◌+◌}
use mathlib.Core.Bool.{Bool, true, false, ◌&&◌}
use mathlib.Core.List.{List, [], ◌∷◌}
use mathlib.Core.Path.{◌≡◌, refl, ap, sym, subst, ◌∙◌}
use lib.Dec.{leb, leb-zero}
use Rattle.timetable.specs.declared.Row.{Row}
use Rattle.timetable.specs.declared.Ranges.{Ranges}
use Rattle.timetable.specs.Verdict.{Verdict, fine, fault, or_else, unless}
use Rattle.timetable.specs.Rows.{own_rule, departure_rule, last_of_trip, follows, trip_rule, row_verdict, rows_verdict}
use Rattle.file_layout.specs.Decode.{row_at, rows_from}

-- the departure of the row before, 0 ahead of the first
unfoldable pub departure_before : List Row → ℕ
departure_before [] = 0
departure_before (p ∷ back) = p.departure

departures_rise : (back : List Row) (r : Row) → departure_rule back r ≡ leb (departure_before back) r.departure
unfolding departure_rule departure_before
departures_rise [] r = sym (leb-zero r.departure)
departures_rise (p ∷ back) r = refl

-- both halves of 5, by the departure before and the row found
rule_five : (back : List Row) (r : Row)
    → (departure_rule back r && trip_rule back r) ≡ (leb (departure_before back) r.departure && follows (last_of_trip r.trip back) r)
unfolding trip_rule
rule_five back r = ap (λ b. b && follows (last_of_trip r.trip back) r) (departures_rise back r)

module _ (g : Ranges) (width : ℕ) (s : List ℕ) (back : List Row) (i at : ℕ) where
  -- the verdict on `left` rows
  abbrev rest : ℕ → Verdict
  rest left = rows_verdict g back i (rows_from width s at left)

  turn : (fewer left : ℕ) → suc fewer ≡ left
      → rest left ≡ or_else (row_verdict g back i (row_at s at)) (rows_verdict g (row_at s at ∷ back) (suc i) (rows_from width s (at + width) fewer))
  unfolding rows_verdict rows_from
  turn fewer left e =
      subst
      (λ n. rest n ≡ or_else (row_verdict g back i (row_at s at)) (rows_verdict g (row_at s at ∷ back) (suc i) (rows_from width s (at + width) fewer)))
      e refl

  -- where the verdict on the row is known
  row_verdict_lem : (own order : Bool) → own_rule g (row_at s at) ≡ own → (departure_rule back (row_at s at) && trip_rule back (row_at s at)) ≡ order
      → row_verdict g back i (row_at s at) ≡ or_else (unless own 4 i) (unless order 5 i)
  unfolding row_verdict
  row_verdict_lem own order p q = cc

  module _ (fewer left : ℕ) (one : suc fewer ≡ left) where
    row_decides : (v : Verdict) → row_verdict g back i (row_at s at) ≡ v
        → rest left ≡ or_else v (rows_verdict g (row_at s at ∷ back) (suc i) (rows_from width s (at + width) fewer))
    row_decides v e =
        turn fewer left one
        ∙ ap (λ x. or_else x (rows_verdict g (row_at s at ∷ back) (suc i) (rows_from width s (at + width) fewer))) e

    -- a rule about the row itself is broken
    pub breaks_four : own_rule g (row_at s at) ≡ false → rest left ≡ fault 4 i
    breaks_four own = row_decides (fault 4 i) (row_verdict_lem false (departure_rule back (row_at s at) && trip_rule back (row_at s at)) own refl)

    -- only the rule of departures or of the trip is broken
    pub breaks_five : own_rule g (row_at s at) ≡ true
        → (leb (departure_before back) (row_at s at).departure && follows (last_of_trip (row_at s at).trip back) (row_at s at)) ≡ false
        → rest left ≡ fault 5 i
    breaks_five own order = row_decides (fault 5 i) (row_verdict_lem true false own (rule_five back (row_at s at) ∙ order))

    -- both are kept
    pub keeps_both : own_rule g (row_at s at) ≡ true
        → (leb (departure_before back) (row_at s at).departure && follows (last_of_trip (row_at s at).trip back) (row_at s at)) ≡ true
        → rest left ≡ rows_verdict g (row_at s at ∷ back) (suc i) (rows_from width s (at + width) fewer)
    keeps_both own order = row_decides fine (row_verdict_lem true true own (rule_five back (row_at s at) ∙ order))

  -- no row is left
  pub all_kept : (left : ℕ) → left ≡ 0 → rest left ≡ fine
  unfolding rows_verdict rows_from
  all_kept left e = ap rest e
