-- The state of the check as it reads the rows: what is known ahead of row i, and what row i adds to it. Assumes nothing.
use Prim.Native.Nat.{ℕ, suc, ◌+◌, ◌-◌, ◌*◌, ◌≤◌, ◌<◌}
use mathlib.Core.Bool.{Bool, true, false, ◌&&◌}
use mathlib.Core.List.{List, [], ◌∷◌}
use mathlib.Core.Path.{◌≡◌, refl, ap, sym, subst⁻¹, ◌∙◌}
use native.Mathlib.Numerals.{add-one}
use native.Mathlib.Omega.{arith}
use lib.Dec.{leb}
use lib.ListN.{get_or, set, replicate}
use Rattle.timetable.specs.declared.Row.{Row}
use Rattle.timetable.specs.declared.Ranges.{Ranges}
use Rattle.timetable.specs.Verdict.{Verdict, fine, fault}
use Rattle.timetable.specs.Rows.{own_rule, last_of_trip, follows, rows_verdict}
use Rattle.timetable.specs.Limits.{most_trips}
use Rattle.timetable.proofs.RowsSound.{own_gives}
use Rattle.file_layout.specs.Decode.{row_at, rows_from}
use Rattle.file_check.specs.Behind.{rows_behind}
use Rattle.file_check.proofs.Seen.{Seen, seen_none, seen_more}
use Rattle.file_check.proofs.Turn.{departure_before, breaks_four, breaks_five, keeps_both, all_kept}

-- what is asked: the verdict on all the rows
abbrev pub whole : Ranges → ℕ → List ℕ → ℕ → ℕ → Verdict
whole g width s start count = rows_verdict g [] 0 (rows_from width s start count)

-- ahead of row i: its byte, the departure before it, the trips seen, and the verdict as that on the rows from i on
pub record Reading (g : Ranges) (width : ℕ) (s : List ℕ) (start count : ℕ) (seen : List ℕ) (departure i : ℕ) : Type 0 where
  pub inside : i ≤ count
  pub before : departure ≡ departure_before (rows_behind width s start i)
  pub trips_seen : Seen width s start i seen
  pub same_verdict : whole g width s start count ≡ rows_verdict g (rows_behind width s start i) i (rows_from width s (start + width * i) (count - i))

module _ (g : Ranges) (width : ℕ) (s : List ℕ) (start count : ℕ) where
  pub reading_none : (seen : List ℕ) → seen ≡ replicate most_trips 0 → Reading g width s start count seen 0 0
  unfolding rows_behind departure_before
  reading_none seen e =
      record {
        inside = omega arith;
        before = refl;
        trips_seen = seen_none width s start seen e;
        same_verdict =
            λ k. rows_verdict g [] 0 (rows_from width s ((let z : start ≡ start + width * 0 = omega arith in z) k) ((let z : count ≡ count - 0 = omega arith in z) k));
      }

  module _ (seen : List ℕ) (departure i : ℕ) (known : Reading g width s start count seen departure i) where
    -- all rows are read
    pub reading_ends : count ≤ i → whole g width s start count ≡ fine
    reading_ends h =
        known.same_verdict ∙ all_kept g width s (rows_behind width s start i) i (start + width * i) (count - i) (let z : count - i ≡ 0 = omega arith in z)

    module _ (more : i < count) (row : Row) (read : row ≡ row_at s (start + width * i)) where
      abbrev at : ℕ
      at = start + width * i

      abbrev back : List Row
      back = rows_behind width s start i

      one : suc (count - suc i) ≡ count - i
      one = omega arith

      -- the rules of departures and of the trip, as the code asks for them
      abbrev pub order : ℕ → Bool
      order hint = leb departure row.departure && follows (last_of_trip row.trip (rows_behind width s start hint)) row

      order_asked : (hint : ℕ) → hint ≡ get_or seen row.trip 0 → row.trip < most_trips
          → order hint ≡ (leb (departure_before back) (row_at s at).departure && follows (last_of_trip (row_at s at).trip back) (row_at s at))
      order_asked hint told h =
          ap order told
          ∙ ap (λ o. leb departure row.departure && follows o row) (known.trips_seen.hints row.trip h).same_found
          ∙ ap (λ d. leb d row.departure && follows (last_of_trip row.trip back) row) known.before
          ∙ ap (λ r. leb (departure_before back) r.departure && follows (last_of_trip r.trip back) r) read

      own_asked : (b : Bool) → own_rule g row ≡ b → own_rule g (row_at s at) ≡ b
      own_asked b e = ap (own_rule g) (sym read) ∙ e

      pub breaks_own : own_rule g row ≡ false → whole g width s start count ≡ fault 4 i
      breaks_own own =
          known.same_verdict ∙ breaks_four g width s back i at (count - suc i) (count - i) one (own_asked false own)

      pub breaks_order : (hint : ℕ) → hint ≡ get_or seen row.trip 0 → own_rule g row ≡ true → order hint ≡ false → whole g width s start count ≡ fault 5 i
      breaks_order hint told own broken =
          known.same_verdict
          ∙ breaks_five g width s back i at (count - suc i) (count - i) one (own_asked true own)
          (sym (order_asked hint told (own_gives g row own).trip) ∙ broken)

      verdict_next : (hint : ℕ) → hint ≡ get_or seen row.trip 0 → own_rule g row ≡ true → order hint ≡ true
          → whole g width s start count
          ≡ rows_verdict g (rows_behind width s start (suc i)) (suc i) (rows_from width s (start + width * suc i) (count - suc i))
      unfolding rows_behind
      verdict_next hint told own kept =
          known.same_verdict
          ∙ keeps_both g width s back i at (count - suc i) (count - i) one (own_asked true own)
          (sym (order_asked hint told (own_gives g row own).trip) ∙ kept)
          ∙ ap (λ n. rows_verdict g (row_at s at ∷ back) (suc i) (rows_from width s n (count - suc i))) (let z : at + width ≡ start + width * suc i = omega arith in z)

      reads_next : (hint : ℕ) → hint ≡ get_or seen row.trip 0 → own_rule g row ≡ true → order hint ≡ true
          → Reading g width s start count (set seen (row_at s at).trip (suc i)) (row_at s at).departure (suc i)
      unfolding departure_before rows_behind
      reads_next hint told own kept =
          record {
            inside = omega arith;
            before = refl;
            trips_seen =
                seen_more width s start i seen known.trips_seen
                (own_gives g (row_at s at) (own_asked true own)).trip;
            same_verdict = verdict_next hint told own kept;
          }

      pub reads_on : (hint : ℕ) → hint ≡ get_or seen row.trip 0 → own_rule g row ≡ true → order hint ≡ true
          → Reading g width s start count (set seen row.trip (i + 1)) row.departure (i + 1)
      reads_on hint told own kept =
          subst⁻¹ (λ n. Reading g width s start count (set seen row.trip n) row.departure n) (add-one i)
          (subst⁻¹ (λ r. Reading g width s start count (set seen r.trip (suc i)) r.departure (suc i)) read
          (reads_next hint told own kept))
