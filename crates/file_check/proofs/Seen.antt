-- The table of trips already seen: from where to look back for a trip's nearest row. Assumes nothing.
use Prim.Native.Nat.{ℕ, suc, ◌+◌, ◌*◌, ◌≤◌, ◌<◌}
use mathlib.Core.List.{List}
use mathlib.Core.Path.{◌≡◌, refl, ap, sym, subst⁻¹, ◌∙◌}
use native.Mathlib.Omega.{arith}
use lib.Dec.{eqb}
use lib.ListN.{length, get_or, set, replicate, length-set, length-replicate, get_or-replicate}
use lib.Seq.{get_or-set_same, get_or-set_other}
use borrow.Author.Tests.{eqb-true, eqb-false}
use Rattle.laws.proofs.Tests.{ifb}
use Rattle.timetable.specs.Rows.{last_of_trip}
use Rattle.timetable.specs.Limits.{most_trips}
use Rattle.file_layout.specs.Decode.{row_at}
use Rattle.file_check.specs.Behind.{rows_behind}
use Rattle.file_check.proofs.Back.{last_behind}

-- looking back for the trip over the first `hint` rows finds the same row as over the first `count`
pub record Hint (width : ℕ) (s : List ℕ) (start count trip hint : ℕ) : Type 0 where
  pub within : hint ≤ count
  pub same_found : last_of_trip trip (rows_behind width s start hint) ≡ last_of_trip trip (rows_behind width s start count)

-- the table has a hint for every trip
pub record Seen (width : ℕ) (s : List ℕ) (start count : ℕ) (seen : List ℕ) : Type 0 where
  pub full : length seen ≡ most_trips
  pub hints : (trip : ℕ) → trip < most_trips → Hint width s start count trip (get_or seen trip 0)

module _ (width : ℕ) (s : List ℕ) (start : ℕ) where
  own_hint : (count trip : ℕ) → Hint width s start count trip count
  own_hint count trip = record { within = omega arith; same_found = refl }

  -- ahead of the first row no trip is seen
  pub seen_none : (seen : List ℕ) → seen ≡ replicate most_trips 0 → Seen width s start 0 seen
  seen_none seen e =
      subst⁻¹ (Seen width s start 0) e
      (record {
        full = length-replicate {A = ℕ} most_trips 0;
        hints = λ trip h. subst⁻¹ (Hint width s start 0 trip) (get_or-replicate most_trips trip 0 0 h) (own_hint 0 trip);
      })

  -- the row behind the first `count` becomes its trip's hint, and no other trip's
  module _ (count : ℕ) (seen : List ℕ) (known : Seen width s start count seen)
      (inside : (row_at s (start + width * count)).trip < most_trips) where
    abbrev row_trip : ℕ
    row_trip = (row_at s (start + width * count)).trip

    kept_hint : (trip : ℕ) → trip < most_trips → (row_trip ≡ trip → ⊥) → Hint width s start (suc count) trip (get_or seen trip 0)
    kept_hint trip h other =
        let hint = known.hints trip h in
        record {
          within = omega arith;
          same_found = hint.same_found ∙ sym (last_behind width s start trip count other);
        }

    next_hint : (trip : ℕ) → trip < most_trips → Hint width s start (suc count) trip (get_or (set seen row_trip (suc count)) trip 0)
    next_hint trip h =
        ifb (λ b. Hint width s start (suc count) trip (get_or (set seen row_trip (suc count)) trip 0)) (eqb trip row_trip)
        (λ yes.
        subst⁻¹ (Hint width s start (suc count) trip)
        (ap (λ t. get_or (set seen row_trip (suc count)) t 0) (eqb-true trip row_trip yes)
        ∙ get_or-set_same seen row_trip (suc count) 0 (omega (arith, known.full)))
        (own_hint (suc count) trip))
        (λ no.
        subst⁻¹ (Hint width s start (suc count) trip) (get_or-set_other seen row_trip trip (suc count) 0 (eqb-false trip row_trip no))
        (kept_hint trip h (λ e. eqb-false trip row_trip no (sym e))))

    pub seen_more : Seen width s start (suc count) (set seen row_trip (suc count))
    seen_more = record { full = length-set seen row_trip (suc count) ∙ known.full; hints = next_hint }
