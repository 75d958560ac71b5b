-- A zero ahead of a number or of a time changes nothing. Assumes nothing.
use Prim.Native.Nat.{ℕ, suc, ◌+◌, ◌-◌, ◌/◌, ◌<◌}
use mathlib.Core.Bool.{true}
use mathlib.Core.List.{List, ◌∷◌}
use mathlib.Core.Path.{◌≡◌, refl, ap, sym, ◌∙◌}
use native.Mathlib.Omega.{arith}
use lib.ListN.{length, take, drop}
use lib.Seq.{length-take-le}
use Rattle.text.specs.Decimal.{digit_of}
use Rattle.gtfs_fields.specs.Whole.{whole_below}
use Rattle.gtfs_fields.specs.Time.{tail_bytes, minutes_an_hour, hours_in, tail_in, tail_minutes, time_within}
use Rattle.gtfs_fields.proofs.Onward.{whole_starts, rest_character}
use Rattle.gtfs_fields.proofs.Joined.{time_parts, time_joined}

pub whole_zero_ahead : (limit : ℕ) (field : List ℕ) → 0 < length field → whole_below limit (digit_of 0 ∷ field) ≡ whole_below limit field
whole_zero_ahead limit field some =
    whole_starts limit (digit_of 0 ∷ field) (omega arith)
    ∙ rest_character limit 0 (digit_of 0) field true refl
    ∙ sym (whole_starts limit field some)

module _ (field : List ℕ) (some : tail_bytes < length field) where
  seam : suc (length field) - tail_bytes ≡ suc (length field - tail_bytes)
  seam = omega arith

  zero_hours : hours_in (digit_of 0 ∷ field) ≡ digit_of 0 ∷ hours_in field
  unfolding hours_in
  zero_hours = ap (λ at. take at (digit_of 0 ∷ field)) seam

  zero_ending : tail_in (digit_of 0 ∷ field) ≡ tail_in field
  unfolding tail_in
  zero_ending = ap (λ at. drop at (digit_of 0 ∷ field)) seam

  hours_some : 0 < length (hours_in field)
  unfolding hours_in
  hours_some = omega (arith, length-take-le (length field - tail_bytes) field (omega arith))

  pub time_zero_ahead : (most : ℕ) → time_within most (digit_of 0 ∷ field) ≡ time_within most field
  time_zero_ahead most =
      let limit : ℕ = most / minutes_an_hour + 1 in
      time_parts most (digit_of 0 ∷ field) (tail_minutes (tail_in field)) (whole_below limit (hours_in field)) (ap tail_minutes zero_ending)
      (ap (whole_below limit) zero_hours ∙ whole_zero_ahead limit (hours_in field) hours_some)
      ∙ sym (time_joined most field)
