-- A number that a field is said to be is within what is asked, and is what the field says. Assumes nothing.
use Prim.Native.Nat.{ℕ, ◌≤◌, ◌<◌}
use mathlib.Core.Bool.{Bool, true, false, cond, ◌&&◌}
use mathlib.Core.List.{List}
use mathlib.Core.Path.{◌≡◌, refl, subst}
use native.Mathlib.Omega.{arith}
use lib.Dec.{leb, ltb}
use borrow.Author.Tests.{ltb-true, leb-true}
use Rattle.laws.proofs.Tests.{both_left, both_right}
use Rattle.text.specs.Decimal.{value_of}
use Rattle.std.specs.Prelude.{Some, None}
use Rattle.gtfs_fields.specs.Whole.{is_whole, whole_below}
use Rattle.gtfs_fields.specs.Time.{minutes_an_hour, minutes_in, tail_rule, tail_minutes, is_time, time_minutes, time_within}
use Rattle.gtfs_fields.proofs.Tail.{tail_told}

test_held : (b : Bool) (says value : ℕ) → cond b (Some says) None ≡ Some value → b ≡ true
test_held true says value e = refl
test_held false says value e = absurd (let z : ⊥ = let same : ◌≡◌ {A = ℕ} 0 1 = cc in omega arith in z)

same_value : (b : Bool) (says value : ℕ) → cond b (Some says) None ≡ Some value → says ≡ value
same_value true says value e = cc
same_value false says value e = cc

module _ (limit value : ℕ) (field : List ℕ) (told : whole_below limit field ≡ Some value) where
  held : (is_whole field && ltb (value_of field) limit) ≡ true
  unfolding whole_below
  held = test_held (is_whole field && ltb (value_of field) limit) (value_of field) value told

  pub whole_told : is_whole field ≡ true
  whole_told = both_left (is_whole field) (ltb (value_of field) limit) held

  pub whole_value : value_of field ≡ value
  unfolding whole_below
  whole_value = same_value (is_whole field && ltb (value_of field) limit) (value_of field) value told

  pub whole_bound : value < limit
  whole_bound = subst (λ n. n < limit) whole_value (ltb-true _ _ (both_right (is_whole field) (ltb (value_of field) limit) held))

module _ (value : ℕ) (tail : List ℕ) (told : tail_minutes tail ≡ Some value) where
  pub minutes_bound : value < minutes_an_hour
  unfolding tail_minutes minutes_in
  minutes_bound =
      let t = tail_told tail (test_held (tail_rule tail) (minutes_in tail) value told) in
      let same : minutes_in tail ≡ value = same_value (tail_rule tail) (minutes_in tail) value told in
      omega arith

module _ (most value : ℕ) (field : List ℕ) (told : time_within most field ≡ Some value) where
  time_held : (is_time field && leb (time_minutes field) most) ≡ true
  unfolding time_within
  time_held = test_held (is_time field && leb (time_minutes field) most) (time_minutes field) value told

  pub time_told : is_time field ≡ true
  time_told = both_left (is_time field) (leb (time_minutes field) most) time_held

  pub time_value : time_minutes field ≡ value
  unfolding time_within
  time_value = same_value (is_time field && leb (time_minutes field) most) (time_minutes field) value told

  pub time_bound : value ≤ most
  time_bound = subst (λ n. n ≤ most) time_value (leb-true _ _ (both_right (is_time field) (leb (time_minutes field) most) time_held))
