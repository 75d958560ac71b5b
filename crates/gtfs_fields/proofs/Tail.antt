-- What the rule of a time's last six bytes asks of each of them. Assumes nothing.
use Prim.Native.Nat.{ℕ, ◌+◌, ◌*◌, ◌≤◌, ◌<◌}
use mathlib.Core.Bool.{Bool, true, ◌&&◌}
use mathlib.Core.List.{List}
use mathlib.Core.Path.{◌≡◌}
use native.Mathlib.Omega.{arith}
use lib.Dec.{ltb, eqb}
use lib.ListN.{get_or}
use borrow.Author.Tests.{ltb-true, eqb-true, lt-ltb, eq-eqb}
use Rattle.laws.proofs.Tests.{both, both_left, both_right}
use Rattle.text.specs.Decimal.{digit_of, digit_in}
use Rattle.gtfs_fields.specs.Whole.{is_digit}
use Rattle.gtfs_fields.specs.Time.{colon, minutes_an_hour, minutes_in, tail_rule}
use Rattle.gtfs_fields.proofs.Digits.{digit_from, digit_to, digit_holds}

pub record Tail (tail : List ℕ) : Type 0 where
  pub ahead_of_minutes : get_or tail 0 0 ≡ colon
  pub tens_from : digit_of 0 ≤ get_or tail 1 0
  pub tens_to : get_or tail 1 0 ≤ digit_of 5
  pub ones_from : digit_of 0 ≤ get_or tail 2 0
  pub ones_to : get_or tail 2 0 ≤ digit_of 9
  pub ahead_of_seconds : get_or tail 3 0 ≡ colon
  pub seconds_tens : get_or tail 4 0 ≡ digit_of 0
  pub seconds_ones : get_or tail 5 0 ≡ digit_of 0

all_seven : (a b c d e f g : Bool) → (a && b && c && d && e && f && g) ≡ true
    → (a ≡ true) × (b ≡ true) × (c ≡ true) × (d ≡ true) × (e ≡ true) × (f ≡ true) × (g ≡ true)
all_seven a b c d e f g seven =
    let six = both_left (a && b && c && d && e && f) g seven in
    let five = both_left (a && b && c && d && e) f six in
    let four = both_left (a && b && c && d) e five in
    let three = both_left (a && b && c) d four in
    let two = both_left (a && b) c three in (
      both_left a b two,
      both_right a b two,
      both_right (a && b) c three,
      both_right (a && b && c) d four,
      both_right (a && b && c && d) e five,
      both_right (a && b && c && d && e) f six,
      both_right (a && b && c && d && e && f) g seven,
    )

module _ (tail : List ℕ) where
  pub tail_told : tail_rule tail ≡ true → Tail tail
  unfolding tail_rule minutes_in
  tail_told holds =
      let tens : ℕ = get_or tail 1 0 in
      let ones : ℕ = get_or tail 2 0 in
      let all =
      all_seven (eqb (get_or tail 0 0) colon) (is_digit tens) (is_digit ones) (ltb (10 * digit_in tens + digit_in ones) minutes_an_hour)
      (eqb (get_or tail 3 0) colon) (eqb (get_or tail 4 0) (digit_of 0)) (eqb (get_or tail 5 0) (digit_of 0)) holds
      in
      let below : 10 * digit_in tens + digit_in ones < minutes_an_hour = ltb-true _ _ all.3 in
      record {
        ahead_of_minutes = eqb-true _ _ all.0;
        tens_from = digit_from tens all.1;
        tens_to = omega arith;
        ones_from = digit_from ones all.2;
        ones_to = digit_to ones all.2;
        ahead_of_seconds = eqb-true _ _ all.4;
        seconds_tens = eqb-true _ _ all.5;
        seconds_ones = eqb-true _ _ all.6;
      }

  pub tail_holds : Tail tail → tail_rule tail ≡ true
  unfolding tail_rule minutes_in
  tail_holds t =
      let tens = digit_holds (get_or tail 1 0) t.tens_from (omega arith) in
      let ones = digit_holds (get_or tail 2 0) t.ones_from t.ones_to in
      let minutes = both (both (both (eq-eqb _ _ t.ahead_of_minutes) tens) ones) (lt-ltb (minutes_in tail) minutes_an_hour (omega arith)) in
      both (both (both minutes (eq-eqb _ _ t.ahead_of_seconds)) (eq-eqb _ _ t.seconds_tens)) (eq-eqb _ _ t.seconds_ones)
