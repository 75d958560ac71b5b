-- A time in GTFS's words: hours, a colon, two digits of minutes, a colon and the seconds 00 are the fields that pass for times. Assumes nothing.
use Prim.Native.Nat.{ℕ, ◌+◌, ◌*◌, ◌-◌, ◌<◌}
use mathlib.Core.Bool.{true}
use mathlib.Core.List.{List, [], ◌∷◌, ◌++◌}
use mathlib.Core.Path.{◌≡◌, refl, ap, sym, ◌∙◌}
use native.Mathlib.Omega.{arith}
use lib.Dec.{ltb}
use lib.ListN.{length, take, drop, get_or, length-drop, take-append-drop}
use lib.Seq.{length-take-le}
use borrow.Author.Tests.{ltb-true, lt-ltb}
use Rattle.laws.proofs.Tests.{both, both_left, both_right}
use Rattle.text.specs.Decimal.{value_behind, value_of, OnlyDigits}
use Rattle.gtfs_fields.specs.Whole.{are_digits, is_whole}
use Rattle.gtfs_fields.specs.Time.{minutes_an_hour, tail_bytes, hours_in, tail_in, minutes_in, tail_rule, is_time, time_minutes}
use Rattle.gtfs_fields.proofs.Digits.{digits_told, digits_hold}
use Rattle.gtfs_fields.proofs.Seam.{ending_of, hours_ahead, ending_behind, ending_told, two_digits}
use Rattle.gtfs_fields.proofs.Tail.{Tail, tail_told, tail_holds}
use Rattle.gtfs_fields.specs.Words.{ClockTime}

-- a field that passes for a time has a byte ahead of its last six
long_enough : (field : List ℕ) → is_whole (hours_in field) ≡ true → tail_bytes < length field
unfolding is_whole hours_in
long_enough field whole =
    let some : 0 < length (take (length field - tail_bytes) field) =
    ltb-true 0 (length (take (length field - tail_bytes) field))
    (both_left (ltb 0 (length (take (length field - tail_bytes) field))) (are_digits (take (length field - tail_bytes) field)) whole)
    in
    let shown : length (take (length field - tail_bytes) field) ≡ length field - tail_bytes =
    length-take-le (length field - tail_bytes) field (omega arith)
    in
    omega arith

-- what passes for a time is one in these words
pub time_in_words : (field : List ℕ) → is_time field ≡ true → ClockTime field
unfolding is_time is_whole hours_in tail_in value_of value_behind
time_in_words field passes =
    let at : ℕ = length field - tail_bytes in
    let whole : is_whole (hours_in field) ≡ true = both_left (is_whole (hours_in field)) (tail_rule (tail_in field)) passes in
    let long : tail_bytes < length field = long_enough field whole in
    let t : Tail (drop at field) = tail_told (drop at field) (both_right (is_whole (hours_in field)) (tail_rule (tail_in field)) passes) in
    let six : length (drop at field) ≡ tail_bytes = omega (arith, length-drop at field) in
    record {
      hours = take at field;
      tens = get_or (drop at field) 1 0;
      ones = get_or (drop at field) 2 0;
      says = sym (take-append-drop at field) ∙ ap (λ rest. take at field ++ rest) (ending_told (drop at field) six t);
      some = omega (arith, length-take-le at field (omega arith));
      hours_digits = digits_told (take at field) (both_right (ltb 0 (length (take at field))) (are_digits (take at field)) whole);
      minutes_digits = (t.tens_from, omega arith, (t.ones_from, t.ones_to, tt));
      minutes_below = omega arith;
    }

-- and one in these words passes for a time, of the minutes that the words say
module _ (field : List ℕ) (w : ClockTime field) where
  hours_same : hours_in field ≡ w.hours
  hours_same = ap hours_in w.says ∙ hours_ahead w.hours w.tens w.ones

  ending_same : tail_in field ≡ ending_of w.tens w.ones
  ending_same = ap tail_in w.says ∙ ending_behind w.hours w.tens w.ones

  pub words_pass : is_time field ≡ true
  unfolding is_time is_whole value_of value_behind
  words_pass =
      let digits : OnlyDigits (w.tens ∷ w.ones ∷ []) = w.minutes_digits in
      both
      (ap is_whole hours_same ∙ both (lt-ltb 0 (length w.hours) w.some) (digits_hold w.hours w.hours_digits))
      (ap tail_rule ending_same
      ∙ tail_holds (ending_of w.tens w.ones)
      (record {
        ahead_of_minutes = refl;
        tens_from = digits.0;
        tens_to = omega (arith, w.minutes_below);
        ones_from = digits.2.0;
        ones_to = digits.2.1;
        ahead_of_seconds = refl;
        seconds_tens = refl;
        seconds_ones = refl;
      }))

  pub words_minutes : time_minutes field ≡ minutes_an_hour * value_of w.hours + value_of (w.tens ∷ w.ones ∷ [])
  unfolding time_minutes
  words_minutes =
      ap (λ text. minutes_an_hour * value_of text + minutes_in (tail_in field)) hours_same
      ∙ ap (λ minutes. minutes_an_hour * value_of w.hours + minutes) (ap minutes_in ending_same ∙ two_digits w.tens w.ones)
