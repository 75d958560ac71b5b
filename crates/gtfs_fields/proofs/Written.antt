-- A time that is written down reads back: hours in decimal, two digits of minutes, and the seconds 00. Assumes nothing.
use Prim.Native.Nat.{ℕ, zero, suc, ◌+◌, ◌*◌, ◌/◌, ◌%◌, ◌<◌, ◌≤◌}
use mathlib.Core.Bool.{true, cond}
use mathlib.Core.List.{List, [], ◌∷◌}
use mathlib.Core.Path.{◌≡◌, refl, ap, ◌∙◌}
use native.Mathlib.Omega.{arith}
use lib.Dec.{eqb, leb}
use lib.ListN.{length}
use borrow.Author.Tests.{le-leb}
use Rattle.laws.proofs.Tests.{ifb, both, cond_true}
use Rattle.text.specs.Decimal.{digit_of, digits_onto, decimal, number_text, value_behind, value_of}
use Rattle.text.proofs.Decimals.{reads_back, only_digits}
use Rattle.std.specs.Prelude.{Some, None}
use Rattle.gtfs_fields.specs.Time.{minutes_an_hour, is_time, time_minutes, time_within}
use Rattle.gtfs_fields.proofs.Words.{words_pass, words_minutes}
use Rattle.gtfs_fields.specs.Words.{ClockTime, time_text}

digits_longer : (most n : ℕ) (rest : List ℕ) → length rest ≤ length (digits_onto most n rest)
unfolding digits_onto
digits_longer zero n rest = omega arith
digits_longer (suc most) n rest =
    ifb (λ b. length rest ≤ length (cond b rest (digits_onto most (n / 10) (digit_of (n % 10) ∷ rest)))) (eqb n 0)
    (λ none. omega arith)
    (λ more. omega (arith, digits_longer most (n / 10) (digit_of (n % 10) ∷ rest)))

-- a number's text has a digit
pub some_digit : (n : ℕ) → 0 < length (number_text n)
unfolding number_text decimal
some_digit n = omega (arith, digits_longer (n / 10) (n / 10) (digit_of (n % 10) ∷ []))

module _ (hours minutes : ℕ) (below : minutes < minutes_an_hour) where
  in_words : ClockTime (time_text hours minutes)
  unfolding value_of value_behind
  in_words =
      record {
        hours = number_text hours;
        tens = digit_of (minutes / 10);
        ones = digit_of (minutes % 10);
        says = refl;
        some = some_digit hours;
        hours_digits = only_digits hours;
        minutes_digits = (omega arith, omega arith, (omega arith, omega arith, tt));
        minutes_below = omega arith;
      }

  pub written_passes : is_time (time_text hours minutes) ≡ true
  written_passes = words_pass (time_text hours minutes) in_words

  pub written_minutes : time_minutes (time_text hours minutes) ≡ minutes_an_hour * hours + minutes
  unfolding in_words value_of value_behind
  written_minutes =
      let last : value_of (digit_of (minutes / 10) ∷ digit_of (minutes % 10) ∷ []) ≡ minutes = omega arith in
      words_minutes (time_text hours minutes) in_words
      ∙ ap (λ n. minutes_an_hour * n + value_of (digit_of (minutes / 10) ∷ digit_of (minutes % 10) ∷ [])) (reads_back hours)
      ∙ ap (λ n. minutes_an_hour * hours + n) last

  pub written_within : (most : ℕ) → minutes_an_hour * hours + minutes ≤ most
      → time_within most (time_text hours minutes) ≡ Some (minutes_an_hour * hours + minutes)
  unfolding time_within
  written_within most within =
      cond_true (Some (time_minutes (time_text hours minutes))) None
      (both written_passes (ap (λ n. leb n most) written_minutes ∙ le-leb (minutes_an_hour * hours + minutes) most within))
      ∙ ap Some written_minutes
