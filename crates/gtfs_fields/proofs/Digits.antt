-- The tests on digits say what the words say: a character from 0 to 9, and nothing but such characters. Assumes nothing.
use Prim.Native.Nat.{ℕ, ◌≤◌}
use mathlib.Core.Bool.{true}
use mathlib.Core.List.{List, [], ◌∷◌}
use mathlib.Core.Path.{◌≡◌, refl}
use lib.Dec.{leb}
use borrow.Author.Tests.{leb-true, le-leb}
use Rattle.laws.proofs.Tests.{both, both_left, both_right}
use Rattle.text.specs.Decimal.{digit_of, OnlyDigits}
use Rattle.gtfs_fields.specs.Whole.{is_digit, are_digits}

module _ (character : ℕ) where
  pub digit_from : is_digit character ≡ true → digit_of 0 ≤ character
  digit_from digit = leb-true _ _ (both_left (leb (digit_of 0) character) (leb character (digit_of 9)) digit)

  pub digit_to : is_digit character ≡ true → character ≤ digit_of 9
  digit_to digit = leb-true _ _ (both_right (leb (digit_of 0) character) (leb character (digit_of 9)) digit)

  pub digit_holds : digit_of 0 ≤ character → character ≤ digit_of 9 → is_digit character ≡ true
  digit_holds low high = both (le-leb _ _ low) (le-leb _ _ high)

pub digits_told : (text : List ℕ) → are_digits text ≡ true → OnlyDigits text
unfolding are_digits
digits_told [] all = tt
digits_told (character ∷ rest) all =
    let first = both_left (is_digit character) (are_digits rest) all in
    (digit_from character first, digit_to character first, digits_told rest (both_right (is_digit character) (are_digits rest) all))

pub digits_hold : (text : List ℕ) → OnlyDigits text → are_digits text ≡ true
unfolding are_digits
digits_hold [] all = refl
digits_hold (character ∷ rest) all = both (digit_holds character all.0 all.1) (digits_hold rest all.2)
