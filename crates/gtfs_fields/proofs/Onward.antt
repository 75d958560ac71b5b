-- Reading a whole number from any of its characters on, behind digits that are worth so much. Assumes nothing.
use Prim.Native.Nat.{ℕ, ◌+◌, ◌*◌, ◌≤◌, ◌<◌}
use mathlib.Core.Bool.{Bool, true, false, cond, ◌&&◌}
use mathlib.Core.List.{List, [], ◌∷◌}
use mathlib.Core.Path.{◌≡◌, refl, ap, sym, ◌∙◌}
use native.Mathlib.Numerals.{add-one}
use native.Mathlib.Omega.{arith}
use lib.Dec.{ltb}
use lib.ListN.{length, drop, get_or}
use lib.Seq.{drop-cons, drop-length}
use borrow.Author.Tests.{lt-ltb, le-ltb}
use Rattle.std.specs.Bool.{then_some}
use Rattle.laws.proofs.Tests.{false_right, cond_false}
use Rattle.text.specs.Decimal.{digit_in, value_behind, value_of}
use Rattle.std.specs.Prelude.{Option, Some, None}
use Rattle.gtfs_fields.specs.Whole.{is_digit, are_digits, is_whole, whole_below}

-- a number is told where the test holds
pub told_where : (b : Bool) (value : ℕ) → then_some b value ≡ cond b (Some value) None
told_where true value = refl
told_where false value = refl

-- what is told once `rest` is all that is left
unfoldable pub rest_below : (limit before : ℕ) → List ℕ → Option ℕ
rest_below limit before rest = cond (are_digits rest && ltb (value_behind before rest) limit) (Some (value_behind before rest)) None

-- more characters are worth no less
pub value_grows : (before : ℕ) (rest : List ℕ) → before ≤ value_behind before rest
unfolding value_behind
value_grows before [] = omega arith
value_grows before (character ∷ rest) = omega (arith, value_grows (10 * before + digit_in character) rest)

module _ (limit : ℕ) where
  pub whole_empty : (field : List ℕ) → length field ≡ 0 → whole_below limit field ≡ None
  unfolding whole_below is_whole
  whole_empty field none =
      ap (λ some. cond (some && are_digits field && ltb (value_of field) limit) (Some (value_of field)) None) (le-ltb 0 (length field) (omega arith))

  pub whole_starts : (field : List ℕ) → 0 < length field → whole_below limit field ≡ rest_below limit 0 field
  unfolding whole_below is_whole rest_below value_of
  whole_starts field some =
      ap (λ b. cond (b && are_digits field && ltb (value_of field) limit) (Some (value_of field)) None) (lt-ltb 0 (length field) some)

  -- once the limit is reached nothing behind it matters
  pub rest_past : (before : ℕ) (rest : List ℕ) → limit ≤ before → rest_below limit before rest ≡ None
  unfolding rest_below
  rest_past before rest past =
      let reached = le-ltb (value_behind before rest) limit (omega (arith, value_grows before rest)) in
      cond_false (Some (value_behind before rest)) None (ap (λ b. are_digits rest && b) reached ∙ false_right (are_digits rest))

  pub rest_character : (before character : ℕ) (rest : List ℕ) (b : Bool) → is_digit character ≡ b
      → rest_below limit before (character ∷ rest) ≡ cond b (rest_below limit (10 * before + digit_in character) rest) None
  unfolding rest_below are_digits value_behind
  rest_character before character rest true digit =
      let value : ℕ = value_behind (10 * before + digit_in character) rest in
      ap (λ b. cond (b && are_digits rest && ltb value limit) (Some value) None) digit
  rest_character before character rest false other =
      let value : ℕ = value_behind (10 * before + digit_in character) rest in
      ap (λ b. cond (b && are_digits rest && ltb value limit) (Some value) None) other

  -- nothing is left
  pub rest_ends : (field : List ℕ) (at before : ℕ) → at ≡ length field
      → rest_below limit before (drop at field) ≡ cond (ltb before limit) (Some before) None
  unfolding rest_below are_digits value_behind
  rest_ends field at before last = rw (last, drop-length field)

  module _ (field : List ℕ) (at before : ℕ) (inside : at < length field) where
    here : rest_below limit before (drop at field) ≡ rest_below limit before (get_or field at 0 ∷ drop (at + 1) field)
    here = rw (add-one at, drop-cons field at 0)

    -- the next character, by the test whether it is a digit
    pub rest_next : (b : Bool) → is_digit (get_or field at 0) ≡ b
        → rest_below limit before (drop at field)
        ≡ cond b (rest_below limit (10 * before + digit_in (get_or field at 0)) (drop (at + 1) field)) None
    rest_next b digit = here ∙ rest_character before (get_or field at 0) (drop (at + 1) field) b digit

    -- a character behind the limit is passed over
    pub rest_skip : limit ≤ before → rest_below limit before (drop at field) ≡ rest_below limit before (drop (at + 1) field)
    rest_skip past = rest_past before (drop at field) past ∙ sym (rest_past before (drop (at + 1) field) past)
