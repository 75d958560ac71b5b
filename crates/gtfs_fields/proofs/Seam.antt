-- Where a time's hours end and its last six bytes begin. Assumes nothing.
use Prim.Native.Nat.{ℕ, zero, suc, ◌+◌, ◌-◌}
use mathlib.Core.List.{List, [], ◌∷◌, ◌++◌}
use mathlib.Core.Path.{◌≡◌, ap, sym, ◌∙◌}
use native.Mathlib.Omega.{arith}
use lib.ListN.{length, drop, get_or, length-append, drop_of_length-le}
use lib.Seq.{drop-cons, take_at, drop_at}
use Rattle.text.specs.Decimal.{digit_of, value_behind, value_of}
use Rattle.gtfs_fields.specs.Time.{colon, tail_bytes, hours_in, tail_in, minutes_in}
use Rattle.gtfs_fields.proofs.Tail.{Tail}

-- what stands behind the hours
abbrev pub ending_of : (tens ones : ℕ) → List ℕ
ending_of tens ones = colon ∷ tens ∷ ones ∷ colon ∷ digit_of 0 ∷ digit_of 0 ∷ []

-- hours and ending part where they were joined
module _ (hours : List ℕ) (tens ones : ℕ) where
  seam : length (hours ++ ending_of tens ones) - tail_bytes ≡ length hours
  seam = omega (arith, length-append hours (ending_of tens ones))

  pub hours_ahead : hours_in (hours ++ ending_of tens ones) ≡ hours
  unfolding hours_in
  hours_ahead = take_at hours (ending_of tens ones) (length (hours ++ ending_of tens ones) - tail_bytes) (sym seam)

  pub ending_behind : tail_in (hours ++ ending_of tens ones) ≡ ending_of tens ones
  unfolding tail_in
  ending_behind = drop_at hours (ending_of tens ones) (length (hours ++ ending_of tens ones) - tail_bytes) (sym seam)

abbrev bytes_from : List ℕ → (from count : ℕ) → List ℕ
bytes_from text from zero = []
bytes_from text from (suc count) = get_or text from 0 ∷ bytes_from text (suc from) count

all_bytes : (text : List ℕ) (from count : ℕ) → from + count ≡ length text → drop from text ≡ bytes_from text from count
all_bytes text from zero last = drop_of_length-le text {i = from} (omega arith)
all_bytes text from (suc count) last =
    drop-cons text from 0 (omega arith) ∙ ap (λ rest. get_or text from 0 ∷ rest) (all_bytes text (suc from) count (omega arith))

-- six bytes that keep the rule are such an ending
pub ending_told : (tail : List ℕ) → length tail ≡ tail_bytes → Tail tail → tail ≡ ending_of (get_or tail 1 0) (get_or tail 2 0)
ending_told tail six t =
    all_bytes tail 0 tail_bytes (sym six)
    ∙ rw (t.ahead_of_minutes, t.ahead_of_seconds, t.seconds_tens, t.seconds_ones)

pub two_digits : (tens ones : ℕ) → minutes_in (ending_of tens ones) ≡ value_of (tens ∷ ones ∷ [])
unfolding minutes_in value_of value_behind
two_digits tens ones = omega arith
