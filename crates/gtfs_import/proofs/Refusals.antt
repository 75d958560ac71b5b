-- What the number and the place of a refusal tell of its reason. Assumes nothing.
use Prim.Native.Nat.{ℕ, ◌≤◌, ◌<◌}
use mathlib.Core.List.{List}
use mathlib.Core.Logic.{◌⊎◌, inl, inr}
use mathlib.Core.Path.{◌≡◌, refl, sym, subst}
use native.Mathlib.Omega.{arith}
use lib.ListN.{length}
use Rattle.timetable.specs.Limits.{fewest_stops}
use Rattle.timetable.specs.Verdict.{refused}
use Rattle.file_layout.specs.Check.{checked}
use Rattle.file_layout.specs.Format.{version_one}
use Rattle.gtfs_stop_time.specs.StopTime.{StopTime}
use Rattle.gtfs_calls.specs.Calls.{stops_of}
use Rattle.gtfs_calls.specs.FaultNumbers.{TextFault, too_many, unreadable, bad_time, bad_sequence}
use Rattle.gtfs_calls.specs.Reading.{said, wrong}
use Rattle.gtfs_import.specs.Import.{first_day, last_day}
use Rattle.file_writing.specs.Answers.{RefusedOnTime, few_stops, own_fault, order_fault}
use Rattle.gtfs_import.specs.Returned.{Asked, read_on, file_of, Reason, no_day, little_room, text_fault, file_fault, rows_in}
use Rattle.gtfs_import.specs.Returned.{Refusal, too_few_stops, bad_row, bad_order, no_such_day, too_little_room, past_a_limit, unreadable_line, wrong_time, wrong_sequence}

text_refusal : {n number column : ℕ} → TextFault number column → Refusal n number 0
text_refusal (too_many h) = past_a_limit
text_refusal (unreadable h) = unreadable_line
text_refusal (bad_time h) = wrong_time
text_refusal (bad_sequence h) = wrong_sequence

file_refusal : {stops n number place : ℕ} → RefusedOnTime stops n number place → Refusal n number place
file_refusal (few_stops less) = too_few_stops
file_refusal (own_fault enough inside) = bad_row inside
file_refusal (order_fault enough inside) = bad_order inside

-- the text's numbers lie above 8, and the file's below 6
text_number : {number column : ℕ} → TextFault number column → 8 < number
text_number (too_many h) = omega arith
text_number (unreadable h) = omega arith
text_number (bad_time h) = omega arith
text_number (bad_sequence h) = omega arith

file_number : {stops n number place : ℕ} → RefusedOnTime stops n number place → number < 6
file_number (few_stops less) = omega arith
file_number (own_fault enough inside) = omega arith
file_number (order_fault enough inside) = omega arith

one_stops : {stops n number place : ℕ} → RefusedOnTime stops n number place → number ≡ 1 → stops < fewest_stops
one_stops (few_stops less) e = less
one_stops (own_fault enough inside) e = absurd (let z : ⊥ = omega arith in z)
one_stops (order_fault enough inside) e = absurd (let z : ⊥ = omega arith in z)

module _ {text : List ℕ} {day : ℕ} {out : List ℕ} where
  pub refusal_of : {number place : ℕ} → Reason text day out number place → Refusal (rows_in (read_on day text)) number place
  refusal_of (no_day none) = no_such_day
  refusal_of (little_room first last little) = too_little_room
  refusal_of (text_fault line column asked is fault) = text_refusal fault
  refusal_of {number} {place} (file_fault calls asked says checks fault) =
      subst (λ r. Refusal (rows_in r) number place) (sym says) (file_refusal fault)

  pub day_reason : {number place : ℕ} → Reason text day out number place → number ≡ 6 → first_day ≤ day → day ≤ last_day → ⊥
  day_reason (no_day none) e = none
  day_reason (little_room first last little) e = absurd (let z : ⊥ = omega arith in z)
  day_reason (text_fault line column asked is fault) e = absurd (let z : ⊥ = omega (arith, text_number fault) in z)
  day_reason (file_fault calls asked says checks fault) e = absurd (let z : ⊥ = omega (arith, file_number fault) in z)

  pub room_reason : {number place : ℕ} → Reason text day out number place → number ≡ 7
      → (first_day ≤ day) × (day ≤ last_day) × (length out < version_one.mostbytes)
  room_reason (no_day none) e = absurd (let z : ⊥ = omega arith in z)
  room_reason (little_room first last little) e = (first, last, little)
  room_reason (text_fault line column asked is fault) e = absurd (let z : ⊥ = omega (arith, text_number fault) in z)
  room_reason (file_fault calls asked says checks fault) e = absurd (let z : ⊥ = omega (arith, file_number fault) in z)

  pub text_reason : {number place : ℕ} → Reason text day out number place → 8 < number
      → Asked day out × ((line : ℕ) × (column : ℕ) × (read_on day text ≡ wrong number line column))
  text_reason (no_day none) e = absurd (let z : ⊥ = omega arith in z)
  text_reason (little_room first last little) e = absurd (let z : ⊥ = omega arith in z)
  text_reason (text_fault line column asked is fault) e = (asked, (line, column, is))
  text_reason (file_fault calls asked says checks fault) e = absurd (let z : ⊥ = omega (arith, file_number fault) in z)

  pub stops_reason : {number place : ℕ} → Reason text day out number place → number ≡ 1
      → Asked day out × ((calls : List StopTime) × (read_on day text ≡ said calls) × (length (stops_of calls) < fewest_stops))
  stops_reason (no_day none) e = absurd (let z : ⊥ = omega arith in z)
  stops_reason (little_room first last little) e = absurd (let z : ⊥ = omega arith in z)
  stops_reason (text_fault line column asked is fault) e = absurd (let z : ⊥ = omega (arith, text_number fault) in z)
  stops_reason (file_fault calls asked says checks fault) e = (asked, (calls, says, one_stops fault e))

  pub check_reason : {number place : ℕ} → Reason text day out number place → number < 6
      → Asked day out × ((calls : List StopTime) × (read_on day text ≡ said calls) × (checked (file_of calls) ≡ refused number place))
  check_reason (no_day none) e = absurd (let z : ⊥ = omega arith in z)
  check_reason (little_room first last little) e = absurd (let z : ⊥ = omega arith in z)
  check_reason (text_fault line column asked is fault) e = absurd (let z : ⊥ = omega (arith, text_number fault) in z)
  check_reason (file_fault calls asked says checks fault) e = (asked, (calls, says, checks))

-- a place that is not 0 is a row, for 4 and 5
pub refusal_place : {n number place : ℕ} → Refusal n number place → (place ≡ 0) ⊎ (((number ≡ 4) ⊎ (number ≡ 5)) × (place < n))
refusal_place too_few_stops = inl refl
refusal_place (bad_row inside) = inr (inl refl, inside)
refusal_place (bad_order inside) = inr (inr refl, inside)
refusal_place no_such_day = inl refl
refusal_place too_little_room = inl refl
refusal_place past_a_limit = inl refl
refusal_place unreadable_line = inl refl
refusal_place wrong_time = inl refl
refusal_place wrong_sequence = inl refl

-- the numbers are 1, 4 to 7, 9, and 11 to 13: there is no 2, 3, 8 or 10
pub refusal_number : {n number place : ℕ} → Refusal n number place
    → (number ≡ 1) ⊎ (((4 ≤ number) × (number ≤ 7)) ⊎ ((number ≡ 9) ⊎ ((11 ≤ number) × (number ≤ 13))))
refusal_number too_few_stops = inl refl
refusal_number (bad_row inside) = inr (inl (omega arith, omega arith))
refusal_number (bad_order inside) = inr (inl (omega arith, omega arith))
refusal_number no_such_day = inr (inl (omega arith, omega arith))
refusal_number too_little_room = inr (inl (omega arith, omega arith))
refusal_number past_a_limit = inr (inr (inl refl))
refusal_number unreadable_line = inr (inr (inr (omega arith, omega arith)))
refusal_number wrong_time = inr (inr (inr (omega arith, omega arith)))
refusal_number wrong_sequence = inr (inr (inr (omega arith, omega arith)))
