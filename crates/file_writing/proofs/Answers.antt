-- What the check answers to a file in which nothing is late: 1 for too few stops, else 4 or 5 at a row, else it is sound. Assumes nothing.
use Prim.Native.Nat.{ℕ, ◌<◌, ◌≤◌}
use mathlib.Core.Bool.{Bool, true, false, ◌&&◌}
use mathlib.Core.List.{List, [], ◌∷◌}
use mathlib.Core.Logic.{◌↔◌, ◌⊎◌, inl, inr}
use mathlib.Core.Path.{◌≡◌, refl, sym, ap, subst, ◌∙◌}
use native.Mathlib.Omega.{arith}
use lib.Dec.{leb}
use lib.ListN.{length}
use borrow.Author.Tests.{leb-true, leb-false, lt-leb}
use Rattle.laws.proofs.Tests.{ifb}
use Rattle.timetable.specs.Timetable.{row_of}
use Rattle.timetable.specs.Limits.{fewest_stops, most_stops, most_rows, fewest_classes, most_classes}
use Rattle.timetable.specs.Rows.{rows_verdict}
use Rattle.timetable.specs.Verdict.{Verdict, fine, fault, or_else, unless, refused}
use Rattle.timetable.specs.declared.Row.{Row}
use Rattle.timetable.proofs.Places.{FaultSuch, rows_such}
use Rattle.std.specs.Prelude.{Ok}
use Rattle.file_layout.specs.declared.Format.{Format}
use Rattle.file_layout.specs.declared.Trailer.{Trailer}
use Rattle.file_layout.specs.Check.{length_rule, trailer_rule, classes_verdict, joined, sections_verdict, ranges_of, file_verdict, answered, checked_as, answer_of}
use Rattle.file_layout.specs.Decode.{trailer_start, trailer_of, decode}
use Rattle.file_layout.specs.Format.{version_one}
use Rattle.file_layout.specs.Small.{SmallRow}
use Rattle.file_layout.proofs.Sound.{fault_answered}
use Rattle.file_encoding.specs.Encode.{encode}
use Rattle.file_encoding.specs.Writable.{trailer_for}
use Rattle.file_encoding.proofs.Encode.{trailer_encode}
use Rattle.file_encoding.proofs.EncodeCheck.{check_encode}
use Rattle.file_writing.specs.Ends.{on_time, on_time_trailer}
use Rattle.file_writing.proofs.OnTime.{trailer_on_time, writable_on_time, within_on_time}
use Rattle.file_writing.specs.Answers.{checked_on_time, RefusedOnTime, few_stops, own_fault, order_fault, AnsweredOnTime}

-- a trailer out of its ranges is 1, whatever the file's length
outside_first : (b : Bool) (later rows : Verdict) → or_else (or_else (unless b 1 0) (or_else (unless false 1 0) later)) rows ≡ fault 1 0
outside_first true later rows = refl
outside_first false later rows = refl

outside_refused : (f : Format) (s : List ℕ) → trailer_rule f (trailer_of f s) ≡ false → checked_as f s ≡ refused 1 0
unfolding file_verdict sections_verdict
outside_refused f s e =
    let h = trailer_of f s in
    let later = or_else (classes_verdict f s (trailer_start f s) 0 h.tablestart h.classes) (unless (joined f s h) 2 0) in
    let rows = rows_verdict (ranges_of f h) [] 0 (decode f s).rows in
    fault_answered f s 1 0
    (ap (λ b. or_else (or_else (unless (length_rule f s) 1 0) (or_else (unless b 1 0) later)) rows) e ∙ outside_first (length_rule f s) later rows)

too_few : (stops n : ℕ) → stops < fewest_stops → trailer_rule version_one (on_time_trailer stops n) ≡ false
unfolding trailer_rule
too_few stops n h =
    ap (λ b. b && leb stops most_stops && leb n most_rows && leb fewest_classes 1 && leb 1 most_classes) (lt-leb fewest_stops stops h)

-- the same by arithmetic
pub refusal_numbers : {stops n number place : ℕ} → RefusedOnTime stops n number place
    → ((number ≡ 1) × (place ≡ 0) × (stops < fewest_stops)) ⊎ ((4 ≤ number) × (number ≤ 5) × (place < n) × (fewest_stops ≤ stops))
refusal_numbers (few_stops less) = inl (refl, refl, less)
refusal_numbers (own_fault enough h) = inr (omega arith, omega arith, h, enough)
refusal_numbers (order_fault enough h) = inr (omega arith, omega arith, h, enough)

one_few_stops : {stops n number place : ℕ} → RefusedOnTime stops n number place → number ≡ 1 → stops < fewest_stops
one_few_stops (few_stops less) e = less
one_few_stops (own_fault enough h) e = absurd (let z : ⊥ = omega arith in z)
one_few_stops (order_fault enough h) e = absurd (let z : ⊥ = omega arith in z)

rows_answered : (stops : ℕ) (rows : List Row) (v : Verdict) → fewest_stops ≤ stops → FaultSuch (RefusedOnTime stops (length rows)) v
    → AnsweredOnTime stops rows (answered (trailer_for version_one (on_time stops rows)) v)
unfolding answered
rows_answered stops rows fine enough p = (enough, refl)
rows_answered stops rows (fault number place) enough p = p

module _ (stops : ℕ) (rows : List Row) (few : length rows ≤ most_rows) (small : (i : ℕ) → i < length rows → SmallRow (row_of rows i)) where
  -- with enough stops the answer is the verdict on the rows
  pub check_on_time : fewest_stops ≤ stops → stops ≤ most_stops
      → checked_on_time stops rows
      ≡ answered (trailer_for version_one (on_time stops rows)) (rows_verdict (ranges_of version_one (trailer_for version_one (on_time stops rows))) [] 0 rows)
  check_on_time enough fewer =
      check_encode version_one (on_time stops rows) (writable_on_time stops rows (omega arith) few small) (within_on_time stops rows enough fewer few)

  pub few_stops_refused : stops < fewest_stops → checked_on_time stops rows ≡ refused 1 0
  few_stops_refused less =
      let written = trailer_encode version_one (on_time stops rows) (writable_on_time stops rows (omega arith) few small) in
      outside_refused version_one (encode version_one (on_time stops rows))
      (ap (trailer_rule version_one) (written ∙ trailer_on_time stops rows) ∙ too_few stops (length rows) less)

  rows_checked : fewest_stops ≤ stops → stops ≤ most_stops → AnsweredOnTime stops rows (checked_on_time stops rows)
  rows_checked enough fewer =
      let n = length rows in
      let g = ranges_of version_one (trailer_for version_one (on_time stops rows)) in
      let faults = rows_such (RefusedOnTime stops n) n (λ i h. own_fault enough h) (λ i h. order_fault enough h) g [] 0 rows (omega arith) in
      subst (AnsweredOnTime stops rows) (sym (check_on_time enough fewer)) (rows_answered stops rows (rows_verdict g [] 0 rows) enough faults)

  module _ (fewer : stops ≤ most_stops) where
    pub answer_on_time : AnsweredOnTime stops rows (checked_on_time stops rows)
    answer_on_time =
        ifb (λ b. AnsweredOnTime stops rows (checked_on_time stops rows)) (leb fewest_stops stops)
        (λ e. rows_checked (leb-true fewest_stops stops e) fewer)
        (λ e.
        let less = leb-false fewest_stops stops e in subst (AnsweredOnTime stops rows) (sym (few_stops_refused less)) (few_stops less))

    pub refused_on_time : {number place : ℕ} → checked_on_time stops rows ≡ refused number place → RefusedOnTime stops (length rows) number place
    refused_on_time e = subst (AnsweredOnTime stops rows) e answer_on_time

    -- 1 exactly if there are too few stops
    pub one_exactly : (checked_on_time stops rows ≡ refused 1 0) ↔ (stops < fewest_stops)
    one_exactly = ((λ e. one_few_stops (refused_on_time e) refl), few_stops_refused)

    pub sound_on_time : {h : Trailer} → checked_on_time stops rows ≡ Ok h → (fewest_stops ≤ stops) × (h ≡ on_time_trailer stops (length rows))
    sound_on_time e = let told = subst (AnsweredOnTime stops rows) e answer_on_time in (told.0, told.1 ∙ trailer_on_time stops rows)

    -- a sound file is answered with S, n and K
    pub sound_values : {h : Trailer} → checked_on_time stops rows ≡ Ok h
        → answer_of (checked_on_time stops rows) ≡ record { number = 0; place = 0; values = stops ∷ length rows ∷ 1 ∷ [] }
    unfolding answer_of
    sound_values e = ap answer_of (e ∙ ap Ok (sound_on_time e).1)
