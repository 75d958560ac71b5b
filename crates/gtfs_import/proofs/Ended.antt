-- The import ends in a refusal with its reason, or in a file. Assumes nothing.
use Prim.Native.Nat.{ℕ, ◌+◌, ◌*◌, ◌≤◌, ◌<◌}
use mathlib.Core.Bool.{false≢true}
use mathlib.Core.List.{List}
use mathlib.Core.Path.{◌≡◌, refl, sym, ap, subst, ◌∙◌}
use native.Mathlib.Omega.{arith}
use lib.Dec.{leb}
use lib.ListN.{length, take, drop}
use borrow.Author.Tests.{leb-true, leb-false}
use Rattle.laws.proofs.Tests.{ifb}
use Rattle.numbers.specs.Over.{over}
use Rattle.timetable.specs.declared.Row.{Row}
use Rattle.timetable.specs.Limits.{fewest_stops, most_rows}
use Rattle.timetable.specs.Timetable.{row_of}
use Rattle.std.specs.Prelude.{Result, Ok, Err}
use Rattle.timetable.specs.Verdict.{fault, told_fault, refused as told_refused}
use Rattle.timetable.specs.declared.Refusal.{Refusal}
use Rattle.file_layout.specs.declared.Trailer.{Trailer}
use Rattle.file_layout.specs.Check.{checked}
use Rattle.file_layout.specs.Decode.{decode}
use Rattle.file_layout.specs.Format.{version_one}
use Rattle.file_layout.specs.Small.{SmallRow}
use Rattle.file_encoding.proofs.Encode.{decode_encode}
use Rattle.file_writing.specs.Ends.{on_time, on_time_trailer}
use Rattle.file_writing.specs.Answers.{RefusedOnTime}
use Rattle.file_writing.proofs.Answers.{few_stops_refused, refused_on_time, sound_on_time}
use Rattle.file_writing.proofs.OnTime.{length_on_time, writable_on_time}
use Rattle.file_writing.proofs.Whole.{first_bytes, other_bytes, length_whole}
use Rattle.gtfs_order.specs.Order.{in_order}
use Rattle.gtfs_order.proofs.AsRead.{in_order_length}
use Rattle.gtfs_order.proofs.Ordered.{each_in_order}
use Rattle.gtfs_stop_time.specs.StopTime.{StopTime, day_start}
use Rattle.gtfs_calls.specs.Calls.{stops_of, rows_of, timetable_of}
use Rattle.gtfs_calls.specs.FaultNumbers.{FaultKnown}
use Rattle.gtfs_calls.specs.Reading.{Reading, said, wrong}
use Rattle.gtfs_calls.specs.Sound.{ReadSound}
use Rattle.gtfs_calls.proofs.FaultNumbers.{fault_known}
use Rattle.gtfs_calls.proofs.ReadSound.{read_sound}
use Rattle.gtfs_import.specs.declared.Written.{Written}
use Rattle.gtfs_import.specs.Import.{day_rule, imported, ImportOutcome, refused_import, by_check, by_reading, import_outcome}
use Rattle.gtfs_import.specs.Returned.{Asked, read_on, file_of, FileWritten, Reason, no_day, little_room, text_fault, file_fault, Ended, refused, written}
use Rattle.gtfs_import.proofs.Days.{served, day_kept, no_service_day, too_little_room, by_the_text}
use Rattle.gtfs_import.proofs.Told.{kept_back}

module _ (calls : List StopTime) (sound : ReadSound calls) where
  abbrev rows : List Row
  rows = in_order (rows_of calls)

  abbrev stops : ℕ
  stops = length (stops_of calls)

  abbrev file : List ℕ
  file = file_of calls

  few : length rows ≤ most_rows
  few = omega (arith, in_order_length (rows_of calls), sound.few_rows)

  small : (i : ℕ) → i < length rows → SmallRow (row_of rows i)
  small = each_in_order SmallRow (rows_of calls) sound.small

  pub fault_of_file : (number place : ℕ) → checked file ≡ told_refused number place → RefusedOnTime stops (length (rows_of calls)) number place
  unfolding checked timetable_of
  fault_of_file number place e =
      subst (λ n. RefusedOnTime stops n number place) (in_order_length (rows_of calls))
      ((refused_on_time stops rows few small sound.few_stops e))

  pub few_stops_kept_back : (out : List ℕ) → stops < fewest_stops → by_check file out (checked file) ≡ refused_import 1 0 out
  unfolding checked timetable_of
  few_stops_kept_back out less = kept_back file out 1 0 (few_stops_refused stops rows few small less)

  -- the first bytes are the file, and the others as before
  pub file_of_calls : (trailer : Trailer) (out : List ℕ) → version_one.mostbytes ≤ length out → checked file ≡ Ok trailer
      → FileWritten calls out (over file out) trailer (length file)
  unfolding checked timetable_of
  file_of_calls trailer out room e =
      let n = length (rows_of calls) in
      let count : length rows ≡ n = in_order_length (rows_of calls) in
      let size : length file ≡ 12 * n + 20 = length_on_time stops rows ∙ ap (λ k. 12 * k + 20) count in
      let front : take (length file) (over file out) ≡ file = ap (λ k. take k (over file out)) size ∙ first_bytes rows stops n count out in
      let told = sound_on_time stops rows few small sound.few_stops e in
      record {
        file = front;
        accepted = ap checked front ∙ e;
        decodes = ap (decode version_one) front
            ∙ decode_encode version_one (on_time stops rows) (writable_on_time stops rows (omega (arith, sound.few_stops)) few small);
        size = size;
        says = told.1 ∙ ap (on_time_trailer stops) count;
        enough_stops = told.0;
        few_stops = sound.few_stops;
        few_rows = sound.few_rows;
        others = ap (λ k. drop k (over file out)) size ∙ other_bytes rows stops n count out ∙ ap (λ k. drop k out) (sym size);
        same_length = length_whole rows stops n count out (omega (arith, sound.few_rows));
      }

module _ (text : List ℕ) (day : ℕ) (out : List ℕ) where
  abbrev Ends : ImportOutcome → Type 0
  Ends o = Ended text day out o.answer o.out

  by_check_lem : (calls : List StopTime) → Asked day out → read_on day text ≡ said calls → (c : Result Trailer (Refusal ℕ))
      → checked (file_of calls) ≡ c → Ends (by_check (file_of calls) out c)
  unfolding by_check
  by_check_lem calls asked says (Ok trailer) e =
      let sound = read_sound (day_start day) text calls says in
      written calls trailer (length (file_of calls)) asked says (file_of_calls calls sound trailer out asked.room e) refl
  by_check_lem calls asked says (Err refusal) e =
      refused refusal.number refusal.place (file_fault calls asked says e (fault_of_file calls (read_sound (day_start day) text calls says) refusal.number refusal.place e)) refl refl

  by_reading_lem : Asked day out → (r : Reading) → read_on day text ≡ r → FaultKnown r → Ends (by_reading r out)
  unfolding by_reading
  by_reading_lem asked (said calls) says known = by_check_lem calls asked says (checked (file_of calls)) refl
  by_reading_lem asked (wrong number line column) says known = refused number 0 (text_fault line column asked says known.0) refl refl

  pub import_ends : Ends (import_outcome text day out)
  import_ends =
      ifb (λ b. Ends (import_outcome text day out)) (day_rule day)
      (λ service.
      let within = day_kept day service in
      ifb (λ b. Ends (import_outcome text day out)) (leb version_one.mostbytes (length out))
      (λ enough.
      let room = leb-true version_one.mostbytes (length out) enough in
      subst Ends (sym (by_the_text text day out service room))
      (by_reading_lem (record { first = within.0; last = within.1; room = room }) (read_on day text) refl (fault_known (day_start day) text)))
      (λ short.
      let little = leb-false version_one.mostbytes (length out) short in
      subst Ends (sym (too_little_room text day out service little)) (refused 7 0 (little_room within.0 within.1 little) refl refl)))
      (λ none.
      subst Ends (sym (no_service_day text day out none))
      (refused 6 0 (no_day (λ first last. false≢true (sym none ∙ served day first last))) refl refl))

same_file : {one other : Written} → ◌≡◌ {A = Result Written (Refusal ℕ)} (Ok one) (Ok other) → one ≡ other
same_file e = cc

-- what an answer tells of how the call ended
module _ {text : List ℕ} {day : ℕ} {out : List ℕ} {answer : Result Written (Refusal ℕ)} {out' : List ℕ} where
  pub reason_of : {number place : ℕ} → Ended text day out answer out' → answer ≡ told_refused number place
      → (out' ≡ out) × Reason text day out number place
  reason_of {number} {place} (refused n p reason told same) e =
      let same_fault : fault n p ≡ fault number place = ap told_fault (sym told ∙ e) in
      let number_is : n ≡ number = cc in
      let place_is : p ≡ place = cc in
      (same, subst (Reason text day out number) place_is (subst (λ k. Reason text day out k p) number_is reason))
  reason_of (written calls trailer bytes asked says file told) e = absurd (let z : ◌≡◌ {A = ℕ} 0 1 = cc in let y : ⊥ = omega arith in y)

  pub file_of_lem : {trailer : Trailer} {bytes : ℕ} → Ended text day out answer out' → answer ≡ imported trailer bytes
      → Asked day out × ((calls : List StopTime) × (read_on day text ≡ said calls) × FileWritten calls out out' trailer bytes)
  file_of_lem (refused n p reason told same) e = absurd (let z : ◌≡◌ {A = ℕ} 0 1 = cc in let y : ⊥ = omega arith in y)
  file_of_lem {trailer} {bytes} (written calls h b asked says file told) e =
      let file_is = same_file (sym told ∙ e) in
      let trailer_is : h ≡ trailer = ap (λ (f : Written). f.trailer) file_is in
      let bytes_is : b ≡ bytes = ap (λ (f : Written). f.bytes) file_is in
      (asked, (calls, says, subst (FileWritten calls out out' trailer) bytes_is (subst (λ k. FileWritten calls out out' k b) trailer_is file)))
