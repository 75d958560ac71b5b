-- What the import returns, for every text, day and lent slice, over its contract. Assumes nothing.
use Prim.Native.Nat.{ℕ, ◌≤◌, ◌<◌}
use mathlib.Core.List.{List, [], ◌∷◌}
use mathlib.Core.Logic.{◌↔◌, ◌⊎◌}
use mathlib.Core.Path.{◌≡◌, refl, sym, ap, subst, subst⁻¹, ◌∙◌}
use lib.ListN.{length, take}
use contract.Lifetimes.{Lfts}
use denote.Triple.Clauses.{AtExit}
use borrow.Fn.Kinds.{Dens, res_t, ended_of}
use Rattle.timetable.specs.Limits.{fewest_stops}
use Rattle.timetable.specs.Timetable.{Timetable}
use Rattle.std.specs.Prelude.{Ok}
use Rattle.timetable.specs.Verdict.{refused}
use Rattle.file_layout.specs.declared.Trailer.{Trailer}
use Rattle.file_layout.specs.Check.{checked}
use Rattle.file_layout.specs.Decode.{decode}
use Rattle.file_layout.specs.Format.{version_one}
use Rattle.gtfs_stop_time.specs.StopTime.{StopTime, day_start}
use Rattle.gtfs_calls.specs.Calls.{stops_of, rows_of}
use Rattle.gtfs_calls.specs.FileRows.{FileRows}
use Rattle.gtfs_calls.specs.Reading.{said, wrong}
use Rattle.gtfs_calls.proofs.FileRows.{file_rows}
use Rattle.gtfs_calls.proofs.ReadSound.{read_sound}
use Rattle.gtfs_import.specs.Import.{first_day, last_day, imported, ImportOutcome, by_reading, by_check, import_answer, import_outcome}
use Rattle.gtfs_import.specs.Returned.{Asked, read_on, file_of, FileWritten, Ended, rows_in, Refusal}
use Rattle.gtfs_import.proofs.Days.{served, unserved, no_service_day, too_little_room, by_the_text}
use Rattle.gtfs_import.proofs.Ended.{few_stops_kept_back, import_ends, reason_of, file_of_lem}
use Rattle.gtfs_import.proofs.Refusals.{refusal_of, day_reason, room_reason, text_reason, check_reason, stops_reason, refusal_place, refusal_number}
use Rattle.gtfs_import.proofs.Told.{kept_back, handed_over}
use Rattle.gtfs_import.proofs.import_stop_times.Kinds as kinds
use Rattle.gtfs_import.proofs.import_stop_times.Reads as reads

-- whatever answer and slice the contract permits
module _ (κs : Lfts 2) (arguments : Dens κs kinds.ps) (answer : (res_t kinds.r κs).Denot) (ending : AtExit (ended_of 2 kinds.ps kinds.r) κs)
    (permitted : reads.Post κs arguments answer ending) where
  abbrev text : List ℕ
  text = arguments.0.now

  abbrev day : ℕ
  day = arguments.1.0

  abbrev out : List ℕ
  out = arguments.1.1.0.now

  abbrev out' : List ℕ
  out' = ending.1.1.0.now

  pub ends : Ended text day out answer out'
  ends =
      subst (λ o. Ended text day out answer o) (sym permitted.1)
      (subst (λ a. Ended text day out a (import_outcome text day out).out) (sym permitted.0) (import_ends text day out))

  -- a file is answered only if its bytes stand in `out` and the check accepts them
  pub file_accepted : (trailer : Trailer) (bytes : ℕ) → answer ≡ imported trailer bytes
      → Asked day out × ((calls : List StopTime) × (read_on day text ≡ said calls) × FileWritten calls out out' trailer bytes)
  file_accepted trailer bytes told = file_of_lem ends told

  -- its rows are one for each pair of neighbouring calls, by departure, then by trip number, then as read
  pub file_rows_returned : (trailer : Trailer) (bytes : ℕ) → answer ≡ imported trailer bytes
      → (calls : List StopTime) × (read_on day text ≡ said calls) × FileRows calls (decode version_one (take bytes out')).rows
  file_rows_returned trailer bytes told =
      let accepted = (file_accepted trailer bytes told).1 in
      (accepted.0, accepted.1, subst⁻¹ (λ (t : Timetable). FileRows accepted.0 t.rows) accepted.2.decodes (file_rows accepted.0))

  -- it is answered with S, n, K = 1 and its length
  pub file_values : (trailer : Trailer) (bytes : ℕ) → answer ≡ imported trailer bytes
      → (calls : List StopTime) × (read_on day text ≡ said calls)
      × (import_answer answer ≡ record { number = 0; place = 0; values = length (stops_of calls) ∷ length (rows_of calls) ∷ 1 ∷ bytes ∷ [] })
  unfolding import_answer
  file_values trailer bytes told =
      let accepted = (file_accepted trailer bytes told).1 in
      (accepted.0, accepted.1, ap import_answer (told ∙ ap (λ h. imported h bytes) accepted.2.says))

  -- a refusal leaves `out` as it was, and is one of nine, 4 and 5 at a row and the others at 0
  pub refuses : (number place : ℕ) → answer ≡ refused number place → (out' ≡ out) × Refusal (rows_in (read_on day text)) number place
  refuses number place told = let found = reason_of ends told in (found.0, refusal_of found.1)

  pub refuses_at : (number place : ℕ) → answer ≡ refused number place
      → (place ≡ 0) ⊎ (((number ≡ 4) ⊎ (number ≡ 5)) × (place < rows_in (read_on day text)))
  refuses_at number place told = refusal_place (refuses number place told).1

  -- never 2, 3, 8 or 10
  pub refuses_by : (number place : ℕ) → answer ≡ refused number place
      → (number ≡ 1) ⊎ (((4 ≤ number) × (number ≤ 7)) ⊎ ((number ≡ 9) ⊎ ((11 ≤ number) × (number ≤ 13))))
  refuses_by number place told = refusal_number (refuses number place told).1

  -- 6 exactly if the day is none
  pub six_exactly : (answer ≡ refused 6 0) ↔ (first_day ≤ day → day ≤ last_day → ⊥)
  six_exactly = (
    λ told. day_reason (reason_of ends told).1 refl,
    λ none. permitted.0 ∙ ap (λ (o : ImportOutcome). o.answer) (no_service_day text day out (unserved day none)),
  )

  -- 7 exactly if the day is one and the room is too small
  pub seven_exactly : (answer ≡ refused 7 0) ↔ ((first_day ≤ day) × (day ≤ last_day) × (length out < version_one.mostbytes))
  seven_exactly = (
    λ told. room_reason (reason_of ends told).1 refl,
    λ little.
        permitted.0
        ∙ ap (λ (o : ImportOutcome). o.answer) (too_little_room text day out (served day little.0 little.1) little.2),
  )

  asked_outcome : Asked day out → answer ≡ (by_reading (read_on day text) out).answer
  asked_outcome asked =
      permitted.0 ∙ ap (λ (o : ImportOutcome). o.answer) (by_the_text text day out (served day asked.first asked.last) asked.room)

  -- a number above 8 exactly if the call is asked well and the text's first fault has it
  pub text_fault_exactly : (number : ℕ) → 8 < number
      → (answer ≡ refused number 0) ↔ (Asked day out × ((line : ℕ) × (column : ℕ) × (read_on day text ≡ wrong number line column)))
  unfolding by_reading
  text_fault_exactly number above = (
    λ told. text_reason (reason_of ends told).1 above,
    λ faulty. asked_outcome faulty.0 ∙ ap (λ r. (by_reading r out).answer) faulty.1.2,
  )

  said_outcome : Asked day out → (calls : List StopTime) → read_on day text ≡ said calls
      → answer ≡ (by_check (file_of calls) out (checked (file_of calls))).answer
  unfolding by_reading
  said_outcome asked calls says = asked_outcome asked ∙ ap (λ r. (by_reading r out).answer) says

  -- a number below 6 exactly if the call is asked well, the text has no fault, and the check refuses its file so
  pub file_fault_exactly : (number place : ℕ) → number < 6
      → (answer ≡ refused number place)
      ↔ (Asked day out × ((calls : List StopTime) × (read_on day text ≡ said calls) × (checked (file_of calls) ≡ refused number place)))
  file_fault_exactly number place below = (
    λ told. check_reason (reason_of ends told).1 below,
    λ faulty.
        let calls = faulty.1.0 in
        said_outcome faulty.0 calls faulty.1.1
        ∙ ap (λ (o : ImportOutcome). o.answer) (kept_back (file_of calls) out number place faulty.1.2),
  )

  -- a file exactly if the call is asked well, the text has no fault, and the check accepts its file
  pub file_exactly : (trailer : Trailer) → ((bytes : ℕ) × (answer ≡ imported trailer bytes))
      ↔ (Asked day out × ((calls : List StopTime) × (read_on day text ≡ said calls) × (checked (file_of calls) ≡ Ok trailer)))
  file_exactly trailer = (
    λ told.
        let found = file_accepted trailer told.0 told.1 in
        let file = found.1.2 in
        (found.0, (found.1.0, found.1.1, ap checked (sym file.file) ∙ file.accepted)),
    λ sound.
        let calls = sound.1.0 in
        let told = handed_over (file_of calls) out trailer sound.1.2 in
        (length (file_of calls), said_outcome sound.0 calls sound.1.1 ∙ ap (λ (o : ImportOutcome). o.answer) told),
  )

  -- 1 exactly if no earlier refusal holds and the stops are fewer than two
  pub one_exactly : (answer ≡ refused 1 0)
      ↔ (Asked day out × ((calls : List StopTime) × (read_on day text ≡ said calls) × (length (stops_of calls) < fewest_stops)))
  one_exactly = (
    λ told. stops_reason (reason_of ends told).1 refl,
    λ few.
        let calls = few.1.0 in
        said_outcome few.0 calls few.1.1
        ∙ ap (λ (o : ImportOutcome). o.answer) (few_stops_kept_back calls (read_sound (day_start day) text calls few.1.1) out few.1.2),
  )
