-- The numbers of the import's answer are small. Assumes nothing.
use Prim.Native.Nat.{ℕ, ◌≤◌, ◌<◌}
use mathlib.Core.List.{List}
use mathlib.Core.Logic.{⊎_elim}
use mathlib.Core.Path.{◌≡◌, refl, ap}
use native.Mathlib.Omega.{arith}
use Rattle.timetable.specs.Limits.{most_rows}
use Rattle.file_layout.specs.declared.Trailer.{Trailer}
use Rattle.gtfs_stop_time.specs.StopTime.{day_start}
use Rattle.gtfs_calls.specs.Reading.{Reading, said, wrong}
use Rattle.gtfs_calls.proofs.ReadSound.{read_sound}
use Rattle.std.specs.Prelude.{Result, Ok, Err}
use Rattle.std.specs.Result.{MatchResult}
use Rattle.timetable.specs.Verdict.{refused}
use Rattle.timetable.specs.declared.Refusal.{Refusal}
use Rattle.gtfs_import.specs.declared.Written.{Written}
use Rattle.gtfs_import.specs.Import.{imported, import_outcome}
use Rattle.gtfs_import.specs.Returned.{read_on, rows_in}
use Rattle.gtfs_import.proofs.Ended.{import_ends, reason_of, file_of_lem}
use Rattle.gtfs_import.proofs.Refusals.{refusal_of, refusal_place, refusal_number}

module _ (text : List ℕ) (day : ℕ) (out : List ℕ) where
  few_rows : (r : Reading) → read_on day text ≡ r → rows_in r ≤ most_rows
  few_rows (said calls) says = (read_sound (day_start day) text calls says).few_rows
  few_rows (wrong number line column) says = omega arith

  -- a refusal's number and place
  pub refused_small : (number place : ℕ) → (import_outcome text day out).answer ≡ refused number place → (number ≤ 13) × (place ≤ most_rows)
  refused_small number place told =
      let refusal = refusal_of (reason_of (import_ends text day out) told).1 in
      let few = few_rows (read_on day text) refl in (
        ⊎_elim (λ e. omega arith) (λ b. ⊎_elim (λ e. omega arith) (λ d. ⊎_elim (λ e. omega arith) (λ e. omega arith) d) b) (refusal_number refusal),
        ⊎_elim (λ e. omega arith) (λ e. omega arith) (refusal_place refusal),
      )

  -- S, n, K and the length of a file
  pub written_small : (trailer : Trailer) (bytes : ℕ) → (import_outcome text day out).answer ≡ imported trailer bytes
      → (trailer.stops < 65536) × (trailer.rows < 65536) × (trailer.classes < 65536) × (bytes < 65536)
  written_small trailer bytes told =
      let file = (file_of_lem (import_ends text day out) told).1.2 in
      let says = file.says in (
        omega (arith, ap (λ (h : Trailer). h.stops) says, file.few_stops),
        omega (arith, ap (λ (h : Trailer). h.rows) says, file.few_rows),
        omega (arith, ap (λ (h : Trailer). h.classes) says),
        omega (arith, file.size, file.few_rows),
      )

  -- the same of whatever is answered; the first part names the outcome, for a tactic that looks for it
  pub import_fits : (import_outcome text day out ≡ import_outcome text day out)
      × MatchResult (import_outcome text day out).answer
      (λ file. (file.trailer.stops < 65536) × (file.trailer.rows < 65536) × (file.trailer.classes < 65536) × (file.bytes < 65536))
      (λ refusal. (refusal.number ≤ 13) × (refusal.place ≤ most_rows))
  import_fits = (refl, of_answer (import_outcome text day out).answer refl)
    where
      of_answer : (answer : Result Written (Refusal ℕ)) → (import_outcome text day out).answer ≡ answer
          → MatchResult answer (λ file. (file.trailer.stops < 65536) × (file.trailer.rows < 65536) × (file.trailer.classes < 65536) × (file.bytes < 65536))
          (λ refusal. (refusal.number ≤ 13) × (refusal.place ≤ most_rows))
      of_answer (Ok file) told = written_small file.trailer file.bytes told
      of_answer (Err refusal) told = refused_small refusal.number refusal.place told
