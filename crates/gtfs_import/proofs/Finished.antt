-- The table and the trailer behind the rows that were read: the file of the calls. Assumes nothing.
use Prim.Native.Nat.{ℕ, ◌+◌, ◌*◌, ◌≤◌}
use mathlib.Core.List.{List, [], ◌∷◌}
use mathlib.Core.Path.{◌≡◌, refl, sym, ap, ◌∙◌}
use native.Mathlib.Omega.{arith}
use lib.ListN.{length, take}
use lib.Seq.{sets}
use Rattle.numbers.specs.Over.{over}
use Rattle.timetable.specs.declared.Row.{Row}
use Rattle.timetable.specs.Limits.{most_rows}
use Rattle.file_layout.specs.Check.{checked}
use Rattle.file_layout.specs.Format.{version_one}
use Rattle.file_encoding.specs.Encode.{bytes_of_trailer, encode, rows_bytes, tables_bytes}
use Rattle.file_writing.specs.Ends.{never_late, on_time, on_time_trailer}
use Rattle.file_writing.proofs.Whole.{whole_written, first_bytes}
use Rattle.gtfs_order.specs.Order.{in_order}
use Rattle.gtfs_order.proofs.AsRead.{in_order_length}
use Rattle.gtfs_stop_times.specs.declared.Counts.{Counts}
use Rattle.gtfs_stop_times.specs.Answers.{written_of, out_after}
use Rattle.gtfs_stop_times.specs.declared.Wanted.TheVariants.{Rows}
use Rattle.gtfs_calls.specs.Calls.{stops_of, rows_of, timetable_of}
use Rattle.gtfs_calls.specs.Reading.{Reading}
use Rattle.gtfs_calls.specs.Sound.{ReadSound}
use Rattle.gtfs_import.specs.Import.{by_check, by_reading}
use Rattle.gtfs_import.specs.Room.{file_room}
use Rattle.gtfs_import.proofs.Told.{Counted}

module _ {reading : Reading} {counts : Counts} (read : Counted reading counts) (sound : ReadSound read.calls) where
  abbrev rows : List Row
  rows = in_order (rows_of read.calls)

  abbrev stops : ℕ
  stops = length (stops_of read.calls)

  row_count : counts.rows ≡ length (rows_of read.calls)
  row_count = ap (λ (k : Counts). k.rows) read.counted

  pub few_rows : counts.rows ≤ most_rows
  few_rows = omega (arith, row_count, sound.few_rows)

  module _ (blank : List ℕ) {first third : List ℕ} (room : length blank ≡ file_room) (put : first ≡ out_after Rows reading blank)
      (ended : third ≡ sets (sets first (12 * counts.rows) (tables_bytes (never_late ∷ []))) (12 * counts.rows + 4)
      (bytes_of_trailer (on_time_trailer counts.stops counts.rows))) where
    rows_put : first ≡ over (rows_bytes rows) blank
    unfolding out_after written_of
    rows_put = put ∙ ap (λ r. out_after Rows r blank) read.says

    finished : take (12 * counts.rows + 20) third ≡ encode version_one (on_time stops rows)
    finished =
        let n = counts.rows in
        let count : length rows ≡ n = in_order_length (rows_of read.calls) ∙ sym row_count in
        let same : counts.stops ≡ stops = ap (λ (k : Counts). k.stops) read.counted in
        let table : List ℕ = sets first (12 * n) (tables_bytes (never_late ∷ [])) in
        let trailer : third ≡ sets table (12 * n + 4) (bytes_of_trailer (on_time_trailer stops n)) =
        ended ∙ ap (λ s. sets table (12 * n + 4) (bytes_of_trailer (on_time_trailer s n))) same in
        ap (take (12 * n + 20)) (whole_written rows stops n count blank (omega (arith, few_rows, room)) rows_put refl trailer)
        ∙ first_bytes rows stops n count blank

    -- what the check of the finished file comes to is what the text comes to
    pub file_finished : (out file : List ℕ) → file ≡ take (12 * counts.rows + 20) third
        → by_check file out (checked file) ≡ by_reading reading out
    unfolding by_reading timetable_of
    file_finished out file e =
        ap (λ (l : List ℕ). by_check l out (checked l)) (e ∙ finished) ∙ sym (ap (λ r. by_reading r out) read.says)
