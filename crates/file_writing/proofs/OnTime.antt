-- A timetable in which nothing is late: how long its file is, that it can be written, and the limits that it keeps. Assumes nothing.
use Prim.Native.Nat.{ℕ, zero, suc, ◌+◌, ◌*◌, ◌<◌, ◌≤◌}
use mathlib.Core.Bool.{true}
use mathlib.Core.List.{List, [], ◌∷◌}
use mathlib.Core.Path.{◌≡◌, refl, ◌∙◌}
use native.Mathlib.Omega.{arith}
use lib.ListN.{length, get_or}
use Rattle.timetable.specs.Timetable.{maximum_delay, row_of, shares_of}
use Rattle.timetable.specs.Classes.{sum, shares_rule}
use Rattle.timetable.specs.Limits.{fewest_stops, most_stops, most_rows}
use Rattle.timetable.specs.declared.Row.{Row}
use Rattle.file_layout.specs.Format.{version_one}
use Rattle.file_layout.specs.Small.{SmallRow}
use Rattle.file_encoding.specs.Encode.{encode}
use Rattle.file_encoding.specs.Writable.{WritableTable, Writable, WithinLimits, block_size, tables_size, file_size, trailer_for}
use Rattle.file_encoding.proofs.Sizes.{length_encode}
use Rattle.file_writing.specs.Ends.{never_late, on_time, on_time_trailer}

pub size_on_time : (stops : ℕ) (rows : List Row) → file_size (on_time stops rows) ≡ 12 * length rows + 20
unfolding file_size tables_size block_size
size_on_time stops rows = omega arith

pub length_on_time : (stops : ℕ) (rows : List Row) → length (encode version_one (on_time stops rows)) ≡ 12 * length rows + 20
length_on_time stops rows = length_encode version_one (on_time stops rows) ∙ size_on_time stops rows

-- the trailer is written as these numbers
pub trailer_on_time : (stops : ℕ) (rows : List Row) → trailer_for version_one (on_time stops rows) ≡ on_time_trailer stops (length rows)
unfolding trailer_for
trailer_on_time stops rows = refl

-- what holds of the first holds of each of one
first_alone {ℓ} : (P : ℕ → Type ℓ) → P 0 → (k : ℕ) → k < 1 → P k
first_alone P p zero h = p
first_alone P p (suc k) h = absurd (let z : ⊥ = omega arith in z)

pub writable_on_time : (stops : ℕ) (rows : List Row) → stops < 65536 → length rows ≤ most_rows
    → ((i : ℕ) → i < length rows → SmallRow (row_of rows i)) → Writable version_one (on_time stops rows)
writable_on_time stops rows fit few small =
    record {
      plain = record { trailer = refl; width = refl };
      version = omega arith;
      stops = fit;
      rows = omega arith;
      tables = omega arith;
      each_row = small;
      each_table =
          first_alone (λ k. WritableTable (shares_of (never_late ∷ []) k))
          (record { some = omega arith; delay = omega arith; each_share = first_alone (λ v. get_or never_late v 0 < 65536) (omega arith) });
    }

shares_whole : shares_rule never_late ≡ true
unfolding shares_rule sum
shares_whole = refl

pub within_on_time : (stops : ℕ) (rows : List Row) → fewest_stops ≤ stops → stops ≤ most_stops → length rows ≤ most_rows
    → WithinLimits version_one (on_time stops rows)
within_on_time stops rows enough fewer few =
    record {
      not_short = omega (arith, size_on_time stops rows);
      not_long = omega (arith, size_on_time stops rows);
      enough_stops = enough;
      few_stops = fewer;
      few_rows = few;
      enough_classes = omega arith;
      few_classes = omega arith;
      delays = first_alone (λ k. maximum_delay (shares_of (never_late ∷ []) k) ≤ version_one.delay) (omega arith);
      shares = first_alone (λ k. shares_rule (shares_of (never_late ∷ []) k) ≡ true) shares_whole;
    }
