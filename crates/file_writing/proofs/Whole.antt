-- Rows that are there, then the table, then the trailer: the whole file. Assumes nothing.
use Prim.Native.Nat.{ℕ, ◌+◌, ◌*◌, ◌≤◌}
use mathlib.Core.List.{List, [], ◌∷◌, ◌++◌, append_assoc}
use mathlib.Core.Path.{◌≡◌, refl, sym, ap, ◌∙◌}
use native.Mathlib.Omega.{arith}
use lib.ListN.{length, take, drop, length-append, length-drop}
use lib.Seq.{sets, take_at, drop_at}
use Rattle.numbers.specs.Numbers.{u16_bytes, u32_bytes}
use Rattle.numbers.specs.Over.{over}
use Rattle.numbers.proofs.Put.{put_behind}
use Rattle.timetable.specs.declared.Row.{Row}
use Rattle.file_layout.specs.declared.Trailer.{Trailer}
use Rattle.file_layout.specs.Format.{version_one}
use Rattle.file_encoding.specs.Encode.{rows_bytes, shares_bytes, table_bytes, tables_bytes, bytes_of_trailer, trailer_bytes, encode}
use Rattle.file_encoding.proofs.Sizes.{rows_size}
use Rattle.file_writing.specs.Ends.{never_late, on_time, on_time_trailer}
use Rattle.file_writing.proofs.OnTime.{length_on_time}

-- bytes put where those that are there end
put_at : (front more out : List ℕ) (at : ℕ) → length front ≡ at → at + length more ≤ length out
    → sets (over front out) at more ≡ over (front ++ more) out
put_at front more out at e fits = ap (λ k. sets (over front out) k more) (sym e) ∙ put_behind front more out (omega arith)

table_size : length (tables_bytes (never_late ∷ [])) ≡ 4
unfolding tables_bytes table_bytes shares_bytes u16_bytes
table_size = refl

trailer_size : (h : Trailer) → length (bytes_of_trailer h) ≡ 16
unfolding bytes_of_trailer u16_bytes u32_bytes
trailer_size h = refl

module _ (rows : List Row) (stops n : ℕ) (count : length rows ≡ n) (out : List ℕ) where
  same_trailer : bytes_of_trailer (on_time_trailer stops n) ≡ trailer_bytes version_one (on_time stops rows)
  unfolding bytes_of_trailer trailer_bytes
  same_trailer = ap (λ k. bytes_of_trailer (on_time_trailer stops k)) (sym count)

  -- the three parts are the file
  same_bytes :
      rows_bytes rows ++ tables_bytes (never_late ∷ []) ++ bytes_of_trailer (on_time_trailer stops n) ≡ encode version_one (on_time stops rows)
  unfolding encode
  same_bytes =
      let table : List ℕ = tables_bytes (never_late ∷ []) in
      append_assoc (rows_bytes rows) table (bytes_of_trailer (on_time_trailer stops n)) ∙ ap (λ l. rows_bytes rows ++ (table ++ l)) same_trailer

  -- the table and the trailer put behind the rows complete the file, and other bytes stay
  pub whole_file : 12 * n + 20 ≤ length out
      → sets (sets (over (rows_bytes rows) out) (12 * n) (tables_bytes (never_late ∷ []))) (12 * n + 4) (bytes_of_trailer (on_time_trailer stops n))
      ≡ over (encode version_one (on_time stops rows)) out
  whole_file fits =
      let front : List ℕ = rows_bytes rows in
      let table : List ℕ = tables_bytes (never_late ∷ []) in
      let trailer : List ℕ = bytes_of_trailer (on_time_trailer stops n) in
      let long : length front ≡ 12 * n = rows_size rows ∙ ap (λ k. 12 * k) count in
      let longer : length (front ++ table) ≡ 12 * n + 4 = omega (arith, length-append front table, table_size) in
      ap (λ o. sets o (12 * n + 4) trailer) (put_at front table out (12 * n) long (omega (arith, table_size)))
      ∙ put_at (front ++ table) trailer out (12 * n + 4) longer (omega (arith, trailer_size (on_time_trailer stops n)))
      ∙ ap (λ l. over l out) same_bytes

  -- step by step
  pub whole_written : {first second third : List ℕ} → 12 * n + 20 ≤ length out → first ≡ over (rows_bytes rows) out
      → second ≡ sets first (12 * n) (tables_bytes (never_late ∷ []))
      → third ≡ sets second (12 * n + 4) (bytes_of_trailer (on_time_trailer stops n)) → third ≡ over (encode version_one (on_time stops rows)) out
  whole_written fits e f g =
      let table : List ℕ = tables_bytes (never_late ∷ []) in
      let trailer : List ℕ = bytes_of_trailer (on_time_trailer stops n) in
      g ∙ ap (λ o. sets o (12 * n + 4) trailer) (f ∙ ap (λ o. sets o (12 * n) table) e) ∙ whole_file fits

  size : length (encode version_one (on_time stops rows)) ≡ 12 * n + 20
  size = omega (arith, length_on_time stops rows)

  -- what the slice then holds
  pub first_bytes : take (12 * n + 20) (over (encode version_one (on_time stops rows)) out) ≡ encode version_one (on_time stops rows)
  first_bytes =
      let file : List ℕ = encode version_one (on_time stops rows) in take_at file (drop (length file) out) (12 * n + 20) size

  pub other_bytes : drop (12 * n + 20) (over (encode version_one (on_time stops rows)) out) ≡ drop (12 * n + 20) out
  other_bytes =
      let file : List ℕ = encode version_one (on_time stops rows) in
      drop_at file (drop (length file) out) (12 * n + 20) size ∙ ap (λ k. drop k out) size

  pub length_whole : 12 * n + 20 ≤ length out → length (over (encode version_one (on_time stops rows)) out) ≡ length out
  length_whole fits = simp (length-append, length-drop) (omega (arith, size))
