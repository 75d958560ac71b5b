-- What the check's answer tells of a sound file: all that planning needs of its bytes and of its timetable. Assumes nothing.
use Prim.Native.Nat.{ℕ, suc, ◌+◌, ◌*◌, ◌≤◌, ◌<◌}
use mathlib.Core.List.{List, []}
use mathlib.Core.Path.{◌≡◌, refl, ap, sym, subst, ◌∙◌}
use native.Mathlib.Omega.{arith}
use native.Mathlib.Nat.{mul-le-mul_left}
use lib.ListN.{length}
use Rattle.timetable.specs.Verdict.{Verdict, fine, fault, refused}
use Rattle.timetable.specs.Timetable.{shares_of, row_of}
use Rattle.timetable.specs.Rows.{rows_verdict}
use Rattle.timetable.proofs.Verdicts.{first_fine, second_fine}
use Rattle.timetable.proofs.RowsSound.{rows_give}
use Rattle.file_layout.specs.declared.Format.{Format}
use Rattle.file_layout.specs.declared.Trailer.{Trailer}
use Rattle.std.specs.Prelude.{Ok}
use Rattle.file_layout.specs.Format.{Readable, version_one}
use Rattle.file_layout.specs.Decode.{trailer_start, trailer_of, table_at, rows_from, decode}
use Rattle.file_layout.specs.Check.{sections_verdict, file_verdict, ranges_of, answered, checked_as}
use Rattle.file_layout.specs.Sound.{block_at, ClassSound, TrailerSound, SharesSound, SoundFile}
use Rattle.file_layout.proofs.FileRows.{rows_length, row_of_file}
pub use Rattle.file_layout.proofs.TrailerSound.{trailer_gives}

pub decoded_rows : (f : Format) (s : List ℕ) → (decode f s).rows ≡ rows_from f.width s (trailer_of f s).rowstart (trailer_of f s).rows
unfolding decode
decoded_rows f s = refl

decoded_stops : (f : Format) (s : List ℕ) → (decode f s).stops ≡ (trailer_of f s).stops
unfolding decode
decoded_stops f s = refl

-- the two verdicts behind a file's
pub file_tests : (f : Format) (s : List ℕ) → file_verdict f s ≡ fine
    → (sections_verdict f s ≡ fine) × (rows_verdict (ranges_of f (trailer_of f s)) [] 0 (decode f s).rows ≡ fine)
unfolding file_verdict
file_tests f s e =
    let rows = rows_verdict (ranges_of f (trailer_of f s)) [] 0 (decode f s).rows in
    (first_fine (sections_verdict f s) rows e, second_fine (sections_verdict f s) rows e)

table_sound : (f : Format) (s : List ℕ) (end at : ℕ) → ClassSound f s end at → SharesSound f (table_at s at)
table_sound f s end at c =
    record {
      some_shares = omega arith;
      few_shares = omega arith;
      shares_whole = c.shares_whole;
      last_counts = c.last_counts;
    }

shares_sound : (f : Format) (s : List ℕ) → TrailerSound f s → (c : ℕ) → c < (trailer_of f s).classes
    → SharesSound f (shares_of (decode f s).tables c)
shares_sound f s h c inside =
    subst (SharesSound f) (sym (h.table_read c inside))
    (table_sound f s (trailer_start f s) (block_at s (trailer_of f s).tablestart c) (h.class_sound c inside))

-- a row's bytes lie ahead of the rows' end
one_row_inside : (width at n end i : ℕ) → at + width * n ≤ end → i < n → at + width * i + width ≤ end
one_row_inside width at n end i h l = omega (arith, mul-le-mul_left {m = suc i} {n = n} width l)

-- all that planning needs of a file without a fault
pub sound_gives : (f : Format) (s : List ℕ) → Readable f → file_verdict f s ≡ fine → SoundFile f s
sound_gives f s readable e =
    let tests = file_tests f s e in
    let h = trailer_of f s in
    let trailer = trailer_gives f s tests.0 in
    let rows = rows_give (ranges_of f h) (decode f s).rows tests.1 in
    let count : length (decode f s).rows ≡ h.rows =
    ap length (decoded_rows f s) ∙ rows_length f.width s h.rowstart h.rows
    in
    let last = trailer.trailer_last readable.file_holds_trailer in
    let inside : (i : ℕ) → i < h.rows → h.rowstart + f.width * i + f.width ≤ trailer_start f s =
    λ i l. one_row_inside f.width h.rowstart h.rows (trailer_start f s) i trailer.rows_inside l
    in
    record {
      trailer = trailer;
      trailer_last = last;
      stops_read = decoded_stops f s;
      rows_count = count;
      rows_few = trailer.in_range.rows_most;
      row_read =
          λ i l. ap (λ rows. row_of rows i) (decoded_rows f s) ∙ row_of_file f.width s h.rowstart h.rows i l;
      row_inside = inside;
      row_readable = λ i l. omega (arith, inside i l, readable.width_holds_row, readable.trailer_holds, last);
      rows = rows;
      tables_count = trailer.tables_count;
      class_shares = shares_sound f s trailer;
      row_shares =
          λ i l. shares_sound f s trailer (row_of (decode f s).rows i).class (rows.own i (omega (arith, count))).class;
    }

sound_answer : (h : Trailer) (v : Verdict) (k : Trailer) → answered h v ≡ Ok k → (v ≡ fine) × (k ≡ h)
unfolding answered
sound_answer h fine k e = (refl, (cc))
sound_answer h (fault number place) k e = absurd (let z : ◌≡◌ {A = ℕ} 0 1 = cc in let y : ⊥ = omega arith in y)

-- a file answered as sound has no fault, and the answer is its trailer
pub sound_checked : (f : Format) (s : List ℕ) (h : Trailer) → checked_as f s ≡ Ok h → (file_verdict f s ≡ fine) × (h ≡ trailer_of f s)
unfolding checked_as
sound_checked f s h e = sound_answer (trailer_of f s) (file_verdict f s) h e

-- a file without a fault is answered as sound, with its trailer
pub fine_answered : (f : Format) (s : List ℕ) → file_verdict f s ≡ fine → checked_as f s ≡ Ok (trailer_of f s)
unfolding checked_as answered
fine_answered f s e = ap (answered (trailer_of f s)) e

-- a fault is answered by its number and place
pub fault_answered : (f : Format) (s : List ℕ) (number place : ℕ) → file_verdict f s ≡ fault number place
    → checked_as f s ≡ refused number place
unfolding checked_as answered
fault_answered f s number place e = ap (answered (trailer_of f s)) e

pub version_one_readable : Readable version_one
version_one_readable =
    record { trailer_holds = omega arith; file_holds_trailer = omega arith; width_holds_row = omega arith; narrow = omega arith }

-- what the check's answer tells of a file
pub checked_gives : (f : Format) (s : List ℕ) (h : Trailer) → Readable f → checked_as f s ≡ Ok h → SoundFile f s
checked_gives f s h readable e = sound_gives f s readable (sound_checked f s h e).0
