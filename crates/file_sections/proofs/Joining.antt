-- Laws on trailer and sections: what the check answers, by its tests in their order. Assumes nothing.
use Prim.Native.Nat.{ℕ, ◌+◌, ◌*◌, ◌≤◌}
use mathlib.Core.Path.{◌≡◌, sym, ◌∙◌}
use mathlib.Core.Bool.{Bool, true, false, ◌&&◌}
use mathlib.Core.List.{List}
use borrow.Author.Tests.{leb-true}
use lib.Dec.{leb}
use lib.ListN.{length}
use Rattle.laws.proofs.Tests.{both_left}
use Rattle.timetable.specs.Verdict.{fine, or_else, unless, refused}
use Rattle.file_layout.specs.declared.Format.{Format}
use Rattle.file_layout.specs.declared.Trailer.{Trailer}
use Rattle.file_layout.specs.Decode.{trailer_start, trailer_of, tables_end}
use Rattle.file_layout.specs.Check.{length_rule, trailer_rule, classes_verdict, sections_join, joined, sections_verdict}
use Rattle.std.specs.Prelude.{Result, Ok, Err}
use Rattle.timetable.specs.declared.Refusal.{Refusal}
use Rattle.file_sections.specs.ReadBy.{read_by}
use Rattle.file_sections.specs.SectionsRead.{sections_read}
use Rattle.file_sections.specs.Blocks.{blocks_read}
use Rattle.file_sections.proofs.ClassBlocks.{ok_by, err_by}

-- the file's length as the code tests it
pub length_told : (f : Format) (s : List ℕ) (test answer : Bool)
    → test ≡ (leb f.fewestbytes (length s) && leb (length s) f.mostbytes) → test ≡ answer → length_rule f s ≡ answer
unfolding length_rule
length_told f s test answer is told = sym is ∙ told

-- a file whose length is in its range holds the shortest
pub long_enough : (f : Format) (s : List ℕ) (test : Bool)
    → test ≡ (leb f.fewestbytes (length s) && leb (length s) f.mostbytes) → test ≡ true → f.fewestbytes ≤ length s
long_enough f s test is told = leb-true _ _ (both_left _ (leb (length s) f.mostbytes) (sym is ∙ told))

pub length_breaks : (f : Format) (s : List ℕ) → length_rule f s ≡ false → sections_read f s ≡ refused 1 0
unfolding sections_read sections_verdict
length_breaks f s broken = simp broken

-- the answer on a file whose length is in its range, by the trailer that is read
answer_behind : Format → List ℕ → Trailer → Result Trailer (Refusal ℕ)
answer_behind f s h =
    read_by h
    (or_else (unless (trailer_rule f h) 1 0)
    (or_else (classes_verdict f s (trailer_start f s) 0 h.tablestart h.classes) (unless (joined f s h) 2 0)))

module _ (f : Format) (s : List ℕ) (fits : length_rule f s ≡ true) (h : Trailer) (read : h ≡ trailer_of f s) where
  by_trailer : sections_read f s ≡ answer_behind f s h
  unfolding sections_read sections_verdict answer_behind
  by_trailer = rw (read, fits)

  pub ranges_break : trailer_rule f h ≡ false → sections_read f s ≡ refused 1 0
  unfolding answer_behind
  ranges_break broken = by_trailer ∙ simp broken

  module _ (ranges : trailer_rule f h ≡ true) where
    pub classes_break : (refusal : Refusal ℕ) → blocks_read f s (trailer_start f s) 0 h.tablestart h.classes ≡ Err refusal
        → sections_read f s ≡ Err refusal
    unfolding answer_behind blocks_read
    classes_break refusal e =
        by_trailer ∙ simp (ranges, err_by _ refusal (classes_verdict f s (trailer_start f s) 0 h.tablestart h.classes) e)

    module _ (at : ℕ) (blocks : blocks_read f s (trailer_start f s) 0 h.tablestart h.classes ≡ Ok at) where
      known : (classes_verdict f s (trailer_start f s) 0 h.tablestart h.classes ≡ fine) × (tables_end s h.tablestart h.classes ≡ at)
      unfolding blocks_read
      known = ok_by _ at _ blocks

      pub sections_apart : sections_join h.rowstart (h.rowstart + f.width * h.rows) h.tablestart at (trailer_start f s) ≡ false
          → sections_read f s ≡ refused 2 0
      unfolding answer_behind joined
      sections_apart apart = by_trailer ∙ simp (ranges, known.0, known.1, apart)

      pub sections_keep : sections_join h.rowstart (h.rowstart + f.width * h.rows) h.tablestart at (trailer_start f s) ≡ true
          → sections_read f s ≡ Ok h
      unfolding answer_behind joined
      sections_keep joins = by_trailer ∙ simp (ranges, known.0, known.1, joins)
