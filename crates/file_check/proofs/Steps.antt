-- The check in two steps: what the answer on the sections says of the whole answer. Assumes nothing.
use Prim.Native.Nat.{ℕ}
use mathlib.Core.List.{List, []}
use mathlib.Core.Path.{◌≡◌, refl, ap, sym, subst, ◌∙◌}
use native.Mathlib.Omega.{arith}
use lib.ListN.{length}
use Rattle.timetable.specs.Verdict.{Verdict, fine, or_else}
use Rattle.timetable.specs.Rows.{rows_verdict}
use Rattle.file_layout.specs.declared.Format.{Format}
use Rattle.file_layout.specs.declared.Trailer.{Trailer}
use Rattle.std.specs.Prelude.{Ok, Err}
use Rattle.timetable.specs.declared.Refusal.{Refusal}
use Rattle.file_layout.specs.Format.{Readable}
use Rattle.file_layout.specs.Decode.{trailer_of, rows_from, decode}
use Rattle.file_layout.specs.Check.{sections_verdict, ranges_of, file_verdict, answered, checked_as}
use Rattle.file_layout.proofs.TrailerSound.{trailer_gives}
use Rattle.file_layout.specs.Sound.{TrailerSound}
use Rattle.file_sections.specs.ReadBy.{read_by}
use Rattle.file_sections.specs.SectionsRead.{sections_read}
use Rattle.file_sections.proofs.ClassBlocks.{ok_by, err_by}
use Rattle.file_check.specs.Behind.{RowsInside}

module _ (f : Format) (s : List ℕ) where
  -- the verdict on the rows, by the trailer that was read
  abbrev pub rows_answer : Trailer → Verdict
  rows_answer h = rows_verdict (ranges_of f h) [] 0 (rows_from f.width s h.rowstart h.rows)

  two_steps : checked_as f s ≡ answered (trailer_of f s) (or_else (sections_verdict f s) (rows_answer (trailer_of f s)))
  unfolding checked_as file_verdict decode
  two_steps = refl

  pub refused_sections : (refusal : Refusal ℕ) → Err refusal ≡ sections_read f s → Err refusal ≡ checked_as f s
  unfolding sections_read answered
  refused_sections refusal e =
      sym
      (two_steps
      ∙ ap (λ v. answered (trailer_of f s) (or_else v (rows_answer (trailer_of f s))))
      (err_by (trailer_of f s) refusal (sections_verdict f s) (sym e)))

  module _ (h : Trailer) (good : Ok h ≡ sections_read f s) where
    joined_trailer : (sections_verdict f s ≡ fine) × (trailer_of f s ≡ h)
    unfolding sections_read
    joined_trailer = ok_by (trailer_of f s) h (sections_verdict f s) (sym good)

    rows_decide : checked_as f s ≡ answered h (rows_answer h)
    rows_decide =
        two_steps
        ∙ ap (λ v. answered (trailer_of f s) (or_else v (rows_answer (trailer_of f s)))) joined_trailer.0
        ∙ ap (λ k. answered k (rows_answer k)) joined_trailer.1

    pub refused_rows : (refusal : Refusal ℕ) → Err refusal ≡ read_by (tt {0}) (rows_answer h) → Err refusal ≡ checked_as f s
    unfolding answered
    refused_rows refusal e = sym (rows_decide ∙ ap (answered h) (err_by (tt {0}) refusal (rows_answer h) (sym e)))

    pub rows_keep : (all : Unit {0}) → Ok all ≡ read_by (tt {0}) (rows_answer h) → Ok h ≡ checked_as f s
    unfolding answered
    rows_keep all e = sym (rows_decide ∙ ap (answered h) (ok_by (tt {0}) all (rows_answer h) (sym e)).0)

    pub rows_inside : Readable f → RowsInside f.width h (length s)
    rows_inside fit =
        let sound : TrailerSound f s = trailer_gives f s joined_trailer.0 in
        subst (λ k. RowsInside f.width k (length s)) joined_trailer.1
        (record {
          width_holds_row = fit.width_holds_row;
          few = sound.in_range.rows_most;
          inside = omega (arith, sound.rows_inside, sound.trailer_last fit.file_holds_trailer);
        })
