-- The lines of a text, from the first on. Assumes nothing.
use Prim.Native.Nat.{ℕ, ◌<◌}
use mathlib.Core.List.{List, [], ◌∷◌, ◌++◌}
use mathlib.Core.Path.{◌≡◌, refl, sym, ap, ◌∙◌}
use native.Mathlib.Omega.{arith}
use lib.ListN.{length}
use borrow.Author.Tests.{ne_eqb}
use Rattle.laws.proofs.Tests.{cond_false}
use Rattle.gtfs_lines.specs.Lines.{line_feed, without_return, ended, lines_of, parts}
use Rattle.gtfs_lines.specs.Cut.{first_line, behind_line}
use Rattle.gtfs_lines.specs.Joined.{Without}
use Rattle.gtfs_lines.proofs.Parts.{Ahead, ahead, whole, cut, one_part, first_part, some_part}
use Rattle.gtfs_lines.proofs.LineEnds.{first_last, behind_last, first_feed, behind_feed}

-- a text with no byte has no line
pub lines_none : lines_of [] ≡ []
unfolding lines_of ended parts
lines_none = refl

ended_next : (part : List ℕ) (more : List (List ℕ)) → 0 < length more → ended (part ∷ more) ≡ without_return part ∷ ended more
unfolding ended
ended_next part [] some = absurd (let z : ⊥ = omega arith in z)
ended_next part (next ∷ more) some = refl

-- an LF ends a line, and a CR just before it belongs to the end
pub lines_feed : (line rest : List ℕ) → Without line_feed line → lines_of (line ++ line_feed ∷ rest) ≡ without_return line ∷ lines_of rest
unfolding lines_of
lines_feed line rest none = ap ended (first_part line_feed line rest none) ∙ ended_next line (parts line_feed rest) (some_part line_feed rest)

-- the file's end ends a line too, of which all is kept
pub lines_last : (line : List ℕ) → Without line_feed line → 0 < length line → lines_of line ≡ line ∷ []
unfolding lines_of ended
lines_last line none some =
    ap ended (one_part line_feed line none) ∙ cond_false [] (line ∷ []) (ne_eqb (length line) 0 (λ e. let z : ⊥ = omega (arith, e) in z))

-- the first line, and those of the text behind it
pub lines_first : (text : List ℕ) → 0 < length text → lines_of text ≡ first_line text ∷ lines_of (behind_line text)
lines_first text some = by_first (ahead line_feed text)
  where
    by_first : Ahead line_feed text → lines_of text ≡ first_line text ∷ lines_of (behind_line text)
    by_first (whole none) =
        lines_last text none some ∙ sym (ap (λ l. l ∷ lines_of (behind_line text)) (first_last text none)
        ∙ ap (λ b. text ∷ lines_of b) (behind_last text none) ∙ ap (λ l. text ∷ l) lines_none)
    by_first (cut front rest none e) =
        rw e (lines_feed front rest none ∙ sym (ap (λ l. l ∷ lines_of (behind_line (front ++ line_feed ∷ rest))) (first_feed front none rest)
        ∙ ap (λ b. without_return front ∷ lines_of b) (behind_feed front none rest)))
