-- What stands from a field's first byte on, up to the first mark. Assumes nothing.
use Prim.Native.Nat.{ℕ, suc, ◌+◌, ◌≤◌, ◌<◌}
use mathlib.Core.Bool.{Bool, true, false, cond, ◌||◌, false≢true}
use mathlib.Core.List.{List, [], ◌∷◌, ◌++◌}
use mathlib.Core.Path.{◌≡◌, refl, sym, ap, subst⁻¹, ◌∙◌}
use native.Mathlib.Omega.{arith}
use lib.Dec.{eqb}
use lib.ListN.{length, take, drop, get_or, length-drop}
use lib.Seq.{slice, drop-cons, get_or-drop}
use borrow.Author.Tests.{eqb-true, ne_eqb}
use Rattle.laws.proofs.Tests.{ifb}
use Rattle.gtfs_lines.specs.Lines.{line_feed, quote_mark, comma}
use Rattle.gtfs_lines.specs.Marks.{marked_by, plain_ahead}
use Rattle.gtfs_lines.specs.Joined.{Without}
use Rattle.gtfs_lines.proofs.Slices.{slice_ahead, slice_behind}

-- the bytes of a field that starts at `from` are plain, up to a mark at `at` or the text's end
pub record Marked (text : List ℕ) (from at : ℕ) : Type 0 where
  pub rises : from ≤ at
  pub inside : at ≤ length text
  pub no_comma : Without comma (slice from at text)
  pub no_feed : Without line_feed (slice from at text)
  pub no_quote : Without quote_mark (slice from at text)
  pub marked : at < length text → marked_by (get_or text at 0) ≡ true

neither : (a b : Bool) → (a || b) ≡ false → (a ≡ false) × (b ≡ false)
neither true b e = absurd (false≢true (sym e))
neither false b e = (refl, e)

-- a law of the plain bytes ahead, by what the first byte is
plain_without : (mark : ℕ) → ((byte : ℕ) → marked_by byte ≡ false → eqb byte mark ≡ false) → (text : List ℕ)
    → Without mark (take (plain_ahead text) text)
unfolding plain_ahead
plain_without mark other [] = tt
plain_without mark other (byte ∷ text) =
    ifb (λ b. Without mark (take (cond b 0 (suc (plain_ahead text))) (byte ∷ text))) (marked_by byte) (λ marked. tt)
    (λ plain. (other byte plain, plain_without mark other text))

plain_inside : (text : List ℕ) → plain_ahead text ≤ length text
unfolding plain_ahead
plain_inside [] = omega arith
plain_inside (byte ∷ text) =
    ifb (λ b. cond b 0 (suc (plain_ahead text)) ≤ suc (length text)) (marked_by byte) (λ marked. omega arith)
    (λ plain. omega (arith, plain_inside text))

plain_marked : (text : List ℕ) → plain_ahead text < length text → marked_by (get_or text (plain_ahead text) 0) ≡ true
unfolding plain_ahead
plain_marked [] inside = absurd (let z : ⊥ = omega arith in z)
plain_marked (byte ∷ text) inside =
    ifb (λ b. cond b 0 (suc (plain_ahead text)) < suc (length text) → marked_by (get_or (byte ∷ text) (cond b 0 (suc (plain_ahead text))) 0) ≡ true)
    (marked_by byte) (λ marked within. marked) (λ plain within. plain_marked text (omega arith)) inside

pub mark_at : (text : List ℕ) (from : ℕ) → from ≤ length text → Marked text from (from + plain_ahead (drop from text))
mark_at text from starts =
    record {
      rises = omega arith;
      inside = omega (arith, plain_inside (drop from text), length-drop from text);
      no_comma = plain comma (λ byte unmarked. (neither (eqb byte comma) (eqb byte line_feed || eqb byte quote_mark) unmarked).0);
      no_feed = plain line_feed (λ byte unmarked. (neither (eqb byte line_feed) (eqb byte quote_mark) (others byte unmarked)).0);
      no_quote = plain quote_mark (λ byte unmarked. (neither (eqb byte line_feed) (eqb byte quote_mark) (others byte unmarked)).1);
      marked = λ within.
          ap marked_by (sym (get_or-drop from text (plain_ahead (drop from text)) 0))
          ∙ plain_marked (drop from text) (omega (arith, within, length-drop from text));
    }
  where
    others : (byte : ℕ) → marked_by byte ≡ false → (eqb byte line_feed || eqb byte quote_mark) ≡ false
    others byte unmarked = (neither (eqb byte comma) (eqb byte line_feed || eqb byte quote_mark) unmarked).1

    plain : (mark : ℕ) → ((byte : ℕ) → marked_by byte ≡ false → eqb byte mark ≡ false)
        → Without mark (slice from (from + plain_ahead (drop from text)) text)
    plain mark other = subst⁻¹ (Without mark) (slice_ahead text from (plain_ahead (drop from text)) starts) (plain_without mark other (drop from text))

-- the text from there on, with its mark
pub mark_splits : {text : List ℕ} {from at : ℕ} → Marked text from at → (mark : ℕ) → at < length text → get_or text at 0 ≡ mark
    → drop from text ≡ slice from at text ++ mark ∷ drop (suc at) text
mark_splits {text} {from} {at} m mark within is =
    slice_behind text from at m.rises m.inside ∙ ap (λ l. slice from at text ++ l) (drop-cons text at 0 within)
    ∙ ap (λ b. slice from at text ++ b ∷ drop (suc at) text) is

-- a mark that is neither LF nor quote mark is a comma
pub comma_left : (byte : ℕ) → marked_by byte ≡ true → (byte ≡ line_feed → ⊥) → (byte ≡ quote_mark → ⊥) → byte ≡ comma
comma_left byte marked no_feed no_quote =
    ifb (λ _. byte ≡ comma) (eqb byte comma) (eqb-true byte comma)
    (λ other.
    let none : marked_by byte ≡ false = simp (other, ne_eqb byte line_feed no_feed, ne_eqb byte quote_mark no_quote) in
    absurd (false≢true (sym none ∙ marked)))
