-- The first mark from a place on: plain bytes stand ahead of it. Assumes nothing.
use Prim.Native.Nat.{ℕ, suc, ◌+◌, ◌≤◌, ◌<◌}
use mathlib.Core.Bool.{true, false}
use mathlib.Core.List.{List}
use mathlib.Core.Path.{◌≡◌, ap, ◌∙◌}
use native.Mathlib.Nat.{add-zero}
use native.Mathlib.Numerals.{add-one}
use native.Mathlib.Omega.{arith}
use lib.Dec.{eqb}
use lib.ListN.{length, drop, get_or, drop_of_length-le}
use lib.Seq.{drop-cons}
use borrow.Author.Tests.{ne_eqb}
use Rattle.laws.proofs.Tests.{cond_true, cond_false}
use Rattle.gtfs_lines.specs.Lines.{line_feed, quote_mark, comma}
use Rattle.gtfs_lines.specs.Marks.{marked_by, plain_ahead}

-- every mark is at most a comma
pub high_plain : (byte : ℕ) → comma < byte → marked_by byte ≡ false
high_plain byte high = simp (none comma (omega arith), none line_feed (omega arith), none quote_mark (omega arith))
  where
    none : (mark : ℕ) → mark < byte → eqb byte mark ≡ false
    none mark less = ne_eqb byte mark (λ e. omega (arith, e))

module _ (text : List ℕ) (at : ℕ) where
  -- a mark is where the plain bytes end
  pub mark_here : at < length text → marked_by (get_or text at 0) ≡ true → at + plain_ahead (drop at text) ≡ at
  unfolding plain_ahead
  mark_here inside marked =
      ap (λ l. at + plain_ahead l) (drop-cons text at 0 inside)
      ∙ ap (λ n. at + n) (cond_true 0 (suc (plain_ahead (drop (suc at) text))) marked) ∙ add-zero at

  -- a plain byte is one of them
  pub mark_later : at < length text → marked_by (get_or text at 0) ≡ false
      → at + plain_ahead (drop at text) ≡ at + 1 + plain_ahead (drop (at + 1) text)
  unfolding plain_ahead
  mark_later inside plain =
      let one : plain_ahead (drop at text) ≡ suc (plain_ahead (drop (suc at) text)) =
      ap plain_ahead (drop-cons text at 0 inside) ∙ cond_false 0 (suc (plain_ahead (drop (suc at) text))) plain
      in
      rw add-one (omega (arith, one))

  -- and the text's end is where they end too
  pub mark_none : length text ≤ at → at + plain_ahead (drop at text) ≡ at
  unfolding plain_ahead
  mark_none ended = ap (λ l. at + plain_ahead l) (drop_of_length-le text ended) ∙ add-zero at
