-- A line, field by field, to its end or to a quote mark. Assumes nothing.
use Prim.Native.Nat.{ℕ, zero, suc, ◌+◌, ◌≤◌, ◌<◌}
use mathlib.Core.List.{List}
use native.Mathlib.Omega.{arith}
use lib.Dec.{eqb, ltb}
use lib.ListN.{length, drop, get_or}
use borrow.Author.Tests.{ltb-true, ltb-false, eqb-true, eqb-false}
use Rattle.laws.proofs.Tests.{ifb}
use Rattle.gtfs_lines.specs.Lines.{line_feed, quote_mark}
use Rattle.gtfs_lines.specs.Marks.{plain_ahead}
use Rattle.gtfs_lines.proofs.Marked.{Marked, mark_at}
use Rattle.gtfs_lines.proofs.FieldEnds.{LastField, NextField, QuotedField, at_end, at_feed, at_quote, at_comma}

pub data Walk (text : List ℕ) : ℕ → Type 1 where
  last : {from : ℕ} (to next : ℕ) → LastField text from to next → Walk text from
  more : {from : ℕ} (at : ℕ) → NextField text from at → Walk text (suc at) → Walk text from
  quoted : {from : ℕ} → QuotedField text from → Walk text from

pub walk : (text : List ℕ) (from : ℕ) → from ≤ length text → Walk text from
walk text from starts = go (suc (length text)) from starts (omega arith)
  where
    go : (n from : ℕ) → from ≤ length text → length text < from + n → Walk text from
    go zero from inside enough = absurd (let z : ⊥ = omega arith in z)
    go (suc n) from inside enough =
        ifb (λ _. Walk text from) (ltb at (length text))
        (λ within.
        ifb (λ _. Walk text from) (eqb (get_or text at 0) line_feed)
        (λ feed. last _ _ (at_feed m (ltb-true at (length text) within) (eqb-true (get_or text at 0) line_feed feed)))
        (λ no_feed.
        ifb (λ _. Walk text from) (eqb (get_or text at 0) quote_mark)
        (λ quote. quoted (at_quote m (ltb-true at (length text) within) (eqb-true (get_or text at 0) quote_mark quote)))
        (λ no_quote.
        more at
        (at_comma m (ltb-true at (length text) within) (eqb-false (get_or text at 0) line_feed no_feed)
        (eqb-false (get_or text at 0) quote_mark no_quote))
        (go n (suc at) (ltb-true at (length text) within) (omega (arith, m.rises))))))
        (λ none. last at at (at_end m (ltb-false at (length text) none)))
      where
        at : ℕ
        at = from + plain_ahead (drop from text)

        m : Marked text from at
        m = mark_at text from inside
