-- The first line of a text and what is behind it, by what ends its first field. Assumes nothing.
use Prim.Native.Nat.{ℕ, suc, ◌+◌}
use mathlib.Core.Bool.{Bool, true, false, cond, ◌||◌}
use mathlib.Core.List.{List, [], ◌∷◌, ◌++◌, append-nil}
use mathlib.Core.Path.{◌≡◌, refl, sym, ap, ◌∙◌}
use native.Mathlib.Omega.{arith}
use lib.Dec.{eqb}
use lib.ListN.{length, drop, length-append, drop_of_length-le}
use lib.Seq.{drop-append-add}
use Rattle.laws.proofs.Tests.{cond_true, cond_false}
use Rattle.laws.proofs.Alternatives.{or_right}
use Rattle.gtfs_lines.specs.Lines.{line_feed, quote_mark, comma, without_return, has_quote}
use Rattle.gtfs_lines.specs.Cut.{ahead_of_feed, has_feed, first_line, behind_line}
use Rattle.gtfs_lines.proofs.Returns.{return_behind, quotes_kept}
use Rattle.gtfs_lines.specs.Joined.{Without}
use Rattle.gtfs_lines.proofs.Parts.{Ahead, ahead, whole, cut}

-- bytes that are no LF are ahead of the first
ahead_on : (front rest : List ℕ) → Without line_feed front → ahead_of_feed (front ++ rest) ≡ front ++ ahead_of_feed rest
unfolding ahead_of_feed
ahead_on [] rest none = refl
ahead_on (byte ∷ front) rest none =
    cond_false [] (byte ∷ ahead_of_feed (front ++ rest)) none.0 ∙ ap (λ l. byte ∷ l) (ahead_on front rest none.1)

feed_on : (front rest : List ℕ) → Without line_feed front → has_feed (front ++ rest) ≡ has_feed rest
unfolding has_feed
feed_on [] rest none = refl
feed_on (byte ∷ front) rest none = cond_false true (has_feed (front ++ rest)) none.0 ∙ feed_on front rest none.1

no_feed : (line : List ℕ) → Without line_feed line → has_feed line ≡ false
unfolding has_feed
no_feed line none = ap has_feed (sym (append-nil line)) ∙ feed_on line [] none

ahead_all : (line : List ℕ) → Without line_feed line → ahead_of_feed line ≡ line
unfolding ahead_of_feed
ahead_all line none = ap ahead_of_feed (sym (append-nil line)) ∙ ahead_on line [] none ∙ append-nil line

-- the first line has the quote marks that stand ahead of the first LF
pub quotes_ahead : (text : List ℕ) → has_quote (first_line text) ≡ has_quote (ahead_of_feed text)
unfolding first_line has_feed
quotes_ahead text = by_first (ahead line_feed text)
  where
    by_first : Ahead line_feed text → has_quote (first_line text) ≡ has_quote (ahead_of_feed text)
    by_first (whole none) = ap has_quote (cond_false (without_return (ahead_of_feed text)) text (no_feed text none) ∙ sym (ahead_all text none))
    by_first (cut front rest none e) =
        ap has_quote (cond_true (without_return (ahead_of_feed text)) text (ap has_feed e ∙ feed_on front (line_feed ∷ rest) none))
        ∙ quotes_kept (ahead_of_feed text)

pub quotes_on : (front rest : List ℕ) → Without quote_mark front → has_quote (front ++ rest) ≡ has_quote rest
unfolding has_quote
quotes_on [] rest none = refl
quotes_on (byte ∷ front) rest none = ap (λ b. b || has_quote (front ++ rest)) none.0 ∙ quotes_on front rest none.1

module _ (front : List ℕ) (none : Without line_feed front) where
  -- a line that the file ends
  pub first_last : first_line front ≡ front
  unfolding first_line
  first_last = cond_false (without_return (ahead_of_feed front)) front (no_feed front none)

  pub behind_last : behind_line front ≡ []
  unfolding behind_line
  behind_last = drop_of_length-le front {i = suc (length (ahead_of_feed front))} (omega (arith, ap length (ahead_all front none)))

  module _ (rest : List ℕ) where
    -- a line that an LF ends
    pub ahead_feed : ahead_of_feed (front ++ line_feed ∷ rest) ≡ front
    unfolding ahead_of_feed
    ahead_feed = ahead_on front (line_feed ∷ rest) none ∙ append-nil front

    pub first_feed : first_line (front ++ line_feed ∷ rest) ≡ without_return front
    unfolding first_line has_feed
    first_feed =
        cond_true (without_return (ahead_of_feed (front ++ line_feed ∷ rest))) (front ++ line_feed ∷ rest) (feed_on front (line_feed ∷ rest) none)
        ∙ ap without_return ahead_feed

    pub behind_feed : behind_line (front ++ line_feed ∷ rest) ≡ rest
    unfolding behind_line
    behind_feed =
        let one_more : suc (length (ahead_of_feed (front ++ line_feed ∷ rest))) ≡ length front + 1 = omega (arith, ap length ahead_feed) in
        ap (λ n. drop n (front ++ line_feed ∷ rest)) one_more ∙ drop-append-add front (line_feed ∷ rest) 1

    -- a line whose first field a comma ends
    pub ahead_comma : ahead_of_feed (front ++ comma ∷ rest) ≡ front ++ comma ∷ ahead_of_feed rest
    unfolding ahead_of_feed
    ahead_comma = ahead_on front (comma ∷ rest) none

    pub first_comma : first_line (front ++ comma ∷ rest) ≡ front ++ comma ∷ first_line rest
    unfolding first_line has_feed
    first_comma =
        ap (λ b. cond b (without_return (ahead_of_feed (front ++ comma ∷ rest))) (front ++ comma ∷ rest)) (feed_on front (comma ∷ rest) none)
        ∙ ap (λ l. cond (has_feed rest) l (front ++ comma ∷ rest)) (ap without_return ahead_comma ∙ return_behind front comma (ahead_of_feed rest) refl)
        ∙ by_test (has_feed rest)
      where
        by_test : (b : Bool)
            → cond b (front ++ comma ∷ without_return (ahead_of_feed rest)) (front ++ comma ∷ rest)
            ≡ front ++ comma ∷ cond b (without_return (ahead_of_feed rest)) rest
        by_test true = refl
        by_test false = refl

    pub behind_comma : behind_line (front ++ comma ∷ rest) ≡ behind_line rest
    unfolding behind_line
    behind_comma =
        let further = length (ahead_of_feed rest) in
        let more : suc (length (ahead_of_feed (front ++ comma ∷ rest))) ≡ length front + suc (suc further) =
        omega (arith, ap length ahead_comma, length-append front (comma ∷ ahead_of_feed rest))
        in
        ap (λ n. drop n (front ++ comma ∷ rest)) more ∙ drop-append-add front (comma ∷ rest) (suc (suc further))

    -- and one that a quote mark refuses
    pub quote_ahead : has_quote (first_line (front ++ quote_mark ∷ rest)) ≡ true
    unfolding has_quote ahead_of_feed
    quote_ahead = quotes_ahead (front ++ quote_mark ∷ rest) ∙ ap has_quote (ahead_on front (quote_mark ∷ rest) none) ∙ found front
      where
        found : (l : List ℕ) → has_quote (l ++ quote_mark ∷ ahead_of_feed rest) ≡ true
        found [] = refl
        found (byte ∷ l) = or_right (eqb byte quote_mark) (has_quote (l ++ quote_mark ∷ ahead_of_feed rest)) (found l)
