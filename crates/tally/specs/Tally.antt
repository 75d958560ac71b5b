-- Document 02, E4: "a tally for a class": landings by lateness from 0 to the top one, and behind them those over it, which are counted apart.
use Rattle.std.specs.Prelude.{ℕ, suc, Bool, true, cond, ◌&&◌, List, [], ◌∷◌, leb, ltb, get_or, set, replicate}
use Rattle.file_layout.specs.declared.Format.{Format}
use Rattle.tally.specs.declared.Landing.{Landing}
use Rattle.tally.specs.Landing.{lateness, counted_as}

-- how many numbers a tally has: one for each lateness from 0 to the top one, and the apart count
abbrev pub counts : (top : ℕ) → ℕ
counts top = suc (suc top)

-- the place behind the top lateness, where those over it are counted apart
abbrev pub apart : (top : ℕ) → ℕ
apart top = suc top

-- landings by lateness, early ones as 0; those over the top lateness are counted apart
unfoldable pub place_of : (top : ℕ) → Landing → ℕ
place_of top l = let late = counted_as (lateness l) in cond (leb late top) late (apart top)

-- a count by its place in a tally
abbrev pub count_at : List ℕ → ℕ → ℕ
count_at tally place = get_or tally place 0

-- before the first landing
abbrev pub empty_tally : (top : ℕ) → List ℕ
empty_tally top = replicate (counts top) 0

-- exactly one count grows by one
unfoldable pub with_landing : (top : ℕ) → Landing → List ℕ → List ℕ
with_landing top l tally = set tally (place_of top l) (suc (count_at tally (place_of top l)))

-- Each count stops at 1,000,000
abbrev pub most_count : ℕ
most_count = 1000000

-- no given count is above its limit, else 15
unfoldable pub counts_rule : List ℕ → Bool
counts_rule [] = true
counts_rule (c ∷ tally) = leb c most_count && counts_rule tally

-- a landing is for a count below its limit, else 15
unfoldable pub room_rule : (top : ℕ) → Landing → List ℕ → Bool
room_rule top l tally = ltb (count_at tally (place_of top l)) most_count

-- neither minute is above the version's last, else 14
unfoldable pub minutes_rule : Format → Landing → Bool
minutes_rule f l = leb l.planned f.lastminute && leb l.actual f.lastminute
