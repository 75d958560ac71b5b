-- Document 01, "The sailing file": the rule of a class's shares (3).
use Rattle.std.specs.Prelude.{ℕ, ◌+◌, Bool, ◌&&◌, List, [], ◌∷◌, leb, eqb, get_or}
use Rattle.timetable.specs.Timetable.{maximum_delay}

-- a share counts 4,096ths
abbrev pub share_total : ℕ
share_total = 4096

unfoldable pub sum : List ℕ → ℕ
sum [] = 0
sum (x ∷ xs) = x + sum xs

-- the share of the longest delay
abbrev pub last_share : List ℕ → ℕ
last_share shares = get_or shares (maximum_delay shares) 0

-- Shares sum to 4,096. The last is at least 1; others may be 0
unfoldable pub shares_rule : List ℕ → Bool
shares_rule shares = eqb (sum shares) share_total && leb 1 (last_share shares)
