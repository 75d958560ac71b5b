-- Document 01, "House delay tables": the rule of a cumulative share, and the eight house pairs.
use Rattle.std.specs.Prelude.{ℕ, ◌+◌, ◌*◌, ◌-◌, ◌/◌, cond, List, [], ◌∷◌, leb, eqb, get_or}
use Rattle.timetable.specs.Classes.{share_total}
use Rattle.house.specs.declared.Pair.{Pair}

-- Change time m and parameter d give M = m+d
abbrev pub maximum : Pair → ℕ
maximum p = p.change + p.parameter

-- 4,096 times source 001's distribution, rounded down: for 0 < x ≤ m, 2x/(6m−3x)
abbrev pub up_to_change : (m x : ℕ) → ℕ
up_to_change m x = share_total * (2 * x) / (6 * m - 3 * x)

-- and for m < x < M, with y = x−m, (31y+2d)/(30y+3d)
abbrev pub past_change : (d y : ℕ) → ℕ
past_change d y = share_total * (31 * y + 2 * d) / (30 * y + 3 * d)

-- the part that x, with 0 < x < M, is in
unfoldable pub between : (m d x : ℕ) → ℕ
between m d x = cond (leb x m) (up_to_change m x) (past_change d (x - m))

-- The cumulative share at x: at x = M it is 4,096 always, and so beyond M, where no table asks; at 0, if M > 0, it is 0
unfoldable pub cumulative : (m d x : ℕ) → ℕ
cumulative m d x = cond (leb (m + d) x) share_total (cond (eqb x 0) 0 (between m d x))

-- The eight house pairs (m,d) are (2,10), (5,30), (5,60), (10,30), (10,60), (10,110), (15,90), (20,100)
abbrev pub house_pairs : List Pair
house_pairs =
    record { change = 2; parameter = 10 }
    ∷ record { change = 5; parameter = 30 }
    ∷ record { change = 5; parameter = 60 }
    ∷ record { change = 10; parameter = 30 }
    ∷ record { change = 10; parameter = 60 }
    ∷ record { change = 10; parameter = 110 }
    ∷ record { change = 15; parameter = 90 }
    ∷ record { change = 20; parameter = 100 }
    ∷ []

-- what stands for a pair past the last
abbrev pub no_pair : Pair
no_pair = record { change = 0; parameter = 0 }

-- the pair of this number, from 0
abbrev pub pair_of : ℕ → Pair
pair_of k = get_or house_pairs k no_pair
