-- Document 02, E4: the delay table of a tally.
use Rattle.std.specs.Prelude.{ℕ, zero, suc, ◌*◌, ◌/◌, ◌<◌, ◌≤◌, cond, List, ◌≡◌, ltb, take}
use Rattle.timetable.specs.Classes.{share_total, sum}
use Rattle.delay_tables.specs.Rising.{shares_of_cumulative, values_from}
use Rattle.tally.specs.Tally.{count_at}

-- landings at most x late
abbrev pub landings_by : List ℕ → ℕ → ℕ
landings_by tally x = sum (take (suc x) tally)

-- landings tallied, the apart count not among them
abbrev pub landings_tallied : (top : ℕ) → List ℕ → ℕ
landings_tallied top tally = landings_by tally top

-- 4,096 × some of the landings tallied, rounded down
abbrev pub share_of : (landings some : ℕ) → ℕ
share_of landings some = share_total * some / landings

-- The cumulative share at x is 4,096 × (landings at most x late)/(landings tallied), rounded down
unfoldable pub cumulative_share : (landings : ℕ) → List ℕ → ℕ → ℕ
cumulative_share landings tally x = share_of landings (landings_by tally x)

-- M is the greatest lateness tallied
pub record IsGreatest (top : ℕ) (tally : List ℕ) (m : ℕ) : Type 0 where
  pub no_later : m ≤ top
  pub tallied : 0 < count_at tally m
  pub none_later : (x : ℕ) → m < x → x ≤ top → count_at tally x ≡ 0

-- found by looking down from a lateness
unfoldable pub greatest_late : ℕ → List ℕ → ℕ
greatest_late zero tally = 0
greatest_late (suc x) tally = let earlier = greatest_late x tally in cond (ltb 0 (count_at tally (suc x))) (suc x) earlier

-- the cumulative shares of delays 0, 1, .. m
unfoldable pub cumulative_shares : (landings : ℕ) → List ℕ → (m : ℕ) → List ℕ
cumulative_shares landings tally m = values_from (cumulative_share landings tally) 0 (suc m)

-- shares are differences
unfoldable pub table_of : (top : ℕ) → List ℕ → List ℕ
table_of top tally = shares_of_cumulative (cumulative_shares (landings_tallied top tally) tally (greatest_late top tally))
