-- Facts that pin the table of a tally to document 02's own numbers: both sides of each line. Assumes nothing.
use Prim.Native.Nat.{ℕ}
use mathlib.Core.List.{List, [], ◌∷◌}
use mathlib.Core.Path.{◌≡◌, refl}
use lib.ListN.{take, set, replicate}
use Rattle.timetable.specs.Classes.{sum}
use Rattle.file_layout.specs.Format.{version_one}
use Rattle.delay_tables.specs.Rising.{differences, shares_of_cumulative, values_from}
use Rattle.tally.specs.Tally.{empty_tally, counts_rule}
use Rattle.tally_table.specs.Table.{cumulative_share, cumulative_shares, greatest_late, table_of}
use Rattle.tally_table.specs.Outcome.{table_verdict, made_of, table_outcome, table_answer}

-- the numbers of an answer for the table of a tally, and its first shares
abbrev table_for : (shown : ℕ) → List ℕ → List (List ℕ)
table_for shown tally =
    let o = table_outcome version_one tally (replicate 121 7) in
    ((table_answer o.answer).number ∷ (table_answer o.answer).values) ∷ take shown o.shares ∷ []

-- one landing, 3 minutes late: M is 3 and not the last index, and the numbers behind its shares stay
pub one_landing : table_for 6 (set (empty_tally 120) 3 1) ≡ (0 ∷ 3 ∷ 1 ∷ 0 ∷ []) ∷ (0 ∷ 0 ∷ 0 ∷ 4096 ∷ 7 ∷ 7 ∷ []) ∷ []
unfolding table_outcome table_verdict made_of counts_rule table_answer table_of cumulative_shares cumulative_share greatest_late sum shares_of_cumulative differences values_from
one_landing = refl

-- 5,000 landings of which one is on time and one is a minute late: a share of 0, then one of 1, rounded down; those apart are in neither count
pub rounded_down : table_for 4 (set (set (set (set (empty_tally 120) 0 1) 1 1) 2 4998) 121 999999)
    ≡ (0 ∷ 2 ∷ 5000 ∷ 999999 ∷ []) ∷ (0 ∷ 1 ∷ 4095 ∷ 7 ∷ []) ∷ []
unfolding table_outcome table_verdict made_of counts_rule table_answer table_of cumulative_shares cumulative_share greatest_late sum shares_of_cumulative differences values_from
rounded_down = refl

-- a million of each
pub million_of_each : table_for 4 (replicate 122 1000000) ≡ (0 ∷ 120 ∷ 121000000 ∷ 1000000 ∷ []) ∷ (33 ∷ 34 ∷ 34 ∷ 34 ∷ []) ∷ []
unfolding table_outcome table_verdict made_of counts_rule table_answer table_of cumulative_shares cumulative_share greatest_late sum shares_of_cumulative differences values_from
million_of_each = refl

-- nothing tallied, also if landings stand apart; 15 before 16, for the apart count too
pub refused_tables : table_for 1 (empty_tally 120) ∷ table_for 1 (set (empty_tally 120) 121 5) ∷ table_for 1 (set (empty_tally 120) 121 1000001)
    ∷ table_for 1 (set (replicate 122 1) 60 1000001) ∷ []
    ≡ ((16 ∷ []) ∷ (7 ∷ []) ∷ []) ∷ ((16 ∷ []) ∷ (7 ∷ []) ∷ []) ∷ ((15 ∷ []) ∷ (7 ∷ []) ∷ []) ∷ ((15 ∷ []) ∷ (7 ∷ []) ∷ []) ∷ []
unfolding table_outcome table_verdict made_of counts_rule table_answer table_of cumulative_shares cumulative_share greatest_late sum shares_of_cumulative differences values_from
refused_tables = refl
