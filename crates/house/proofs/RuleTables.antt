-- A table by the rule has M + 1 shares and is one that the check accepts, for any change time and parameter and so for the eight. Assumes nothing.
use Prim.Native.Nat.{ℕ, suc, ◌+◌, ◌<◌, ◌≤◌}
use mathlib.Core.Path.{◌≡◌, ap, ◌∙◌}
use native.Mathlib.Omega.{arith}
use lib.ListN.{length, get_or}
use Rattle.file_layout.specs.Format.{version_one}
use Rattle.delay_tables.specs.Rising.{Rising, MadeOf}
use Rattle.delay_tables.proofs.RisingTables.{rising_table_accepted}
use Rattle.delay_tables.proofs.RisingValues.{rising_values}
use Rattle.delay_tables.proofs.Values.{length_values, value_at, values_same}
use Rattle.house.specs.House.{maximum, pair_of, house_pairs, cumulative}
use Rattle.house.specs.HouseShare.{house_share, house_answer}
use Rattle.house.specs.HouseTable.{house_cumulatives, answered_cumulatives, house_table}
use Rattle.house.proofs.Pairs.{house_short}
use Rattle.house.proofs.Answers.{house_answered}
use Rattle.house.proofs.Rule.{at_latest, cumulative_below, cumulative_rises}

-- the list of a pair's cumulative shares has M + 1 entries, each by the rule
pub house_length : (m d : ℕ) → length (house_cumulatives m d) ≡ suc (m + d)
unfolding house_cumulatives
house_length m d = length_values (cumulative m d) 0 (suc (m + d))

pub house_at : (m d x : ℕ) → x ≤ m + d → get_or (house_cumulatives m d) x 0 ≡ cumulative m d x
unfolding house_cumulatives
house_at m d x h = value_at (cumulative m d) 0 (suc (m + d)) x (omega arith) ∙ ap (cumulative m d) (omega arith)

pub house_rising : (m d : ℕ) → Rising (house_cumulatives m d)
unfolding house_cumulatives
house_rising m d = rising_values (cumulative m d) (m + d) (cumulative_rises m d) (cumulative_below m d) (at_latest m d (m + d) (omega arith))

-- every change time and parameter give a table that the rule of a class's shares accepts
pub house_table_accepted : (m d : ℕ) → MadeOf (house_cumulatives m d) (house_table m d)
unfolding house_table
house_table_accepted m d = rising_table_accepted (house_cumulatives m d) (house_rising m d)

-- each of the eight is one the check accepts: M is at most version 1's longest delay, and the shares keep their rule
pub house_pair_accepted : (k : ℕ) → k < length house_pairs
    → (maximum (pair_of k) ≤ version_one.delay)
    × MadeOf (house_cumulatives (pair_of k).change (pair_of k).parameter) (house_table (pair_of k).change (pair_of k).parameter)
house_pair_accepted k h = (house_short k h, house_table_accepted (pair_of k).change (pair_of k).parameter)

-- what is answered for a pair number, minute by minute, is its list of cumulative shares; so the answers never fall, and reach 4,096 at M alone
pub answered_by_rule : (k : ℕ) → k < length house_pairs → answered_cumulatives k ≡ house_cumulatives (pair_of k).change (pair_of k).parameter
unfolding answered_cumulatives house_cumulatives
answered_by_rule k h =
    values_same (λ x. get_or (house_answer (house_share k x)).values 0 0) (cumulative (pair_of k).change (pair_of k).parameter) 0
    (suc (maximum (pair_of k))) (λ x inside. ap (λ a. get_or a.values 0 0) (house_answered k x h (omega (arith, inside))))

pub answered_rising : (k : ℕ) → k < length house_pairs → Rising (answered_cumulatives k)
answered_rising k h = rw (answered_by_rule k h) (house_rising (pair_of k).change (pair_of k).parameter)
