-- The cumulative shares of a tally rise, and so every table made is one that the check accepts. Assumes nothing.
use Prim.Native.Nat.{ℕ, zero, suc, ◌+◌, ◌*◌, ◌<◌, ◌≤◌}
use mathlib.Core.List.{List}
use mathlib.Core.Path.{◌≡◌, ap, ◌∙◌}
use native.Mathlib.Nat.{mul-div_cancel}
use native.Mathlib.Omega.{arith}
use lib.ListN.{length, get_or}
use Rattle.laws.proofs.Quotients.{quotient_below}
use Rattle.timetable.specs.Classes.{share_total}
use Rattle.delay_tables.specs.Rising.{Rising, MadeOf}
use Rattle.delay_tables.proofs.RisingTables.{rising_table_accepted}
use Rattle.delay_tables.proofs.RisingValues.{rising_values}
use Rattle.delay_tables.proofs.Values.{length_values, value_at}
use Rattle.tally.specs.Tally.{count_at}
use Rattle.tally_table.specs.Table.{landings_by, landings_tallied, share_of, cumulative_share, cumulative_shares, IsGreatest, greatest_late, table_of}
use Rattle.tally_table.proofs.Shares.{sum_more, landings_rise, share_rises}
use Rattle.tally_table.proofs.Greatest.{found_greatest, all_by_greatest}

-- a share of fewer than all landings is less than the whole, and one of all is the whole
share_below : (landings some : ℕ) → some < landings → share_of landings some < share_total
share_below landings some h = quotient_below (share_total * some) landings share_total (omega arith) (omega arith)

share_whole : (landings : ℕ) → 0 < landings → share_of landings landings ≡ share_total
share_whole landings any = mul-div_cancel share_total any

pub cumulative_length : (landings : ℕ) (tally : List ℕ) (m : ℕ) → length (cumulative_shares landings tally m) ≡ suc m
unfolding cumulative_shares
cumulative_length landings tally m = length_values (cumulative_share landings tally) 0 (suc m)

pub cumulative_at : (landings : ℕ) (tally : List ℕ) (m x : ℕ) → x ≤ m
    → get_or (cumulative_shares landings tally m) x 0 ≡ share_of landings (landings_by tally x)
unfolding cumulative_shares cumulative_share
cumulative_at landings tally m x h =
    value_at (cumulative_share landings tally) 0 (suc m) x (omega arith)
    ∙ ap (λ (k : ℕ). share_of landings (landings_by tally k)) (let here : 0 + x ≡ x = omega arith in here)

module _ (top : ℕ) (tally : List ℕ) (some : 0 < landings_tallied top tally) (m : ℕ) (greatest : IsGreatest top tally m) where
  all_by : landings_by tally m ≡ landings_tallied top tally
  all_by = all_by_greatest top tally m greatest.no_later greatest.none_later

  -- before the greatest lateness some landing is missing
  fewer_before : (x : ℕ) → x < m → landings_by tally x < landings_tallied top tally
  fewer_before x h = fewer m all_by greatest.tallied h
    where
      fewer : (n : ℕ) → landings_by tally n ≡ landings_tallied top tally → 0 < count_at tally n → x < n → landings_by tally x < landings_tallied top tally
      fewer zero all counted past = absurd (let z : ⊥ = omega arith in z)
      fewer (suc n) all counted past = omega (arith, sum_more tally (suc n), landings_rise tally x n (omega arith))

  pub tally_rising : Rising (cumulative_shares (landings_tallied top tally) tally m)
  unfolding cumulative_shares cumulative_share
  tally_rising =
      rising_values (cumulative_share (landings_tallied top tally) tally) m
      (λ x h. share_rises (landings_tallied top tally) (landings_by tally x) (landings_by tally (suc x)) some (landings_rise tally x (suc x) (omega arith)))
      (λ x h. share_below (landings_tallied top tally) (landings_by tally x) (fewer_before x h))
      (ap (share_of (landings_tallied top tally)) all_by ∙ share_whole (landings_tallied top tally) some)

-- every table made is one that the rule of a class's shares accepts, by the one law of rising cumulative shares
pub table_accepted : (top : ℕ) (tally : List ℕ) → 0 < landings_tallied top tally
    → MadeOf (cumulative_shares (landings_tallied top tally) tally (greatest_late top tally)) (table_of top tally)
unfolding table_of
table_accepted top tally some =
    rising_table_accepted (cumulative_shares (landings_tallied top tally) tally (greatest_late top tally))
    (tally_rising top tally some (greatest_late top tally) (found_greatest top tally some))
