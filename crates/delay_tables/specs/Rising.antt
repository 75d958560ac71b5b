-- Documents 01, "House delay tables", and 02, E4: a table of shares by its rising cumulative shares.
use Rattle.std.specs.Prelude.{ℕ, zero, suc, ◌+◌, ◌-◌, ◌<◌, ◌≤◌, pred, ◌≡◌, true, List, [], ◌∷◌, length, get_or}
use Rattle.timetable.specs.Timetable.{maximum_delay}
use Rattle.timetable.specs.Classes.{share_total, shares_rule}

-- cumulative shares of delays 0, 1, .. M that never fall, end at 4,096, and rise with the last step
pub record Rising (cs : List ℕ) : Type 0 where
  pub never_falls : (x : ℕ) → suc x < length cs → get_or cs x 0 ≤ get_or cs (suc x) 0
  pub ends_whole : get_or cs (maximum_delay cs) 0 ≡ share_total
  pub rises_last : 0 < maximum_delay cs → get_or cs (pred (maximum_delay cs)) 0 < share_total

-- A share is the difference of neighbours; `ahead` is the cumulative share of the delay before
unfoldable pub differences : ℕ → List ℕ → List ℕ
differences ahead [] = []
differences ahead (c ∷ cs) = (c - ahead) ∷ differences c cs

-- the shares of delays 0, 1, .. M, nothing having landed before delay 0
unfoldable pub shares_of_cumulative : List ℕ → List ℕ
shares_of_cumulative cs = differences 0 cs

-- the sums of the shares up to each delay, added to those ahead
unfoldable pub running_sums : ℕ → List ℕ → List ℕ
running_sums ahead [] = []
running_sums ahead (s ∷ shares) = (ahead + s) ∷ running_sums (ahead + s) shares

unfoldable pub cumulative_of_shares : List ℕ → List ℕ
cumulative_of_shares shares = running_sums 0 shares

-- what a table made of cumulative shares is: accepted by the rule of a class's shares, of M + 1 shares, and its running sums are those it was made of
pub record MadeOf (cs table : List ℕ) : Type 0 where
  pub accepted : shares_rule table ≡ true
  pub one_each : length table ≡ length cs
  pub sums_back : cumulative_of_shares table ≡ cs

-- the values of f at n numbers from x on
unfoldable pub values_from : (ℕ → ℕ) → (x n : ℕ) → List ℕ
values_from f x zero = []
values_from f x (suc n) = f x ∷ values_from f (suc x) n
