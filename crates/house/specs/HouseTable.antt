-- Document 01, "House delay tables": a house table by its cumulative shares.
use Rattle.std.specs.Prelude.{ℕ, suc, ◌+◌, List, get_or}
use Rattle.delay_tables.specs.Rising.{shares_of_cumulative, values_from}
use Rattle.house.specs.House.{maximum, cumulative, pair_of}
use Rattle.house.specs.HouseShare.{house_share, house_answer}

-- the cumulative shares by change time m and parameter d, of delays 0, 1, .. M
unfoldable pub house_cumulatives : (m d : ℕ) → List ℕ
house_cumulatives m d = values_from (cumulative m d) 0 (suc (m + d))

-- the shares answered for a pair number, of delays 0, 1, .. M
unfoldable pub answered_cumulatives : ℕ → List ℕ
answered_cumulatives pair = values_from (λ x. get_or (house_answer (house_share pair x)).values 0 0) 0 (suc (maximum (pair_of pair)))

-- the table of a house pair
unfoldable pub house_table : (m d : ℕ) → List ℕ
house_table m d = shares_of_cumulative (house_cumulatives m d)
