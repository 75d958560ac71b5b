-- Facts that pin the rule and the answers to document 01's own numbers. Assumes nothing.
use Prim.Native.Nat.{ℕ}
use mathlib.Core.Path.{◌≡◌, refl}
use mathlib.Core.List.{[], ◌∷◌}
use Rattle.house.specs.House.{cumulative, between, maximum, pair_of}
use Rattle.house.specs.HouseShare.{in_house, house_share, house_answer}

-- case 12: pair (5,30), cumulative shares at 1, 2, 5, 6, 35
pub case_12 : cumulative 5 30 1 ∷ cumulative 5 30 2 ∷ cumulative 5 30 5 ∷ cumulative 5 30 6 ∷ cumulative 5 30 35 ∷ []
    ≡ 303 ∷ 682 ∷ 2730 ∷ 3106 ∷ 4096 ∷ []
unfolding cumulative between
case_12 = refl

-- at x = M it is 4,096 always, which decides when d = 0: the distribution alone would give two thirds
pub at_latest : cumulative 6 0 6 ∷ between 6 0 6 ∷ [] ≡ 4096 ∷ 2730 ∷ []
unfolding cumulative between
at_latest = refl

-- at 0, if M > 0, it is 0; if M = 0, it is 4,096
pub at_zero : cumulative 5 30 0 ∷ cumulative 0 9 0 ∷ cumulative 0 0 0 ∷ [] ≡ 0 ∷ 0 ∷ 4096 ∷ []
unfolding cumulative between
at_zero = refl

-- the pairs by their numbers, each told from the others by its cumulative share of 11 minutes; and their M
abbrev share_of_eleven : ℕ → ℕ
share_of_eleven k = cumulative (pair_of k).change (pair_of k).parameter 11

pub pairs_by_number : share_of_eleven 0 ∷ share_of_eleven 1 ∷ share_of_eleven 2 ∷ share_of_eleven 3 ∷ share_of_eleven 4 ∷ share_of_eleven 5
    ∷ share_of_eleven 6 ∷ share_of_eleven 7 ∷ [] ≡ 4082 ∷ 3731 ∷ 3481 ∷ 3106 ∷ 2945 ∷ 2855 ∷ 1580 ∷ 1035 ∷ []
unfolding cumulative between
pairs_by_number = refl

pub latest_by_number : maximum (pair_of 0) ∷ maximum (pair_of 1) ∷ maximum (pair_of 2) ∷ maximum (pair_of 3) ∷ maximum (pair_of 4)
    ∷ maximum (pair_of 5) ∷ maximum (pair_of 6) ∷ maximum (pair_of 7) ∷ [] ≡ 12 ∷ 35 ∷ 65 ∷ 40 ∷ 70 ∷ 120 ∷ 105 ∷ 120 ∷ []
latest_by_number = refl

-- pair number above 7 or minute above M: refusal 6, place 0
pub last_answered : house_answer (house_share 7 120) ≡ record { number = 0; place = 0; values = 4096 ∷ [] }
unfolding house_answer house_share in_house cumulative between
last_answered = refl

pub past_last_minute : house_answer (house_share 7 121) ≡ record { number = 6; place = 0; values = [] }
unfolding house_answer house_share in_house cumulative between
past_last_minute = refl

pub past_last_pair : house_answer (house_share 8 0) ≡ record { number = 6; place = 0; values = [] }
unfolding house_answer house_share in_house cumulative between
past_last_pair = refl
