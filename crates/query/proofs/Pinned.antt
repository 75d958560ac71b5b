-- Refusal 6 and a query's bytes, at both sides of each line. Each statement holds by computing. Assumes nothing.
use mathlib.Core.Bool.{true, false}
use mathlib.Core.List.{[], ◌∷◌}
use mathlib.Core.Path.{◌≡◌, refl}
use Rattle.numbers.specs.Numbers.{u16_at}
use Rattle.query.specs.Query.{journey_rule, code_rule, margin_rule, gate_rule, query_rule, query_in, plain_query, with_code, with_margin, with_gate}

-- a stop not below S, of three
pub stops_line : (query_rule 3 600 (plain_query 2 0 0) ≡ true) × (query_rule 3 600 (plain_query 3 0 0) ≡ false)
    × (query_rule 3 600 (plain_query 0 2 0) ≡ true) × (query_rule 3 600 (plain_query 0 3 0) ≡ false)
unfolding query_rule journey_rule code_rule margin_rule gate_rule
stops_line = (refl, refl, refl, refl)

-- source equals target
pub apart_line : (query_rule 3 600 (plain_query 1 1 0) ≡ false) × (query_rule 3 600 (plain_query 1 2 0) ≡ true)
unfolding query_rule journey_rule code_rule margin_rule gate_rule
apart_line = (refl, refl)

-- T above the last minute
pub minute_line : (query_rule 3 600 (plain_query 0 2 600) ≡ true) × (query_rule 3 600 (plain_query 0 2 601) ≡ false)
unfolding query_rule journey_rule code_rule margin_rule gate_rule
minute_line = (refl, refl)

-- q not 0 or 4 to 16
pub code_line : (query_rule 3 600 (plain_query 0 2 0) ≡ true) × (query_rule 3 600 (with_code 1 (plain_query 0 2 0)) ≡ false)
    × (query_rule 3 600 (with_code 3 (plain_query 0 2 0)) ≡ false) × (query_rule 3 600 (with_code 4 (plain_query 0 2 0)) ≡ true)
    × (query_rule 3 600 (with_code 16 (plain_query 0 2 0)) ≡ true) × (query_rule 3 600 (with_code 17 (plain_query 0 2 0)) ≡ false)
unfolding query_rule journey_rule code_rule margin_rule gate_rule
code_line = (refl, refl, refl, refl, refl, refl)

-- a margin of 0 or above 2,560, as a host may pass it
pub margin_line : (query_rule 3 600 (with_margin 0 (plain_query 0 2 0)) ≡ false) × (query_rule 3 600 (plain_query 0 2 0) ≡ true)
    × (query_rule 3 600 (with_margin 2560 (plain_query 0 2 0)) ≡ true) × (query_rule 3 600 (with_margin 2561 (plain_query 0 2 0)) ≡ false)
    × (query_rule 3 600 (with_margin 65536 (plain_query 0 2 0)) ≡ false)
unfolding query_rule journey_rule code_rule margin_rule gate_rule
margin_line = (refl, refl, refl, refl, refl)

-- a gate time above 30, as a host may pass it
pub gate_line : (query_rule 3 600 (plain_query 0 2 0) ≡ true) × (query_rule 3 600 (with_gate 30 (plain_query 0 2 0)) ≡ true)
    × (query_rule 3 600 (with_gate 31 (plain_query 0 2 0)) ≡ false) × (query_rule 3 600 (with_gate 65536 (plain_query 0 2 0)) ≡ false)
unfolding query_rule journey_rule code_rule margin_rule gate_rule
gate_line = (refl, refl, refl, refl)

-- source, target, T, q as u16, in 8 bytes; 7 and 9 bytes ask from a stop to itself
pub bytes_line : (query_in (0 ∷ 0 ∷ 2 ∷ 0 ∷ 78 ∷ 2 ∷ 5 ∷ 0 ∷ []) ≡ with_code 5 (plain_query 0 2 590))
    × (query_in (1 ∷ 1 ∷ 2 ∷ 2 ∷ 3 ∷ 3 ∷ 4 ∷ 4 ∷ []) ≡ with_code 1028 (plain_query 257 514 771))
    × (query_in (0 ∷ 0 ∷ 2 ∷ 0 ∷ 78 ∷ 2 ∷ 5 ∷ []) ≡ plain_query 0 0 0)
    × (query_in (0 ∷ 0 ∷ 2 ∷ 0 ∷ 78 ∷ 2 ∷ 5 ∷ 0 ∷ 0 ∷ []) ≡ plain_query 0 0 0)
unfolding query_in u16_at
bytes_line = (refl, refl, refl, refl)

-- in 10 bytes the last two are the margin; 11 ask from a stop to itself
pub margin_bytes_line : (query_in (0 ∷ 0 ∷ 2 ∷ 0 ∷ 78 ∷ 2 ∷ 5 ∷ 0 ∷ 1 ∷ 2 ∷ []) ≡ with_margin 513 (with_code 5 (plain_query 0 2 590)))
    × (query_in (0 ∷ 0 ∷ 2 ∷ 0 ∷ 78 ∷ 2 ∷ 5 ∷ 0 ∷ 0 ∷ 0 ∷ []) ≡ with_margin 0 (with_code 5 (plain_query 0 2 590)))
    × (query_in (0 ∷ 0 ∷ 2 ∷ 0 ∷ 78 ∷ 2 ∷ 5 ∷ 0 ∷ 1 ∷ 2 ∷ 0 ∷ []) ≡ plain_query 0 0 0)
unfolding query_in u16_at
margin_bytes_line = (refl, refl, refl)

-- in 12 bytes the last two are the gate time, behind the margin; 13 ask from a stop to itself
pub gate_bytes_line : (query_in (0 ∷ 0 ∷ 2 ∷ 0 ∷ 78 ∷ 2 ∷ 5 ∷ 0 ∷ 1 ∷ 2 ∷ 3 ∷ 4 ∷ []) ≡ with_gate 1027 (with_margin 513 (with_code 5 (plain_query 0 2 590))))
    × (query_in (0 ∷ 0 ∷ 2 ∷ 0 ∷ 78 ∷ 2 ∷ 5 ∷ 0 ∷ 1 ∷ 0 ∷ 0 ∷ 0 ∷ []) ≡ with_code 5 (plain_query 0 2 590))
    × (query_in (0 ∷ 0 ∷ 2 ∷ 0 ∷ 78 ∷ 2 ∷ 5 ∷ 0 ∷ 1 ∷ 2 ∷ 3 ∷ 4 ∷ 0 ∷ []) ≡ plain_query 0 0 0)
unfolding query_in u16_at
gate_bytes_line = (refl, refl, refl)
