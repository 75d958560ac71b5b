-- Document 01, "Rides, safe journeys, plans" and "The sheet", and document 02, E1 and E3: what is asked of a plan, its rule and its bytes.
use Rattle.std.specs.Prelude.{ℕ, ◌≤◌, ◌<◌, Bool, cond, not, ◌&&◌, ◌||◌, List, ◌⊎◌, ◌≢◌, ◌≡◌, leb, ltb, eqb, length}
use Rattle.numbers.specs.Numbers.{u16_at}
use Rattle.query.specs.declared.Query.{Query}

-- E1: a margin of 1 to 2,560 ticks; margin 1 is document 01's rule
abbrev pub least_margin : ℕ
least_margin = 1

abbrev pub most_margin : ℕ
most_margin = 2560

-- E3: a gate time of 0 to 30 minutes; gate 0 is document 01's rule
abbrev pub most_gate : ℕ
most_gate = 30

-- from a stop to another, at minute T or later, with no bound, the least margin and no gate; the earliest safe arrival is asked so
abbrev pub plain_query : (source target minute : ℕ) → Query
plain_query source target minute =
    record { source = source; target = target; minute = minute; code = 0; margin = least_margin; gate = 0 }

-- the same with bound code q
abbrev pub with_code : (code : ℕ) → Query → Query
with_code code q =
    record { source = q.source; target = q.target; minute = q.minute; code = code; margin = q.margin; gate = q.gate }

-- the same with another margin
abbrev pub with_margin : (margin : ℕ) → Query → Query
with_margin margin q =
    record { source = q.source; target = q.target; minute = q.minute; code = q.code; margin = margin; gate = q.gate }

-- the same with another gate time
abbrev pub with_gate : (gate : ℕ) → Query → Query
with_gate gate q =
    record { source = q.source; target = q.target; minute = q.minute; code = q.code; margin = q.margin; gate = gate }

-- both stops are below S and differ, and T is not past the last minute
unfoldable pub journey_rule : (stops last : ℕ) → Query → Bool
journey_rule stops last q =
    ltb q.source stops && ltb q.target stops && not (eqb q.source q.target) && leb q.minute last

-- q counts quarters: 4 to 16, or 0 for no bound
abbrev pub fewest_quarters : ℕ
fewest_quarters = 4

abbrev pub most_quarters : ℕ
most_quarters = 16

unfoldable pub code_rule : Query → Bool
code_rule q = eqb q.code 0 || (leb fewest_quarters q.code && leb q.code most_quarters)

unfoldable pub margin_rule : Query → Bool
margin_rule q = leb least_margin q.margin && leb q.margin most_margin

unfoldable pub gate_rule : Query → Bool
gate_rule q = leb q.gate most_gate

-- all four, else 6; without a bound code q is 0, without a margin it is 1 and without a gate time 0, which keep their rules
unfoldable pub query_rule : (stops last : ℕ) → Query → Bool
query_rule stops last q = journey_rule stops last q && code_rule q && margin_rule q && gate_rule q

-- a query that keeps its rule
pub record QueryFits (stops last : ℕ) (q : Query) : Type 0 where
  pub source : q.source < stops
  pub target : q.target < stops
  pub apart : q.source ≢ q.target
  pub minute : q.minute ≤ last
  pub code : (q.code ≡ 0) ⊎ ((fewest_quarters ≤ q.code) × (q.code ≤ most_quarters))
  pub margin : (least_margin ≤ q.margin) × (q.margin ≤ most_margin)
  pub gate : q.gate ≤ most_gate

-- 8 bytes: source, target, T, q as u16; 10 bytes end with the margin, 12 with the gate time behind it
abbrev pub query_bytes : ℕ
query_bytes = 8

abbrev pub margin_bytes : ℕ
margin_bytes = 10

abbrev pub gate_bytes : ℕ
gate_bytes = 12

-- the four numbers that every query has
abbrev pub four_numbers : List ℕ → Query
four_numbers bytes = with_code (u16_at bytes 6) (plain_query (u16_at bytes 0) (u16_at bytes 2) (u16_at bytes 4))

-- bytes of any other length ask from a stop to itself, which no file answers but by 6
abbrev pub no_query : Query
no_query = plain_query 0 0 0

-- and the margin behind them
abbrev pub five_numbers : List ℕ → Query
five_numbers bytes = with_margin (u16_at bytes 8) (four_numbers bytes)

-- A query of 10 bytes ends with the margin, one of 8 means 1; one of 12 bytes ends with the gate time, a shorter one means 0
unfoldable pub query_in : List ℕ → Query
query_in bytes =
    cond (eqb (length bytes) query_bytes) (four_numbers bytes)
    (cond (eqb (length bytes) margin_bytes) (five_numbers bytes)
    (cond (eqb (length bytes) gate_bytes) (with_gate (u16_at bytes 10) (five_numbers bytes)) no_query))
