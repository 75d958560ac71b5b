-- Document 01, "Expected arrival in ticks": what a tick is, and rounding up.
use Rattle.std.specs.Prelude.{ℕ, pred, ◌+◌, ◌/◌}

-- A tick is 1/256 minute
abbrev pub ticks_a_minute : ℕ
ticks_a_minute = 256

-- n / d, rounded up
abbrev pub quotient_up : (d n : ℕ) → ℕ
quotient_up d n = (n + pred d) / d
