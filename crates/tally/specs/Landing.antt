-- Document 02, E4: "The pier log gives for each landing the planned and the actual minute": how late a landing was.
use Rattle.std.specs.Prelude.{ℕ, ℤ, pos, negsuc, ◌-ℤ◌}
use Rattle.tally.specs.declared.Landing.{Landing}

-- the planned and the actual minute
abbrev pub landing_at : (planned actual : ℕ) → Landing
landing_at planned actual = record { planned = planned; actual = actual }

-- Lateness is actual minus planned and may be below zero
abbrev pub lateness : Landing → ℤ
lateness l = pos l.actual -ℤ pos l.planned

-- early ones as 0
abbrev pub counted_as : ℤ → ℕ
counted_as (pos minutes) = minutes
counted_as (negsuc early) = 0
