-- The clock's text of a minute, read off its bytes. Assumes nothing.
use Prim.Native.Nat.{ℕ, ◌-◌}
use mathlib.Core.Path.{◌≡◌, ap, ◌∙◌}
use lib.ListN.{length, drop, replicate, length-replicate}
use lib.Seq.{drop_at}
use Rattle.clock.specs.declared.TimeText.{TimeText}
use Rattle.clock.specs.Text.{blank, time_text, widest, printed, Printed}

pub printed_text : (minute : ℕ) (text : TimeText) → Printed minute text → drop text.start text.bytes ≡ time_text minute
unfolding printed
printed_text minute text p =
    let start : ℕ = widest - length (time_text minute) in
    ap (λ x. drop x.start x.bytes) p.says ∙ drop_at (replicate start blank) (time_text minute) start (length-replicate start blank)
