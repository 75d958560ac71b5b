-- Document 01, "What every contract settles": any two results of the clock that a contract permits coincide. Assumes nothing.
use Prim.Native.Nat.{ℕ}
use mathlib.Core.Path.{ap, sym, ◌∙◌}
use Rattle.laws.proofs.Outcomes.{SettlesResult}
use Rattle.clock.specs.declared.Minute.{Minute}
use Rattle.clock.proofs.Minute.of_ticks.Kinds as ticks_kinds
use Rattle.clock.proofs.Minute.of_ticks.Reads as ticks_reads
use Rattle.clock.proofs.Minute.day.Kinds as day_kinds
use Rattle.clock.proofs.Minute.day.Reads as day_reads
use Rattle.clock.proofs.Minute.hour.Kinds as hour_kinds
use Rattle.clock.proofs.Minute.hour.Reads as hour_reads
use Rattle.clock.proofs.Minute.minute_of_hour.Kinds as minute_kinds
use Rattle.clock.proofs.Minute.minute_of_hour.Reads as minute_reads
use Rattle.clock.proofs.Minute.time_text.Kinds as text_kinds
use Rattle.clock.proofs.Minute.time_text.Reads as text_reads

-- a minute is its one number
abbrev minute_of : ℕ → Minute
minute_of n = record { minute = n }

pub of_ticks_settled : SettlesResult 0 ticks_kinds.ps ticks_kinds.r ticks_reads.Post
of_ticks_settled κs arguments one other ending another first second = ap minute_of (first ∙ sym second)

pub day_settled : SettlesResult 0 day_kinds.ps day_kinds.r day_reads.Post
day_settled κs arguments one other ending another first second = first ∙ sym second

pub hour_settled : SettlesResult 0 hour_kinds.ps hour_kinds.r hour_reads.Post
hour_settled κs arguments one other ending another first second = first ∙ sym second

pub minute_of_hour_settled : SettlesResult 0 minute_kinds.ps minute_kinds.r minute_reads.Post
minute_of_hour_settled κs arguments one other ending another first second = first ∙ sym second

pub time_text_settled : SettlesResult 0 text_kinds.ps text_kinds.r text_reads.Post
time_text_settled κs arguments one other ending another first second = first.says ∙ sym second.says
