-- `gtfs_import::import_stop_times` meets its contract: day, then room, then what the text says. Assumes nothing.
use mathlib.Core.Path.{sym, ap, ◌∙◌}
use Rattle.gtfs_calls.specs.Reading.{stop_times}
use Rattle.gtfs_import.specs.Import.{ImportOutcome, by_reading}
use Rattle.gtfs_import.proofs.Days.{no_service_day, too_little_room, by_the_text}
use Rattle.gtfs_import.proofs.import_stop_times.Goals as goal

pub returns-then-not-is_service_day : goal.returns-then-not-is_service_day
returns-then-not-is_service_day c =
    let a = c.args in
    let outcome = no_service_day a.text.now a.day a.out.now (sym c.is_service_day.ensures ∙ c.if-not-is_service_day.true) in
    (sym (ap (λ (o : ImportOutcome). o.answer) outcome), sym (ap (λ (o : ImportOutcome). o.out) outcome))

pub returns-then-out : goal.returns-then-out
returns-then-out c =
    let a = c.args in
    let outcome = too_little_room a.text.now a.day a.out.now (sym c.is_service_day.ensures ∙ c.if-not-is_service_day.false) c.if-out.true in
    (sym (ap (λ (o : ImportOutcome). o.answer) outcome), sym (ap (λ (o : ImportOutcome). o.out) outcome))

pub returns : goal.returns
returns c =
    let a = c.args in
    let outcome =
    ap (λ minute. by_reading (stop_times minute a.text.now) a.out.now) c.day_start.ensures.0
    ∙ sym (by_the_text a.text.now a.day a.out.now (sym c.is_service_day.ensures ∙ c.if-not-is_service_day.false) c.if-out.false)
    in (
      c.import_from.ensures.0 ∙ ap (λ (o : ImportOutcome). o.answer) outcome,
      c.import_from.ensures.1 ∙ ap (λ (o : ImportOutcome). o.out) outcome,
    )
