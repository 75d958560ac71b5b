-- `gtfs_import::names_of` meets its contract: room, day, and then what the text says. Assumes nothing.
use mathlib.Core.Path.{sym, ap, ◌∙◌}
use Rattle.gtfs_calls.specs.Reading.{stop_times}
use Rattle.gtfs_import.specs.Named.{NamesOutcome}
use Rattle.gtfs_import.proofs.NamesTold.{names_room_lem, names_day, names_served, names_told, names_wrong}
use Rattle.gtfs_import.proofs.names_of.Goals as goal

pub returns-then-out-lt-NAMES_ROOM : goal.returns-then-out-lt-NAMES_ROOM
returns-then-out-lt-NAMES_ROOM c =
    let a = c.args in
    let same = names_room_lem a.text.now a.day a.out.now c.if-out-lt-NAMES_ROOM.true in
    (ap (λ (o : NamesOutcome). o.answer) (sym same), ap (λ (o : NamesOutcome). o.out) (sym same))

pub returns-then-not-is_service_day : goal.returns-then-not-is_service_day
returns-then-not-is_service_day c =
    let a = c.args in
    let same =
    names_day a.text.now a.day a.out.now c.if-out-lt-NAMES_ROOM.false (sym c.is_service_day.ensures ∙ c.if-not-is_service_day.true)
    in
    (ap (λ (o : NamesOutcome). o.answer) (sym same), ap (λ (o : NamesOutcome). o.out) (sym same))

pub returns-in-Ok : goal.returns-in-Ok
returns-in-Ok c =
    let a = c.args in
    let served =
    names_served a.text.now a.day a.out.now c.if-out-lt-NAMES_ROOM.false (sym c.is_service_day.ensures ∙ c.if-not-is_service_day.false) _
    c.day_start.ensures.0
    in
    let told = names_told (stop_times c.day_start.result a.text.now) a.out.now c.in-Ok.listed c.in-Ok.ensures.0 c.stop_times.ensures.1 in
    (told.0 ∙ ap (λ (o : NamesOutcome). o.answer) (sym served), told.1 ∙ ap (λ (o : NamesOutcome). o.out) (sym served))

pub returns-in-Err : goal.returns-in-Err
returns-in-Err c =
    let a = c.args in
    let served =
    names_served a.text.now a.day a.out.now c.if-out-lt-NAMES_ROOM.false (sym c.is_service_day.ensures ∙ c.if-not-is_service_day.false) _
    c.day_start.ensures.0
    in
    let told = names_wrong (stop_times c.day_start.result a.text.now) a.out.now c.in-Err.fault c.in-Err.ensures.0 c.stop_times.ensures.1 in
    (told.0 ∙ ap (λ (o : NamesOutcome). o.answer) (sym served), told.1 ∙ ap (λ (o : NamesOutcome). o.out) (sym served))
