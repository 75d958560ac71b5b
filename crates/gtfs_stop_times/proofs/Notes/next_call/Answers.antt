-- `gtfs_stop_times::Notes::next_call` meets its contract: the tests in their order, then the row, the trip's cells and the stop. Assumes
-- nothing.
use mathlib.Core.List.{◌∷◌}
use mathlib.Core.Path.{◌≡◌, sym, subst⁻¹, ◌∙◌}
use native.Mathlib.Omega.{arith}
use borrow.Author.Tests.{leb-true}
use Rattle.timetable.specs.Limits.{most_stops}
use Rattle.gtfs_stop_times.specs.Held.{Held, count_with, with_call}
use Rattle.gtfs_stop_times.proofs.Entered.{below_most, too_many, few_enough}
use Rattle.gtfs_stop_times.proofs.WithCall.{with_row}
use Rattle.gtfs_stop_times.proofs.Ready.{numbered, found_within, call_small}
use Rattle.gtfs_stop_times.proofs.Ending.{falls, next_stop_too_many, row_too_many, next_kept}
use Rattle.gtfs_stop_times.proofs.Notes.next_call.Goals as goal

pub returns-then-call-number : goal.returns-then-call-number
returns-then-call-number c =
    λ text back says held said.
    let a = c.args in
    falls back says a.call a.self.now held said a.trip a.stop (numbered held said c.requires.1) c.requires.2 (omega (arith, c.if-call-number.true, c.number.ensures.0))

pub is_too_many-requires : goal.is_too_many-requires
is_too_many-requires c =
    let ready = c.requires.0 in ((found_within ready.3 ready.4 c.requires.1).1, ready.3.few_stops)

pub returns-then-is_too_many : goal.returns-then-is_too_many
returns-then-is_too_many c =
    λ text back says held said.
    let a = c.args in
    next_stop_too_many back says a.call a.self.now held said a.trip a.stop (numbered held said c.requires.1) c.requires.2
    (omega (arith, c.if-call-number.false, c.number.ensures.0))
    (too_many a.self.now.counts.stops a.stop most_stops (sym c.is_too_many.ensures ∙ c.if-is_too_many.true))

pub returns-then-self-eq-MOST_ROWS : goal.returns-then-self-eq-MOST_ROWS
returns-then-self-eq-MOST_ROWS c =
    λ text back says held said.
    let a = c.args in
    row_too_many back says a.call a.self.now held said a.trip a.stop (numbered held said c.requires.1) c.requires.2
    (omega (arith, c.if-call-number.false, c.number.ensures.0))
    (few_enough a.self.now.counts.stops a.stop most_stops (sym c.is_too_many.ensures ∙ c.if-is_too_many.false)) c.if-self-eq-MOST_ROWS.true

pub keep_call-requires : goal.keep_call-requires
keep_call-requires c =
    let a = c.args in
    let ready = c.requires.0 in
    let small = call_small ready.3 ready.4 in (
      record {
        stop_number = (found_within ready.3 ready.4 c.requires.1).1;
        few_stops = ready.3.few_stops;
        stop_room =
            leb-true (count_with a.self.now.counts.stops a.stop) most_stops
            (few_enough a.self.now.counts.stops a.stop most_stops (sym c.is_too_many.ensures ∙ c.if-is_too_many.false));
        departs = small.0;
        follows = small.1;
      },
      omega (arith, c.requires.2, ready.3.few_trips),
    )

pub returns : goal.returns
returns c =
    λ text back says held said.
    let a = c.args in
    let outcome =
    next_kept back says a.call a.self.now held said a.trip a.stop (numbered held said c.requires.1) c.requires.2
    (omega (arith, c.if-call-number.false, c.number.ensures.0))
    (few_enough a.self.now.counts.stops a.stop most_stops (sym c.is_too_many.ensures ∙ c.if-is_too_many.false))
    (below_most a.self.now.counts.rows held.few_rows c.if-self-eq-MOST_ROWS.false)
    in
    let written = c.put_row.ensures in
    let board = c.number-2.ensures.0 in
    let departure = c.number-3.ensures.0 in
    let kept = c.keep_call.ensures in
    (outcome.0, subst⁻¹ (Held text (says ∷ back)) (let z : c.keep_call.new.self ≡ with_call (with_row a.self.now a.call a.trip a.stop) a.call a.trip a.stop = cc in z) outcome.1)
