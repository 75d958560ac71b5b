-- `gtfs_stop_times::Notes::first_call` meets its contract: the tests in their order, then the trip, its cells and the stop. Assumes nothing.
use mathlib.Core.List.{◌∷◌}
use mathlib.Core.Path.{◌≡◌, refl, sym, subst⁻¹, ◌∙◌}
use borrow.Author.Tests.{leb-true}
use Rattle.timetable.specs.Limits.{most_stops}
use Rattle.gtfs_stop_times.specs.Held.{Held, count_with, with_call}
use Rattle.gtfs_stop_times.proofs.Entered.{below_most, too_many, few_enough}
use Rattle.gtfs_stop_times.proofs.WithCall.{with_trip}
use Rattle.gtfs_stop_times.proofs.Ready.{numbered, found_within, call_small}
use Rattle.gtfs_stop_times.proofs.Ending.{trip_too_many, first_stop_too_many, first_kept}
use Rattle.gtfs_stop_times.proofs.Notes.first_call.Goals as goal

pub returns-then-trip-eq-MOST_TRIPS : goal.returns-then-trip-eq-MOST_TRIPS
returns-then-trip-eq-MOST_TRIPS c =
    λ text back says held said.
    let a = c.args in
    trip_too_many back says a.call a.self.now held said _ a.stop (numbered held said c.requires.1) refl c.if-trip-eq-MOST_TRIPS.true

pub is_too_many-requires : goal.is_too_many-requires
is_too_many-requires c =
    let ready = c.requires.0 in ((found_within ready.3 ready.4 c.requires.1).1, ready.3.few_stops)

pub returns-then-is_too_many : goal.returns-then-is_too_many
returns-then-is_too_many c =
    λ text back says held said.
    let a = c.args in
    first_stop_too_many back says a.call a.self.now held said _ a.stop (numbered held said c.requires.1) refl
    (below_most a.self.now.counts.trips held.few_trips c.if-trip-eq-MOST_TRIPS.false)
    (too_many a.self.now.counts.stops a.stop most_stops (sym c.is_too_many.ensures ∙ c.if-is_too_many.true))

pub keep_call-requires : goal.keep_call-requires
keep_call-requires c =
    let a = c.args in
    let ready = c.requires.0 in
    let small = call_small ready.3 ready.4 in (
      record {
        stop_number = (found_within ready.3 ready.4 c.requires.1).1;
        few_stops = ready.3.few_stops;
        stop_room =
            leb-true (count_with a.self.now.counts.stops a.stop) most_stops
            (few_enough a.self.now.counts.stops a.stop most_stops (sym c.is_too_many.ensures ∙ c.if-is_too_many.false));
        departs = small.0;
        follows = small.1;
      },
      below_most a.self.now.counts.trips ready.3.few_trips c.if-trip-eq-MOST_TRIPS.false,
    )

pub returns : goal.returns
returns c =
    λ text back says held said.
    let a = c.args in
    let outcome =
    first_kept back says a.call a.self.now held said _ a.stop (numbered held said c.requires.1) refl
    (below_most a.self.now.counts.trips held.few_trips c.if-trip-eq-MOST_TRIPS.false)
    (few_enough a.self.now.counts.stops a.stop most_stops (sym c.is_too_many.ensures ∙ c.if-is_too_many.false))
    in
    let entered = c.add.ensures in
    let kept = c.keep_call.ensures in
    (outcome.0, subst⁻¹ (Held text (says ∷ back)) (let z : c.keep_call.new.self ≡ with_call (with_trip a.self.now a.call) a.call a.self.now.counts.trips a.stop = cc in z) outcome.1)
