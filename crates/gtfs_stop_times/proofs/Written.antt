-- What is wanted of the calls, as it is written: rows in order, or the lines of stops and then those of trips. Assumes nothing.
use Prim.Native.Nat.{ℕ, ◌+◌, ◌*◌, ◌≤◌, ◌<◌}
use mathlib.Core.List.{List, ◌++◌}
use mathlib.Core.Path.{◌≡◌, ap, subst, subst⁻¹, ◌∙◌}
use native.Mathlib.Omega.{arith}
use lib.ListN.{length, drop, length-append}
use lib.Seq.{sets, sets-eq}
use Rattle.numbers.specs.Over.{over}
use Rattle.timetable.specs.declared.Row.{Row}
use Rattle.timetable.specs.Limits.{most_rows}
use Rattle.file_layout.specs.Decode.{rows_from}
use Rattle.file_encoding.specs.Encode.{rows_bytes}
use Rattle.file_encoding.proofs.Sizes.{rows_size}
use Rattle.gtfs_order.specs.Order.{in_order}
use Rattle.gtfs_order.proofs.AsRead.{in_order_length}
use Rattle.gtfs_stop_times.specs.declared.Notes.{Notes}
use Rattle.gtfs_stop_times.specs.declared.Wanted.{Wanted}
use Rattle.gtfs_stop_times.specs.declared.Wanted.TheVariants.{Rows, Names}
use Rattle.gtfs_calls.specs.Calls.{trips_of, stops_of, rows_of}
use Rattle.gtfs_stop_times.specs.Held.{Holding}
use Rattle.gtfs_calls.specs.Names.{stop_word, trip_word, id_lines, names_text, line_room}
use Rattle.gtfs_stop_times.specs.Answers.{written_of, wanted_room}
use Rattle.gtfs_stop_times.specs.Putting.{IdsHeld, IdsPut, WantedPut}
use Rattle.gtfs_stop_times.proofs.Answered.{rows_held}
use Rattle.gtfs_stop_times.proofs.NameLines.{put_then, lines_short}

-- a text from the first byte on goes over the first bytes
over_first : (out text : List ℕ) → length text ≤ length out → sets out 0 text ≡ over text out
over_first out text fits =
    let all : 0 + length text ≤ length out = omega arith in
    sets-eq text out 0 all ∙ ap (λ k. text ++ drop k out) (let z : 0 + length text ≡ length text = omega arith in z)

-- the room for what is wanted
room_for : {wanted one : Wanted} (out : List ℕ) → wanted ≡ one → wanted_room wanted ≤ length out → wanted_room one ≤ length out
room_for out e room = subst (λ (w : Wanted). wanted_room w ≤ length out) e room

module _ {text : List ℕ} {notes : Notes} where
  module _ (held : Holding text notes) where
    pub stops_for : IdsHeld text notes.stops notes.counts.stops
    stops_for = (stops_of held.0, held.1.stop_ids, held.1.stop_count, (let z : notes.counts.stops < 65536 = omega (arith, held.1.few_stops) in z))

    pub trips_for : IdsHeld text notes.trips notes.counts.trips
    trips_for = (trips_of held.0, held.1.trip_ids, held.1.trip_count, (let z : notes.counts.trips < 65536 = omega (arith, held.1.few_trips) in z))

    pub rows_fit : {wanted : Wanted} (out : List ℕ) → wanted ≡ Rows → wanted_room wanted ≤ length out
        → (notes.counts.rows ≤ most_rows) × (12 * notes.counts.rows ≤ length notes.rows) × (12 * notes.counts.rows ≤ length out)
    rows_fit out e lent =
        let few = held.1.few_rows in
        let room = room_for out e lent in
        (few, (let z : 12 * notes.counts.rows ≤ length notes.rows = omega (arith, held.1.room.rows_length) in z), (let z : 12 * notes.counts.rows ≤ length out = omega arith in z))

    pub stops_fit : {wanted : Wanted} (out : List ℕ) → wanted ≡ Names → wanted_room wanted ≤ length out → 0 + line_room * notes.counts.stops ≤ length out
    stops_fit out e lent = omega (arith, held.1.few_stops, room_for out e lent)

    -- behind the stops there is room for the trips
    pub trips_fit : {wanted : Wanted} (out after : List ℕ) (next : ℕ) → wanted ≡ Names → wanted_room wanted ≤ length out → IdsPut text notes.stops notes.counts.stops stop_word out 0 after next
        → length after ≡ length out → next + line_room * notes.counts.trips ≤ length after
    trips_fit out after next e lent put same =
        let room = room_for out e lent in
        let back = held.0 in
        let known = held.1 in
        let line = put (stops_of back) known.stop_ids known.stop_count in
        omega (arith, line.ends, lines_short stop_word (stops_of back) (omega arith) known.stop_ids.short, known.stop_count, known.few_stops, known.few_trips, same)

  pub rows_put : {wanted : Wanted} (out after : List ℕ) → wanted ≡ Rows → after ≡ over (rows_bytes (in_order (rows_from 12 notes.rows 0 notes.counts.rows))) out
      → WantedPut wanted text notes out after (12 * notes.counts.rows)
  unfolding written_of
  rows_put {wanted} out after e put =
      subst⁻¹ (λ (w : Wanted). WantedPut w text notes out after (12 * notes.counts.rows)) e λ back held. (
        put ∙ ap (λ (l : List Row). over (rows_bytes (in_order l)) out) (rows_held back notes held),
        (let z : 12 * notes.counts.rows ≡ length (rows_bytes (in_order (rows_of back))) =
            omega (arith, rows_size (in_order (rows_of back)), in_order_length (rows_of back), held.row_count) in z),
      )

  pub names_put : {wanted : Wanted} (out middle after : List ℕ) (next bytes : ℕ) → wanted ≡ Names → wanted_room wanted ≤ length out → IdsPut text notes.stops notes.counts.stops stop_word out 0 middle next
      → IdsPut text notes.trips notes.counts.trips trip_word middle next after bytes → WantedPut wanted text notes out after bytes
  unfolding written_of names_text
  names_put {wanted} out middle after next bytes e lent first second =
      let room = room_for out e lent in
      subst⁻¹ (λ (w : Wanted). WantedPut w text notes out after bytes) e λ back held.
      let whole = put_then (first (stops_of back) held.stop_ids held.stop_count) (second (trips_of back) held.trip_ids held.trip_count) in
      let all = id_lines stop_word (stops_of back) ++ id_lines trip_word (trips_of back) in (
        whole.says ∙ over_first out all
            (let z : length all ≤ length out =
            omega (
              arith,
              length-append (id_lines stop_word (stops_of back)) (id_lines trip_word (trips_of back)),
              lines_short stop_word (stops_of back) (omega arith) held.stop_ids.short,
              lines_short trip_word (trips_of back) (omega arith) held.trip_ids.short,
              held.stop_count,
              held.trip_count,
              held.few_stops,
              held.few_trips,
            ) in z),
        (let z : bytes ≡ length all = omega (arith, whole.ends) in z),
      )
