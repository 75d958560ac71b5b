-- What a line comes to: its fault, or the notes with its call and where the next line starts. Assumes nothing.
use Prim.Native.Nat.{ℕ, ◌<◌}
use mathlib.Core.Bool.{not}
use mathlib.Core.List.{List, ◌∷◌}
use mathlib.Core.Path.{◌≡◌, sym, ap, subst, ◌∙◌}
use native.Mathlib.Omega.{arith}
use mir.Val.{Fits}
use mir.Syntax.{w8}
use lib.ListN.{length, drop, get_or}
use Rattle.std.specs.Prelude.{None, Ok}
use Rattle.timetable.specs.Verdict.{fine, fault, or_else, unless}
use Rattle.gtfs_lines.specs.declared.Fields.{Fields}
use Rattle.gtfs_lines.specs.Cut.{first_line, cut, cut_at, LineCut}
use Rattle.gtfs_lines.proofs.LineCuts.{line_cut, line_quoted}
use Rattle.gtfs_stop_time.specs.StopTime.{StopTime, FieldTexts, texts_on, stop_time_of}
use Rattle.gtfs_stop_time.specs.Faults.{own_verdict}
use Rattle.gtfs_stop_time.specs.Said.{texts_at, AllInside, Says, said_of}
use Rattle.gtfs_stop_time.specs.declared.Call.{Call}
use Rattle.gtfs_stop_time.proofs.Told.{said_call}
use Rattle.gtfs_stop_times.specs.declared.Notes.{Notes}
use Rattle.gtfs_stop_times.specs.declared.Service.{Service}
use Rattle.gtfs_calls.specs.Faults.{line_verdict, next_verdict}
use Rattle.gtfs_stop_times.specs.Held.{Held}
use Rattle.gtfs_stop_times.specs.Steps.{LineSound}

module _ (text : List ℕ) (at : ℕ) (service : Service) (inside : at < length text) where
  abbrev line : List ℕ
  line = first_line (drop at text)

  -- a quote mark
  pub line_refused : (back : List StopTime) → cut_at text service.columns at ≡ None
      → line_verdict service.columns service.start back line ≡ fault 11 0
  unfolding line_verdict
  line_refused back e =
      ap (λ q. or_else (unless (not q) 11 0) (or_else (own_verdict service.start (texts_on service.columns line))
      (next_verdict back (stop_time_of service.start (texts_on service.columns line)))))
      (line_quoted text service.columns at inside e)

  module _ (fields : Fields) (next : ℕ) (lies : cut_at text service.columns at ≡ cut fields next) where
    line_lies : LineCut text service.columns at fields next
    line_lies = line_cut text service.columns at fields next inside lies

    pub fields_inside : AllInside (length text) fields
    fields_inside =
        let lies = line_lies in
        record {
          trip = record { rises = lies.trip.rises; ends = lies.trip.inside };
          arrival = record { rises = lies.arrival.rises; ends = lies.arrival.inside };
          departure = record { rises = lies.departure.rises; ends = lies.departure.inside };
          stop = record { rises = lies.stop.rises; ends = lies.stop.inside };
          sequence = record { rises = lies.sequence.rises; ends = lies.sequence.inside };
        }

    -- the fields' bytes are those of the line's columns
    same_texts : texts_at text fields ≡ texts_on service.columns line
    unfolding texts_on
    same_texts =
        let lies = line_lies in
        cc (lies.trip.says, lies.arrival.says, lies.departure.says, lies.stop.says, lies.sequence.says)

    -- the verdict without a quote mark, by the fields' bytes
    verdict_unquoted : (back : List StopTime)
        → line_verdict service.columns service.start back line
        ≡ or_else (own_verdict service.start (texts_at text fields)) (next_verdict back (stop_time_of service.start (texts_at text fields)))
    unfolding line_verdict
    verdict_unquoted back =
        ap (λ q. or_else (unless (not q) 11 0) (or_else (own_verdict service.start (texts_on service.columns line))
        (next_verdict back (stop_time_of service.start (texts_on service.columns line)))))
        line_lies.unquoted
        ∙ ap (λ (t : FieldTexts). or_else (own_verdict service.start t) (next_verdict back (stop_time_of service.start t))) (sym same_texts)

    -- what the fields say
    pub line_says : {call : Call} → said_of service.start text fields ≡ Ok call → ((i : ℕ) → Fits w8 (get_or text i 0))
        → (own_verdict service.start (texts_at text fields) ≡ fine) × Says text call (stop_time_of service.start (texts_at text fields))
    line_says e bytes = said_call service.start text fields e (record { byte = λ i h. omega (arith, bytes i) }) fields_inside

    -- a fault of the fields by themselves
    pub own_refused : (back : List StopTime) (number column : ℕ) → own_verdict service.start (texts_at text fields) ≡ fault number column
        → line_verdict service.columns service.start back line ≡ fault number column
    own_refused back number column e =
        verdict_unquoted back ∙ ap (λ v. or_else v (next_verdict back (stop_time_of service.start (texts_at text fields)))) e

    module _ (own : own_verdict service.start (texts_at text fields) ≡ fine) (back : List StopTime) where
      -- behind the calls read so far the call decides
      pub next_decides : line_verdict service.columns service.start back line ≡ next_verdict back (stop_time_of service.start (texts_at text fields))
      next_decides = verdict_unquoted back ∙ ap (λ v. or_else v (next_verdict back (stop_time_of service.start (texts_at text fields)))) own

      -- a call more
      pub next_read : (notes : Notes) → next_verdict back (stop_time_of service.start (texts_at text fields)) ≡ fine
          → Held text (stop_time_of service.start (texts_at text fields) ∷ back) notes → LineSound text at service back next notes
      next_read notes e held =
          let lies = line_lies in
          record {
            sound = next_decides ∙ e;
            onward = lies.onward;
            inside = lies.inside;
            behind = lies.behind;
            held = subst (λ (t : FieldTexts). Held text (stop_time_of service.start t ∷ back) notes) same_texts held;
          }
