-- Line by line: what all lines come to is what those still to come come to, behind the calls read so far. Assumes nothing.
use Prim.Native.Nat.{ℕ, suc, ◌+◌, ◌≤◌, ◌<◌}
use mathlib.Core.List.{List, [], ◌∷◌}
use mathlib.Core.Path.{◌≡◌, refl, sym, ap, ◌∙◌}
use native.Mathlib.Omega.{arith}
use lib.ListN.{length, drop, length-drop, drop_of_length-le}
use Rattle.timetable.specs.Verdict.{fault, by_verdict}
use Rattle.gtfs_lines.specs.Lines.{lines_of}
use Rattle.gtfs_lines.specs.Cut.{first_line, behind_line}
use Rattle.gtfs_lines.proofs.TextLines.{lines_none, lines_first}
use Rattle.gtfs_stop_time.specs.StopTime.{StopTime, texts_on, stop_time_of}
use Rattle.gtfs_stop_times.specs.declared.Notes.{Notes}
use Rattle.gtfs_stop_times.specs.declared.Service.{Service}
use Rattle.gtfs_calls.specs.Faults.{line_verdict}
use Rattle.gtfs_calls.specs.Reading.{said, wrong, read_from}
use Rattle.gtfs_stop_times.specs.Held.{Held}
use Rattle.gtfs_stop_times.specs.Steps.{LineSound, read_behind}

-- the lines up to byte `at` are read: `behind` of them, and the notes hold their calls
pub record ReadTo (text : List ℕ) (begin : ℕ) (service : Service) (notes : Notes) (at behind : ℕ) : Type 0 where
  pub back : List StopTime
  pub held : Held text back notes
  pub same : read_behind text begin service ≡ read_from service.columns service.start back (behind + 2) (lines_of (drop at text))
  pub few : behind + 1 ≤ at
  pub inside : at ≤ length text

pub read_none : (text : List ℕ) (begin : ℕ) (service : Service) (notes : Notes)
    → 1 ≤ begin → begin ≤ length text → Held text [] notes → ReadTo text begin service notes begin 0
read_none text begin service notes some inside held =
    record { back = []; held = held; same = refl; few = omega arith; inside = inside }

module _ {text : List ℕ} {begin : ℕ} {service : Service} {notes : Notes} {at behind : ℕ} (known : ReadTo text begin service notes at behind)
  where
    -- one line, and the others
    line_of : at < length text
        → read_behind text begin service
        ≡ by_verdict (λ number column. wrong number (behind + 2) column)
        (read_from service.columns service.start
        (stop_time_of service.start (texts_on service.columns (first_line (drop at text))) ∷ known.back) (suc (behind + 2)) (lines_of (behind_line (drop at text))))
        (line_verdict service.columns service.start known.back (first_line (drop at text)))
    unfolding read_from
    line_of more =
        known.same
        ∙ ap (read_from service.columns service.start known.back (behind + 2))
        (lines_first (drop at text) (let z : 0 < length (drop at text) = omega (arith, length-drop at text) in z))

    module _ (more : at < length text) where
      -- the first fault
      pub lines_told : (number column : ℕ) → line_verdict service.columns service.start known.back (first_line (drop at text)) ≡ fault number column
          → read_behind text begin service ≡ wrong number (behind + 2) column
      lines_told number column verdict =
          line_of more ∙ ap (by_verdict (λ number column. wrong number (behind + 2) column)
          (read_from service.columns service.start
          (stop_time_of service.start (texts_on service.columns (first_line (drop at text))) ∷ known.back) (suc (behind + 2)) (lines_of (behind_line (drop at text)))))
          verdict

      -- one line more
      pub read_more_lines : {next : ℕ} {notes' : Notes} → LineSound text at service known.back next notes'
          → ReadTo text begin service notes' next (behind + 1)
      read_more_lines {next} line =
          let says = stop_time_of service.start (texts_on service.columns (first_line (drop at text))) in
          record {
            back = says ∷ known.back;
            held = line.held;
            same =
                line_of more
                ∙ ap (by_verdict (λ number column. wrong number (behind + 2) column)
                (read_from service.columns service.start (says ∷ known.back) (suc (behind + 2)) (lines_of (behind_line (drop at text))))) line.sound
                ∙ ap (λ k. read_from service.columns service.start (says ∷ known.back) k (lines_of (behind_line (drop at text))))
                (let z : suc (behind + 2) ≡ behind + 1 + 2 = omega arith in z)
                ∙ ap (λ l. read_from service.columns service.start (says ∷ known.back) (behind + 1 + 2) (lines_of l)) (sym line.behind);
            few = (let z : behind + 1 + 1 ≤ next = omega (arith, known.few, line.onward) in z);
            inside = line.inside;
          }

    -- no line is left
    pub lines_whole : length text ≤ at → (back : List StopTime) × (read_behind text begin service ≡ said back) × Held text back notes
    unfolding read_from
    lines_whole ended = (
      known.back,
      known.same ∙ ap (λ l. read_from service.columns service.start known.back (behind + 2) (lines_of l)) (drop_of_length-le text ended)
          ∙ ap (read_from service.columns service.start known.back (behind + 2)) lines_none,
      known.held,
    )
