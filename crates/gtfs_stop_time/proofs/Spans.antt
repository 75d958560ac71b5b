-- A field is as long as its span, so that the spans tell whether a line's fields are filled. Assumes nothing.
use Prim.Native.Nat.{ℕ, ◌+◌, ◌-◌, ◌≤◌}
use mathlib.Core.Bool.{Bool, true, false, cond, ◌&&◌}
use mathlib.Core.List.{List}
use mathlib.Core.Path.{◌≡◌, refl, ap, sym, ◌∙◌}
use native.Mathlib.Omega.{arith}
use lib.Dec.{leb, ltb}
use lib.ListN.{length, take, get_or}
use lib.Seq.{slice, get_or-drop, get_or-take, length-slice}
use borrow.Author.Tests.{leb-true}
use Rattle.std.specs.Prelude.{Some, None}
use Rattle.laws.proofs.Tests.{both_right}
use Rattle.numbers.specs.Bytes.{Bytes}
use Rattle.timetable.specs.Verdict.{fine, fault, or_else, unless}
use Rattle.gtfs_lines.specs.declared.Span.{Span}
use Rattle.gtfs_lines.specs.declared.Fields.{Fields}
use Rattle.gtfs_ids.specs.Ids.{id_rule, longest_id}
use Rattle.gtfs_stop_time.specs.StopTime.{is_filled}
use Rattle.gtfs_stop_time.specs.Faults.{filled_verdict}
use Rattle.gtfs_ids.specs.Book.{LiesAt}
use Rattle.gtfs_stop_time.specs.Said.{Inside, AllInside, text_at, texts_at, span_id, span_filled, unfilled_column, in_column}

module _ (text : List ℕ) (span : Span) (inside : Inside (length text) span) where
  pub span_length : length (text_at text span) ≡ span.to - span.from
  span_length = length-slice span.from span.to text inside.ends

  -- its bytes lie from its start on
  pub lies_there : LiesAt text span.from (text_at text span)
  lies_there =
      let ends : span.from + length (text_at text span) ≡ span.to = omega (arith, span_length, inside.rises) in
      record { inside = (let z : span.from + length (text_at text span) ≤ length text = omega (arith, inside.ends) in z); says = ap (λ k. slice span.from k text) ends }

  pub bytes_there : Bytes text → Bytes (text_at text span)
  bytes_there bytes =
      record {
        byte = λ i h.
            let rises = inside.rises in
            let ends = inside.ends in
            let size = span_length in
            let taken : get_or (take span.to text) (span.from + i) 0 ≡ get_or text (span.from + i) 0 =
            get_or-take span.to text (span.from + i) 0 (omega arith) in
            omega (arith, get_or-drop span.from (take span.to text) i 0, taken, bytes.byte (span.from + i) (omega arith));
      }

  pub id_there : id_rule (text_at text span) ≡ span_id span
  unfolding id_rule
  id_there = ap (λ size. leb 1 size && leb size longest_id) span_length

  pub filled_there : is_filled (text_at text span) ≡ span_filled span
  unfolding is_filled
  filled_there = ap (λ size. ltb 0 size) span_length

-- the first fault of five rules is in the column of the first that is broken
first_column : (trip arrival departure stop sequence : Bool)
    → or_else (unless trip 11 1)
    (or_else (unless arrival 11 2) (or_else (unless departure 11 3) (or_else (unless stop 11 4) (unless sequence 11 5))))
    ≡ in_column 11 (cond trip (cond arrival (cond departure (cond stop (cond sequence None (Some 5)) (Some 4)) (Some 3)) (Some 2)) (Some 1))
first_column false arrival departure stop sequence = refl
first_column true false departure stop sequence = refl
first_column true true false stop sequence = refl
first_column true true true false sequence = refl
first_column true true true true false = refl
first_column true true true true true = refl

pub filled_verdict_lem : (text : List ℕ) (fields : Fields) → AllInside (length text) fields
    → filled_verdict (texts_at text fields) ≡ in_column 11 (unfilled_column fields)
unfolding filled_verdict unfilled_column
filled_verdict_lem text fields inside =
    rw (
      id_there text fields.trip inside.trip,
      filled_there text fields.arrival inside.arrival,
      filled_there text fields.departure inside.departure,
      id_there text fields.stop inside.stop,
      filled_there text fields.sequence inside.sequence,
    )
    (first_column (span_id fields.trip) (span_filled fields.arrival) (span_filled fields.departure) (span_id fields.stop)
    (span_filled fields.sequence))

-- a column that was told is the fault's
module _ (text : List ℕ) (fields : Fields) (inside : AllInside (length text) fields) where
  pub unfilled_fault : {column : ℕ} → Some column ≡ unfilled_column fields → filled_verdict (texts_at text fields) ≡ fault 11 column
  unfilled_fault told = filled_verdict_lem text fields inside ∙ ap (in_column 11) (sym told)

  pub filled_fine : None ≡ unfilled_column fields → filled_verdict (texts_at text fields) ≡ fine
  filled_fine told = filled_verdict_lem text fields inside ∙ ap (in_column 11) (sym told)

-- an id that lies there is short
pub short_there : (text : List ℕ) (span : Span) → Inside (length text) span → id_rule (text_at text span) ≡ true
    → length (text_at text span) ≤ longest_id
unfolding id_rule
short_there text span inside e =
    let size = length (text_at text span) in
    leb-true size longest_id (both_right (leb 1 size) (leb size longest_id) e)
