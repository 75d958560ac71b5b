-- A line that was cut: its fields are those of the text's first line from there on, and the next one starts behind it. Assumes nothing.
use Prim.Native.Nat.{ℕ, suc, ◌≤◌, ◌<◌}
use mathlib.Core.Bool.{true, false}
use mathlib.Core.List.{List, [], ◌∷◌}
use mathlib.Core.Path.{◌≡◌, refl, sym, ap, subst, subst⁻¹, ◌∙◌}
use native.Mathlib.Nat.{le_trans}
use native.Mathlib.Omega.{arith}
use lib.ListN.{length, drop}
use lib.Seq.{slice}
use Rattle.gtfs_lines.specs.declared.Span.{Span}
use Rattle.gtfs_lines.specs.declared.Columns.{Columns}
use Rattle.gtfs_lines.specs.declared.Fields.{Fields}
use Rattle.std.specs.Prelude.{Option, Some, None}
use Rattle.gtfs_lines.specs.declared.Cut.{Cut}
use Rattle.gtfs_lines.specs.Lines.{fields_of, has_quote}
use Rattle.gtfs_lines.specs.Cut.{cut, first_line, behind_line, no_span, no_fields, kept, with_field, read_from, read_at, cut_of, cut_at, FieldCut, LineCut}
use Rattle.gtfs_lines.proofs.FieldWalk.{Walk, last, more, quoted, walk}
use Rattle.gtfs_lines.proofs.KeptFields.{KeptFor, last_for, more_for, field_cut}

not_quoted : {P : Type 0} {fields : Fields} {next : ℕ} → cut fields next ≡ None → P
not_quoted e = absurd (let z : ◌≡◌ {A = ℕ} 0 1 = cc in let y : ⊥ = omega arith in y)

same_cut : {one other : Cut} → Some one ≡ Some other → one ≡ other
same_cut e = cc

cut_fields : {fields fields' : Fields} {next next' : ℕ} → cut fields next ≡ cut fields' next' → fields ≡ fields'
cut_fields e = ap (λ c. c.fields) (same_cut e)

cut_next : {fields fields' : Fields} {next next' : ℕ} → cut fields next ≡ cut fields' next' → next ≡ next'
cut_next e = ap (λ c. c.next) (same_cut e)

-- the line from `from` on, and where the next one starts
record Onward (text : List ℕ) (from next : ℕ) : Type 0 where
  unquoted : has_quote (first_line (drop from text)) ≡ false
  least : from ≤ next
  onward : from < length text → from < next
  inside : next ≤ length text
  behind : drop next text ≡ behind_line (drop from text)

module _ (text : List ℕ) (columns : Columns) where
  -- a line is refused for a quote mark that it has
  quote_met : {from : ℕ} → Walk text from → (column : ℕ) (fields : Fields)
      → read_from cut_of (with_field columns) text column from from fields (drop from text) ≡ None → has_quote (first_line (drop from text)) ≡ true
  quote_met (last to next l) column fields e = not_quoted (sym (l.reads cut_of (with_field columns) column fields) ∙ e)
  quote_met {from} (more at n further) column fields e =
      let kept_so_far = with_field columns column (record { from = from; to = at }) fields in
      n.quotes ∙ quote_met further (suc column) kept_so_far (sym (n.reads cut_of (with_field columns) column fields) ∙ e)
  quote_met (quoted q) column fields e = q.quoted

  module _ (out : Fields) (end : ℕ) where
    line_met : {from : ℕ} → Walk text from → (column : ℕ) (fields : Fields)
        → read_from cut_of (with_field columns) text column from from fields (drop from text) ≡ cut out end → Onward text from end
    line_met {from} (last to next l) column fields e =
        subst (Onward text from) (cut_next (sym (l.reads cut_of (with_field columns) column fields) ∙ e))
        (record { unquoted = l.unquoted; least = le_trans l.rises l.ahead; onward = l.onward; inside = l.inside; behind = sym l.behind })
    line_met {from} (more at n further) column fields e =
        let kept_so_far = with_field columns column (record { from = from; to = at }) fields in
        let on = line_met further (suc column) kept_so_far (sym (n.reads cut_of (with_field columns) column fields) ∙ e) in
        record {
          unquoted = n.quotes ∙ on.unquoted;
          least = omega (arith, n.rises, on.least);
          onward = λ some. omega (arith, n.rises, on.least);
          inside = on.inside;
          behind = on.behind ∙ sym n.behind;
        }
    line_met (quoted q) column fields e = not_quoted (sym e ∙ q.reads cut_of (with_field columns) column fields)

    -- one of the five fields, by the part of `Fields` that it is
    module _ (part : Fields → Span) (wanted : Option ℕ)
        (keeps : (column : ℕ) (span : Span) (fields : Fields)
        → part (with_field columns column span fields) ≡ kept wanted column (part fields) span) where
      field_met : {from : ℕ} → Walk text from → (column : ℕ) (fields : Fields)
          → read_from cut_of (with_field columns) text column from from fields (drop from text) ≡ cut out end
          → KeptFor text (fields_of (first_line (drop from text))) wanted column (part fields) (part out)
      field_met {from} (last to next l) column fields e =
          let span : Span = record { from = from; to = to } in
          let ends : part out ≡ kept wanted column (part fields) span =
          ap part (sym (cut_fields (sym (l.reads cut_of (with_field columns) column fields) ∙ e))) ∙ keeps column span fields
          in
          subst⁻¹ (λ fs. KeptFor text fs wanted column (part fields) (part out)) l.fields
          (subst⁻¹ (KeptFor text (slice from to text ∷ []) wanted column (part fields)) ends
          (last_for text wanted column (part fields) span l.rises (le_trans l.ahead l.inside)))
      field_met {from} (more at n further) column fields e =
          let span : Span = record { from = from; to = at } in
          let on = field_met further (suc column) (with_field columns column span fields) (sym (n.reads cut_of (with_field columns) column fields) ∙ e) in
          let line = fields_of (first_line (drop (suc at) text)) in
          let behind = subst (λ old. KeptFor text line wanted (suc column) old (part out)) (keeps column span fields) on in
          subst⁻¹ (λ fs. KeptFor text fs wanted column (part fields) (part out)) n.fields
          (more_for text wanted column (part fields) span n.rises (omega (arith, n.inside)) line (part out) behind)
      field_met (quoted q) column fields e = not_quoted (sym e ∙ q.reads cut_of (with_field columns) column fields)

      pub field_of : (start : ℕ) → start ≤ length text → part no_fields ≡ no_span → cut_at text columns start ≡ cut out end
          → FieldCut text (first_line (drop start text)) wanted (part out)
      unfolding cut_at read_at
      field_of start starts none e =
          field_cut text (first_line (drop start text)) wanted (part out)
          (subst (λ old. KeptFor text (fields_of (first_line (drop start text))) wanted 1 old (part out)) none
          (field_met (walk text start starts) 1 no_fields e))

-- a line that was cut
pub line_cut : (text : List ℕ) (columns : Columns) (start : ℕ) (fields : Fields) (next : ℕ) → start < length text
    → cut_at text columns start ≡ cut fields next → LineCut text columns start fields next
unfolding cut_at read_at with_field
line_cut text columns start fields next some e =
    let starts : start ≤ length text = omega arith in
    let met = line_met text columns fields next (walk text start starts) 1 no_fields e in
    let field = field_of text columns fields next in
    record {
      unquoted = met.unquoted;
      onward = met.onward some;
      inside = met.inside;
      behind = met.behind;
      trip = field (λ f. f.trip) columns.trip (λ column span old. refl) start starts refl e;
      arrival = field (λ f. f.arrival) columns.arrival (λ column span old. refl) start starts refl e;
      departure = field (λ f. f.departure) columns.departure (λ column span old. refl) start starts refl e;
      stop = field (λ f. f.stop) columns.stop (λ column span old. refl) start starts refl e;
      sequence = field (λ f. f.sequence) columns.sequence (λ column span old. refl) start starts refl e;
    }

-- a line that was refused
pub line_quoted : (text : List ℕ) (columns : Columns) (start : ℕ) → start < length text
    → cut_at text columns start ≡ None → has_quote (first_line (drop start text)) ≡ true
unfolding cut_at read_at
line_quoted text columns start some e = quote_met text columns (walk text start (omega arith)) 1 no_fields e
