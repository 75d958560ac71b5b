-- The field of a wanted column: kept once it is met, and no field where the line ends before it. Assumes nothing.
use Prim.Native.Nat.{ℕ, zero, suc, ◌-◌, ◌≤◌, ◌<◌}
use mathlib.Core.List.{List, [], ◌∷◌}
use mathlib.Core.Path.{◌≡◌, refl, ap, subst⁻¹, ◌∙◌}
use native.Mathlib.Omega.{arith}
use lib.Dec.{eqb}
use lib.ListN.{length, get_or}
use lib.Seq.{slice}
use borrow.Author.Tests.{eqb-true, eqb-false, eq-eqb, ne_eqb}
use Rattle.std.specs.Prelude.{Option, Some, None}
use Rattle.laws.proofs.Tests.{ifb, cond_true, cond_false}
use Rattle.gtfs_lines.specs.declared.Span.{Span}
use Rattle.gtfs_lines.specs.Lines.{fields_of, field_of}
use Rattle.gtfs_lines.specs.Cut.{no_span, kept, FieldCut}

-- the span's bytes are the field
record Spans (text field : List ℕ) (span : Span) : Type 0 where
  rises : span.from ≤ span.to
  inside : span.to ≤ length text
  says : slice span.from span.to text ≡ field

-- what `new` is, if `old` was kept ahead of the fields, the first of which is that of `column`
pub record Kept (text : List ℕ) (fields : List (List ℕ)) (wanted column : ℕ) (old new : Span) : Type 0 where
  passed : wanted < column → new ≡ old
  comes : column ≤ wanted → old ≡ no_span → Spans text (get_or fields (wanted - column) []) new

no_field : (text : List ℕ) → Spans text [] no_span
no_field text = record { rises = omega arith; inside = omega arith; says = refl }

module _ (text : List ℕ) (wanted column : ℕ) (old span : Span) (rises : span.from ≤ span.to) (inside : span.to ≤ length text) where
  other : (wanted ≡ column → ⊥) → kept (Some wanted) column old span ≡ old
  other differ = cond_false span old (ne_eqb wanted column differ)

  here : wanted ≡ column → kept (Some wanted) column old span ≡ span
  here same = cond_true span old (eq-eqb wanted column same)

  -- the last field of a line
  pub kept_last : Kept text (slice span.from span.to text ∷ []) wanted column old (kept (Some wanted) column old span)
  kept_last =
      record {
        passed = λ less. other (λ e. omega (arith, e));
        comes = λ reached none.
            ifb (λ _. Spans text (get_or (slice span.from span.to text ∷ []) (wanted - column) []) (kept (Some wanted) column old span))
            (eqb wanted column)
            (λ same. this (eqb-true wanted column same)) (λ differ. later (eqb-false wanted column differ) reached none);
      }
    where
      this : wanted ≡ column → Spans text (get_or (slice span.from span.to text ∷ []) (wanted - column) []) (kept (Some wanted) column old span)
      this e =
          let first : wanted - column ≡ 0 = omega (arith, e) in
          rw first (subst⁻¹ (Spans text (slice span.from span.to text)) (here e) (record { rises = rises; inside = inside; says = refl }))

      later : (wanted ≡ column → ⊥) → column ≤ wanted → old ≡ no_span
          → Spans text (get_or (slice span.from span.to text ∷ []) (wanted - column) []) (kept (Some wanted) column old span)
      later differ reached none =
          let past : wanted - column ≡ suc (wanted - suc column) = omega (arith, differ) in
          rw past (subst⁻¹ (Spans text []) (other differ ∙ none) (no_field text))

  -- a field, and others behind it
  pub kept_more : {more : List (List ℕ)} {new : Span} → Kept text more wanted (suc column) (kept (Some wanted) column old span) new
      → Kept text (slice span.from span.to text ∷ more) wanted column old new
  kept_more {more} {new} further =
      record {
        passed = λ less. further.passed (omega arith) ∙ other (λ e. omega (arith, e));
        comes = λ reached none.
            ifb (λ _. Spans text (get_or (slice span.from span.to text ∷ more) (wanted - column) []) new) (eqb wanted column)
            (λ same. this (eqb-true wanted column same)) (λ differ. later (eqb-false wanted column differ) reached none);
      }
    where
      this : wanted ≡ column → Spans text (get_or (slice span.from span.to text ∷ more) (wanted - column) []) new
      this e =
          let first : wanted - column ≡ 0 = omega (arith, e) in
          rw first
          (subst⁻¹ (Spans text (slice span.from span.to text)) (further.passed (omega (arith, e)) ∙ here e)
          (record { rises = rises; inside = inside; says = refl }))

      later : (wanted ≡ column → ⊥) → column ≤ wanted → old ≡ no_span
          → Spans text (get_or (slice span.from span.to text ∷ more) (wanted - column) []) new
      later differ reached none =
          let past : wanted - column ≡ suc (wanted - suc column) = omega (arith, differ) in
          rw past (further.comes (omega (arith, differ)) (other differ ∙ none))

-- the same of a column that may be none: no field is kept for it
abbrev pub KeptFor : (text : List ℕ) (fields : List (List ℕ)) (wanted : Option ℕ) (column : ℕ) (old new : Span) → Type 0
KeptFor text fields None column old new = new ≡ old
KeptFor text fields (Some wanted) column old new = Kept text fields wanted column old new

pub last_for : (text : List ℕ) (wanted : Option ℕ) (column : ℕ) (old span : Span) → span.from ≤ span.to → span.to ≤ length text
    → KeptFor text (slice span.from span.to text ∷ []) wanted column old (kept wanted column old span)
last_for text None column old span rises inside = refl
last_for text (Some wanted) column old span rises inside = kept_last text wanted column old span rises inside

pub more_for : (text : List ℕ) (wanted : Option ℕ) (column : ℕ) (old span : Span) → span.from ≤ span.to → span.to ≤ length text
    → (more : List (List ℕ)) (new : Span) → KeptFor text more wanted (suc column) (kept wanted column old span) new
    → KeptFor text (slice span.from span.to text ∷ more) wanted column old new
more_for text None column old span rises inside more new further = further
more_for text (Some wanted) column old span rises inside more new further = kept_more text wanted column old span rises inside further

-- from the first field on, with none kept ahead of it
pub field_cut : (text line : List ℕ) (wanted : Option ℕ) (span : Span) → KeptFor text (fields_of line) wanted 1 no_span span
    → FieldCut text line wanted span
unfolding field_of
field_cut text line None span k =
    subst⁻¹ (FieldCut text line None) k (record { rises = omega arith; inside = omega arith; says = refl })
field_cut text line (Some zero) span k =
    subst⁻¹ (FieldCut text line (Some 0)) (k.passed (omega arith)) (record { rises = omega arith; inside = omega arith; says = refl })
field_cut text line (Some (suc column)) span k =
    let found = k.comes (omega arith) refl in
    let one_less : suc column - 1 ≡ column = omega arith in
    record { rises = found.rises; inside = found.inside; says = found.says ∙ ap (λ n. get_or (fields_of line) n []) one_less }
