-- The column that a header has of a name: its first, and none where no field is the name. Assumes nothing.
use Prim.Native.Nat.{ℕ, zero, suc, ◌+◌, ◌≤◌, ◌<◌}
use mathlib.Core.Bool.{false, cond, false≢true}
use mathlib.Core.List.{List, [], ◌∷◌}
use mathlib.Core.Path.{◌≡◌, refl, sym, ap, ◌∙◌}
use native.Mathlib.Omega.{arith}
use lib.ListN.{length, get_or}
use Rattle.std.specs.Prelude.{Option, Some, None}
use Rattle.laws.proofs.Tests.{ifb}
use Rattle.text.specs.Same.{same_bytes}
use Rattle.gtfs_lines.specs.Columns.{column_from, column_of}
use Rattle.gtfs_lines.specs.Lines.{fields_of, field_of}
use Rattle.text.proofs.Same.{same_equal, equal_same}

-- no field is the name, or the first that is stands behind `before` others
data Search (name : List ℕ) (fields : List (List ℕ)) (column : ℕ) (told : Option ℕ) : Type 0 where
  none : told ≡ None → ((j : ℕ) → j < length fields → get_or fields j [] ≡ name → ⊥) → Search name fields column told
  first : (before : ℕ) → told ≡ Some (column + before) → before < length fields → get_or fields before [] ≡ name
      → ((j : ℕ) → j < before → get_or fields j [] ≡ name → ⊥) → Search name fields column told

search_from : (name : List ℕ) (fields : List (List ℕ)) (column : ℕ) → Search name fields column (column_from column name fields)
unfolding column_from
search_from name [] column = none refl (λ j inside is. omega arith)
search_from name (field ∷ fields) column =
    ifb (λ b. Search name (field ∷ fields) column (cond b (Some column) (column_from (suc column) name fields))) (same_bytes field name)
    (λ same. first 0 (ap Some (omega arith)) (omega arith) (same_equal field name same) (λ j less is. omega arith))
    (λ differ. further differ (search_from name fields (suc column)))
  where
    not_first : same_bytes field name ≡ false → field ≡ name → ⊥
    not_first differ e = false≢true (sym differ ∙ equal_same _ name e)

    later : same_bytes field name ≡ false → (n : ℕ) → ((j : ℕ) → j < n → get_or fields j [] ≡ name → ⊥)
        → (j : ℕ) → j < suc n → get_or (field ∷ fields) j [] ≡ name → ⊥
    later differ n others zero less is = not_first differ is
    later differ n others (suc j) less is = others j (omega arith) is

    further : same_bytes field name ≡ false → Search name fields (suc column) (column_from (suc column) name fields)
        → Search name (field ∷ fields) column (column_from (suc column) name fields)
    further differ (none e others) = none e (later differ (length fields) others)
    further differ (first before e inside is others) =
        first (suc before) (e ∙ ap Some (omega arith)) (omega arith) is (later differ before others)

-- a column that was told is not none, and is the one
told_first : {P : Type 0} {column : ℕ} {told : Option ℕ} → told ≡ Some column → told ≡ None → P
told_first e f = absurd (let z : ◌≡◌ {A = ℕ} 0 1 = cc in let y : ⊥ = omega arith in y)

told_one : {told : Option ℕ} (column other : ℕ) → told ≡ Some column → told ≡ Some other → column ≡ other
told_one column other e f = cc

module _ (name header : List ℕ) where
  searched : Search name (fields_of header) 1 (column_of name header)
  unfolding column_of
  searched = search_from name (fields_of header) 1

  field_behind : (j : ℕ) → field_of header (Some (suc j)) ≡ get_or (fields_of header) j []
  unfolding field_of
  field_behind j = refl

  module _ (column : ℕ) (told : column_of name header ≡ Some column) where
    behind : (before : ℕ) → column_of name header ≡ Some (1 + before) → column ≡ suc before
    behind before e = omega (arith, told_one column (1 + before) told e)

    -- the field of the column is the name
    pub column_named : field_of header (Some column) ≡ name
    column_named = by_search searched
      where
        by_search : Search name (fields_of header) 1 (column_of name header) → field_of header (Some column) ≡ name
        by_search (none e others) = told_first told e
        by_search (first before e inside is others) = ap (λ n. field_of header (Some n)) (behind before e) ∙ field_behind before ∙ is

    -- no field of a column before it is
    pub column_first : (other : ℕ) → 0 < other → other < column → field_of header (Some other) ≡ name → ⊥
    column_first zero some less is = omega arith
    column_first (suc j) some less is = by_search searched
      where
        by_search : Search name (fields_of header) 1 (column_of name header) → ⊥
        by_search (none e others) = told_first told e
        by_search (first before e inside this others) = others j (omega (arith, behind before e)) (sym (field_behind j) ∙ is)

    -- the header has that column
    pub column_inside : (0 < column) × (column ≤ length (fields_of header))
    column_inside = by_search searched
      where
        by_search : Search name (fields_of header) 1 (column_of name header) → (0 < column) × (column ≤ length (fields_of header))
        by_search (none e others) = told_first told e
        by_search (first before e inside is others) = (omega (arith, behind before e), omega (arith, behind before e))

  -- none says that no field is the name
  pub column_none : column_of name header ≡ None → (column : ℕ) → 0 < column → column ≤ length (fields_of header)
      → field_of header (Some column) ≡ name → ⊥
  column_none nought zero some inside is = omega arith
  column_none nought (suc j) some within is = by_search searched
    where
      by_search : Search name (fields_of header) 1 (column_of name header) → ⊥
      by_search (none e others) = others j (omega arith) (sym (field_behind j) ∙ is)
      by_search (first before e inside this others) = told_first e nought

  -- and is said of every header of which no field is
  pub none_column : ((column : ℕ) → 0 < column → column ≤ length (fields_of header) → field_of header (Some column) ≡ name → ⊥)
      → column_of name header ≡ None
  none_column no_field = by_search searched
    where
      by_search : Search name (fields_of header) 1 (column_of name header) → column_of name header ≡ None
      by_search (none e others) = e
      by_search (first before e inside is others) = absurd (no_field (suc before) (omega arith) (omega arith) (field_behind before ∙ is))
