-- The columns of a header, found one field at a time. Assumes nothing.
use Prim.Native.Nat.{ℕ, suc}
use mathlib.Core.Bool.{Bool, true, false, cond}
use mathlib.Core.List.{List, [], ◌∷◌}
use mathlib.Core.Path.{◌≡◌, refl, sym, subst}
use Rattle.std.specs.Prelude.{Option, Some, None}
use Rattle.std.specs.Bool.{then_some}
use Rattle.laws.proofs.Tests.{cond_true, cond_false}
use Rattle.text.specs.Same.{same_bytes}
use Rattle.gtfs_lines.specs.declared.Columns.{Columns}
use Rattle.gtfs_lines.specs.Columns.{column_from, column_of, columns_of, trip_name, arrival_name, departure_name, stop_name, sequence_name}
use Rattle.gtfs_lines.specs.Lines.{fields_of}
use Rattle.gtfs_lines.specs.Naming.{found, with_name}

same_columns : {a b c d e a' b' c' d' e' : Option ℕ} → a ≡ a' → b ≡ b' → c ≡ c' → d ≡ d' → e ≡ e'
    → ◌≡◌ {A = Columns} (record { trip = a; arrival = b; departure = c; stop = d; sequence = e })
    (record { trip = a'; arrival = b'; departure = c'; stop = d'; sequence = e' })
same_columns p q r s t = cc

module _ (field : List ℕ) (column : ℕ) (columns : Columns) where
  pub with_name_lem : {trip arrival departure stop sequence : Option ℕ}
      → trip ≡ found field trip_name column columns.trip
      → arrival ≡ found field arrival_name column columns.arrival
      → departure ≡ found field departure_name column columns.departure
      → stop ≡ found field stop_name column columns.stop
      → sequence ≡ found field sequence_name column columns.sequence
      → ◌≡◌ {A = Columns} (record { trip = trip; arrival = arrival; departure = departure; stop = stop; sequence = sequence })
      (with_name field column columns)
  unfolding with_name
  with_name_lem p q r s t = same_columns p q r s t

-- a name that was found before stays, and else this field is it or not
pub found_before : (field name : List ℕ) (column : ℕ) (before : Option ℕ) {there : ℕ} → before ≡ Some there
    → before ≡ found field name column before
unfolding found
found_before field name column before e = subst (λ b. b ≡ found field name column b) (sym e) refl

pub found_first : (field name : List ℕ) (column : ℕ) (before : Option ℕ) (same : Bool) → same_bytes field name ≡ same → before ≡ None
    → then_some same column ≡ found field name column before
unfolding found
found_first field name column before true is e =
    subst (λ b. Some column ≡ found field name column b) (sym e) (sym (cond_true (Some column) None is))
found_first field name column before false is e =
    subst (λ b. None ≡ found field name column b) (sym e) (sym (cond_false (Some column) None is))

-- what was found before, or else the first of the fields that is the name
abbrev pub found_in : (name : List ℕ) → (column : ℕ) → (before : Option ℕ) → List (List ℕ) → Option ℕ
found_in name column None fields = column_from column name fields
found_in name column (Some before) fields = Some before

found_none : (name : List ℕ) (column : ℕ) (before : Option ℕ) → found_in name column before [] ≡ before
unfolding column_from
found_none name column None = refl
found_none name column (Some before) = refl

found_next : (name : List ℕ) (column : ℕ) (before : Option ℕ) (field : List ℕ) (fields : List (List ℕ))
    → found_in name column before (field ∷ fields) ≡ found_in name (suc column) (found field name column before) fields
unfolding found column_from
found_next name column (Some before) field fields = refl
found_next name column None field fields = by_name (same_bytes field name)
  where
    by_name : (b : Bool) → cond b (Some column) (column_from (suc column) name fields)
        ≡ found_in name (suc column) (cond b (Some column) None) fields
    by_name true = refl
    by_name false = refl

-- the columns that were found before, and those of the fields from `column` on
unfoldable pub named_in : (column : ℕ) → Columns → List (List ℕ) → Columns
named_in column columns fields =
    record {
      trip = found_in trip_name column columns.trip fields;
      arrival = found_in arrival_name column columns.arrival fields;
      departure = found_in departure_name column columns.departure fields;
      stop = found_in stop_name column columns.stop fields;
      sequence = found_in sequence_name column columns.sequence fields;
    }

-- no column is found ahead of the first
abbrev pub no_columns : Columns
no_columns = record { trip = None; arrival = None; departure = None; stop = None; sequence = None }

pub named_all : (header : List ℕ)
    → columns_of header ≡ named_in 1 (no_columns) (fields_of header)
unfolding columns_of column_of named_in
named_all header = refl

module _ (column : ℕ) (columns : Columns) where
  pub named_none : named_in column columns [] ≡ columns
  unfolding named_in
  named_none =
      same_columns (found_none trip_name column columns.trip) (found_none arrival_name column columns.arrival)
      (found_none departure_name column columns.departure) (found_none stop_name column columns.stop)
      (found_none sequence_name column columns.sequence)

  pub named_next : (field : List ℕ) (fields : List (List ℕ))
      → named_in column columns (field ∷ fields) ≡ named_in (suc column) (with_name field column columns) fields
  unfolding named_in with_name
  named_next field fields =
      same_columns (found_next trip_name column columns.trip field fields)
      (found_next arrival_name column columns.arrival field fields)
      (found_next departure_name column columns.departure field fields) (found_next stop_name column columns.stop field fields)
      (found_next sequence_name column columns.sequence field fields)
