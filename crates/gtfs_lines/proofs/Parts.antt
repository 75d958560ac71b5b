-- A text cut at a separator: its parts hold none, and joined again they are the text. Assumes nothing.
use Prim.Native.Nat.{ℕ, ◌<◌}
use mathlib.Core.Bool.{Bool, false, cond}
use mathlib.Core.List.Memᴰ
use mathlib.Core.List.{List, [], ◌∷◌, ◌++◌, Memᴰ}
use mathlib.Core.Path.{◌≡◌, refl, sym, ap, subst⁻¹, ◌∙◌}
use native.Mathlib.Omega.{arith}
use lib.Dec.{eqb}
use lib.ListN.{length}
use borrow.Author.Tests.{eqb-true, eq-eqb}
use Rattle.laws.proofs.Tests.{ifb, cond_true, cond_false}
use Rattle.laws.proofs.Members.{head_or_later}
use Rattle.gtfs_lines.specs.Lines.{on_first, parts}
use Rattle.gtfs_lines.specs.Joined.{Without, joined}

-- a byte ahead of the first part is one ahead of the text
join_first : (separator byte : ℕ) (ps : List (List ℕ)) → joined separator (on_first byte ps) ≡ byte ∷ joined separator ps
unfolding joined on_first
join_first separator byte [] = refl
join_first separator byte (last ∷ []) = refl
join_first separator byte (part ∷ next ∷ more) = refl

join_next : (separator : ℕ) (ps : List (List ℕ)) → 0 < length ps → joined separator ([] ∷ ps) ≡ separator ∷ joined separator ps
unfolding joined
join_next separator [] some = absurd (let z : ⊥ = omega arith in z)
join_next separator (part ∷ more) some = refl

-- none of the parts holds a separator
abbrev EachWithout : (separator : ℕ) → List (List ℕ) → Type 0
EachWithout separator [] = Unit {0}
EachWithout separator (part ∷ more) = Without separator part × EachWithout separator more

each_first : (separator byte : ℕ) → eqb byte separator ≡ false → (ps : List (List ℕ))
    → EachWithout separator ps → EachWithout separator (on_first byte ps)
unfolding on_first
each_first separator byte other [] none = ((other, tt), tt)
each_first separator byte other (part ∷ more) none = ((other, none.0), none.1)

each_member : (separator : ℕ) (ps : List (List ℕ)) → EachWithout separator ps → {part : List ℕ} → Memᴰ part ps → Without separator part
each_member separator [] none m = absurd (Memᴰ.not-nil m)
each_member separator (part ∷ more) none {part = wanted} m =
    head_or_later (Without separator wanted) m (λ e. subst⁻¹ (Without separator) e none.0) (λ later. each_member separator more none.1 later)

module _ (separator : ℕ) where
  -- one step of cutting
  pub cut_here : (text : List ℕ) → parts separator (separator ∷ text) ≡ [] ∷ parts separator text
  unfolding parts
  cut_here text = cond_true ([] ∷ parts separator text) (on_first separator (parts separator text)) (eq-eqb separator separator refl)

  pub cut_later : (byte : ℕ) (text : List ℕ) → eqb byte separator ≡ false
      → parts separator (byte ∷ text) ≡ on_first byte (parts separator text)
  unfolding parts
  cut_later byte text other = cond_false ([] ∷ parts separator text) (on_first byte (parts separator text)) other

  -- a text that holds none is one part
  pub one_part : (text : List ℕ) → Without separator text → parts separator text ≡ text ∷ []
  unfolding parts on_first
  one_part [] none = refl
  one_part (byte ∷ text) none = cut_later byte text none.0 ∙ ap (on_first byte) (one_part text none.1)

  -- what stands ahead of the first separator is the first part
  pub first_part : (front rest : List ℕ) → Without separator front
      → parts separator (front ++ separator ∷ rest) ≡ front ∷ parts separator rest
  unfolding on_first
  first_part [] rest none = cut_here rest
  first_part (byte ∷ front) rest none =
      cut_later byte (front ++ separator ∷ rest) none.0 ∙ ap (on_first byte) (first_part front rest none.1)

  -- a text has a first part, and others from its first separator on
  pub data Ahead : List ℕ → Type 0 where
    whole : {text : List ℕ} → Without separator text → Ahead text
    cut : {text : List ℕ} (front rest : List ℕ) → Without separator front → text ≡ front ++ separator ∷ rest → Ahead text

  pub ahead : (text : List ℕ) → Ahead text
  ahead [] = whole tt
  ahead (byte ∷ text) =
      ifb (λ _. Ahead (byte ∷ text)) (eqb byte separator)
      (λ same. cut [] text tt (ap (λ b. b ∷ text) (eqb-true byte separator same)))
      (λ other. longer other (ahead text))
    where
      longer : eqb byte separator ≡ false → Ahead text → Ahead (byte ∷ text)
      longer other (whole none) = whole {text = byte ∷ text} (other, none)
      longer other (cut front rest none e) = cut (byte ∷ front) rest (other, none) (ap (λ t. byte ∷ t) e)

  -- there is always one
  pub some_part : (text : List ℕ) → 0 < length (parts separator text)
  some_part text = by_first (ahead text)
    where
      by_first : Ahead text → 0 < length (parts separator text)
      by_first (whole none) = rw (one_part text none) (omega arith)
      by_first (cut front rest none e) = rw (e, first_part front rest none) (omega arith)

  -- joined again, the parts are the text
  pub joined_again : (text : List ℕ) → joined separator (parts separator text) ≡ text
  unfolding joined parts
  joined_again [] = refl
  joined_again (byte ∷ text) =
      ifb (λ (_ : Bool). joined separator (parts separator (byte ∷ text)) ≡ byte ∷ text) (eqb byte separator)
      (λ same.
      let here : byte ≡ separator = eqb-true byte separator same in
      ap (joined separator) (ap (λ b. parts separator (b ∷ text)) here ∙ cut_here text)
      ∙ join_next separator (parts separator text) (some_part text) ∙ ap (λ t. separator ∷ t) (joined_again text) ∙ ap (λ b. b ∷ text) (sym here))
      (λ other.
      ap (joined separator) (cut_later byte text other) ∙ join_first separator byte (parts separator text)
      ∙ ap (λ t. byte ∷ t) (joined_again text))

  each_part : (text : List ℕ) → EachWithout separator (parts separator text)
  unfolding parts
  each_part [] = (tt, tt)
  each_part (byte ∷ text) =
      ifb (λ b. EachWithout separator (cond b ([] ∷ parts separator text) (on_first byte (parts separator text)))) (eqb byte separator)
      (λ same. (tt, each_part text)) (λ other. each_first separator byte other (parts separator text) (each_part text))

  pub no_separator : (text : List ℕ) {part : List ℕ} → Memᴰ part (parts separator text) → Without separator part
  no_separator text m = each_member separator (parts separator text) (each_part text) m
