-- What a header that was read says of the text. Assumes nothing.
use Prim.Native.Nat.{ℕ, suc, ◌-◌}
use mathlib.Core.Bool.{Bool, true, false, cond}
use mathlib.Core.List.{List, []}
use mathlib.Core.Path.{◌≡◌, refl, sym, ap, ◌∙◌}
use native.Mathlib.Omega.{arith}
use lib.Dec.{leb}
use lib.ListN.{length, drop, length-drop, drop_of_length-le}
use lib.Seq.{drop-length}
use borrow.Author.Tests.{leb-true, leb-false}
use Rattle.laws.proofs.Tests.{ifb}
use Rattle.gtfs_lines.specs.declared.Columns.{Columns}
use Rattle.std.specs.Prelude.{Some, None}
use Rattle.gtfs_lines.specs.declared.Heading.{Heading}
use Rattle.gtfs_lines.specs.Columns.{columns_of}
use Rattle.gtfs_lines.specs.Lines.{has_quote}
use Rattle.gtfs_lines.specs.Cut.{named, ahead_of_feed, first_line, behind_line, header_of, HeaderCut}

-- what is left is found again by its length
drop_left : (text : List ℕ) (n : ℕ) → drop (length text - length (drop n text)) text ≡ drop n text
drop_left text n =
    ifb (λ (_ : Bool). drop (length text - length (drop n text)) text ≡ drop n text) (leb n (length text))
    (λ within.
    let same : length text - length (drop n text) ≡ n = omega (arith, length-drop n text, leb-true n (length text) within) in
    ap (λ k. drop k text) same)
    (λ past.
    let none : drop n text ≡ [] = drop_of_length-le text {i = n} (omega (arith, leb-false n (length text) past)) in
    let all : length text - length (drop n text) ≡ length text = omega (arith, ap length none) in
    ap (λ k. drop k text) all ∙ drop-length text ∙ sym none)

same_heading : {one other : Heading} → Some one ≡ Some other → one ≡ other
same_heading e = cc

named_columns : {columns columns' : Columns} {next next' : ℕ} → named columns next ≡ named columns' next' → columns ≡ columns'
named_columns e = ap (λ h. h.columns) (same_heading e)

named_next : {columns columns' : Columns} {next next' : ℕ} → named columns next ≡ named columns' next' → next ≡ next'
named_next e = ap (λ h. h.next) (same_heading e)

not_both : {P : Type 0} {columns : Columns} {next : ℕ} → None ≡ named columns next → P
not_both e = absurd (let z : ◌≡◌ {A = ℕ} 0 1 = cc in let y : ⊥ = omega arith in y)

-- a header that was read
pub header_cut : (text : List ℕ) (columns : Columns) (next : ℕ) → header_of text ≡ named columns next → HeaderCut text columns next
unfolding header_of behind_line
header_cut text columns next told = by_quote (has_quote (first_line text)) refl told
  where
    by_quote : (b : Bool) → has_quote (first_line text) ≡ b
        → cond b None (named (columns_of (first_line text)) (length text - length (behind_line text))) ≡ named columns next
        → HeaderCut text columns next
    by_quote true e named = not_both named
    by_quote false e named =
        let place : length text - length (behind_line text) ≡ next = named_next named in
        record {
          unquoted = e;
          named = sym (named_columns named);
          inside = omega (arith, place);
          behind = ap (λ n. drop n text) (sym place) ∙ drop_left text (suc (length (ahead_of_feed text)));
        }

-- a header that was refused
pub header_refused : (text : List ℕ) → header_of text ≡ None → has_quote (first_line text) ≡ true
unfolding header_of
header_refused text told = by_quote (has_quote (first_line text)) told
  where
    by_quote : (b : Bool) → cond b None (named (columns_of (first_line text)) (length text - length (behind_line text))) ≡ None → b ≡ true
    by_quote true quote = refl
    by_quote false named = not_both (sym named)
