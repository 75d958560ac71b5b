-- Texts written one behind the other are their one text. Assumes nothing.
use Prim.Native.Nat.{ℕ, suc, ◌+◌}
use mathlib.Core.List.{List, [], ◌∷◌, ◌++◌}
use mathlib.Core.Path.{◌≡◌, refl, sym, ap, ◌∙◌}
use native.Mathlib.Nat.{add-zero}
use native.Mathlib.Omega.{arith}
use lib.ListN.{length, set, length-append}
use lib.Seq.{sets, length-sets}
use Rattle.text.specs.Put.{Put}

sets_append : (a b out : List ℕ) (at : ℕ) → sets out at (a ++ b) ≡ sets (sets out at a) (at + length a) b
sets_append [] b out at = ap (λ k. sets out k b) (sym (add-zero at))
sets_append (x ∷ a) b out at =
    let on : suc at + length a ≡ at + suc (length a) = omega arith in
    sets_append a b (set out at x) (suc at) ∙ ap (λ k. sets (sets (set out at x) (suc at) a) k b) on

-- one text behind another
pub put_more : {out : List ℕ} {at : ℕ} {a between : List ℕ} {next : ℕ} → Put out at a between next
    → {b after : List ℕ} {last : ℕ} → Put between next b after last → Put out at (a ++ b) after last
put_more {out} {at} {a} {between} {next} p {b} {after} {last} p' =
    record {
      says =
          p'.says ∙ ap (λ k. sets between k b) p.ends
          ∙ ap (λ l. sets l (at + length a) b) p.says ∙ sym (sets_append a b out at);
      ends = omega (arith, p.ends, p'.ends, length-append a b);
    }

-- one character
pub put_one : (out : List ℕ) (at byte : ℕ) → Put out at (byte ∷ []) (set out at byte) (at + 1)
put_one out at byte = record { says = refl; ends = refl }

-- the same text, in other words
pub put_as : {out : List ℕ} {at : ℕ} {a b after : List ℕ} {next : ℕ} → a ≡ b → Put out at a after next → Put out at b after next
put_as e p = rw e at p

-- the bytes are as many as before
pub put_length : {out : List ℕ} {at : ℕ} {text after : List ℕ} {next : ℕ} → Put out at text after next → length after ≡ length out
put_length {out} {at} {text} p = ap length p.says ∙ length-sets out at text

-- what is still to be written from `next` on makes the whole of it
pub record Left (out : List ℕ) (at : ℕ) (whole between : List ℕ) (next : ℕ) (rest : List ℕ) : Type 0 where
  pub says : sets between next rest ≡ sets out at whole
  pub ends : next + length rest ≡ at + length whole

pub left_all : (out : List ℕ) (at : ℕ) (whole : List ℕ) → Left out at whole out at whole
left_all out at whole = record { says = refl; ends = refl }

-- the next of it is written
pub left_on : {out : List ℕ} {at : ℕ} {whole between : List ℕ} {next : ℕ} (a b : List ℕ) → Left out at whole between next (a ++ b)
    → {after : List ℕ} {last : ℕ} → Put between next a after last → Left out at whole after last b
left_on {between = between} {next} a b l {after} {last} p =
    record {
      says =
          ap (λ k. sets after k b) p.ends ∙ ap (λ x. sets x (next + length a) b) p.says
          ∙ sym (sets_append a b between next) ∙ l.says;
      ends = omega (arith, p.ends, l.ends, length-append a b);
    }

-- nothing is left
pub left_none : {out : List ℕ} {at : ℕ} {whole between : List ℕ} {next : ℕ} → Left out at whole between next []
    → Put out at whole between next
left_none {next = next} l = record { says = l.says; ends = sym (add-zero next) ∙ l.ends }
