-- Class blocks, one behind the other: where the k-th starts, and what a fine verdict tells of it. Assumes nothing.
use Prim.Native.Nat.{ℕ, zero, suc, ◌+◌, ◌*◌, ◌≤◌, ◌<◌}
use mathlib.Core.Bool.{true}
use mathlib.Core.List.{List, []}
use mathlib.Core.Path.{◌≡◌, refl, ap, ◌∙◌}
use native.Mathlib.Omega.{arith}
use lib.Dec.{leb, eqb}
use lib.ListN.{length, get_or}
use borrow.Author.Tests.{leb-true, eqb-true}
use Rattle.laws.proofs.Tests.{both_left, both_right}
use Rattle.timetable.specs.Verdict.{fine, or_else, unless}
use Rattle.timetable.specs.Classes.{sum, share_total, last_share, shares_rule}
use Rattle.timetable.proofs.Verdicts.{first_fine, second_fine, rule_holds}
use Rattle.file_layout.specs.declared.Format.{Format}
use Rattle.numbers.specs.Numbers.{u16_at}
use Rattle.file_layout.specs.Decode.{shares_from, table_at, block_end, tables_from, tables_end}
use Rattle.file_layout.specs.Check.{class_verdict, classes_verdict}
use Rattle.file_layout.specs.Sound.{block_at, ClassSound}

pub shares_length : (s : List ℕ) (at n : ℕ) → length (shares_from s at n) ≡ n
unfolding shares_from
shares_length s at zero = refl
shares_length s at (suc n) = ap suc (shares_length s (at + 2) n)

-- share v stands two bytes further on for each share ahead of it
pub share_at : (s : List ℕ) (at n v : ℕ) → v < n → get_or (shares_from s at n) v 0 ≡ u16_at s (at + 2 * v)
unfolding shares_from
share_at s at zero v h = absurd (let z : ⊥ = omega arith in z)
share_at s at (suc n) zero h = let here : at ≡ at + 2 * zero = omega arith in ap (u16_at s) here
share_at s at (suc n) (suc v) h =
    let further : at + 2 + 2 * v ≡ at + 2 * suc v = omega arith in
    share_at s (at + 2) n v (omega arith) ∙ ap (u16_at s) further

-- a class has M + 1 shares
pub table_has : (s : List ℕ) (at : ℕ) → length (table_at s at) ≡ suc (u16_at s at)
unfolding table_at
table_has s at = shares_length s (at + 2) (suc (u16_at s at))

pub shares_kept : (shares : List ℕ) → shares_rule shares ≡ true → (sum shares ≡ share_total) × (1 ≤ last_share shares)
unfolding shares_rule
shares_kept shares e = (
  eqb-true (sum shares) share_total (both_left (eqb (sum shares) share_total) (leb 1 (last_share shares)) e),
  leb-true 1 (last_share shares) (both_right (eqb (sum shares) share_total) (leb 1 (last_share shares)) e),
)

-- what a fine verdict on one class tells
pub class_gives : (f : Format) (s : List ℕ) (end k at : ℕ) → class_verdict f s end k at ≡ fine → ClassSound f s end at
unfolding class_verdict
class_gives f s end k at e =
    let shares = unless (shares_rule (table_at s at)) 3 k in
    let block = or_else (unless (leb (block_end s at) end) 2 0) shares in
    let delay = or_else (unless (leb (u16_at s at) f.delay) 3 k) block in
    let behind : delay ≡ fine = second_fine (unless (leb (at + 2) end) 2 0) delay e in
    let fits : block ≡ fine = second_fine (unless (leb (u16_at s at) f.delay) 3 k) block behind in
    let rule : shares ≡ fine = second_fine (unless (leb (block_end s at) end) 2 0) shares fits in
    let kept = shares_kept (table_at s at) (rule_holds (shares_rule (table_at s at)) 3 k rule) in
    record {
      delay_inside = leb-true (at + 2) end (rule_holds (leb (at + 2) end) 2 0 (first_fine (unless (leb (at + 2) end) 2 0) delay e));
      delay_small =
          leb-true (u16_at s at) f.delay
          (rule_holds (leb (u16_at s at) f.delay) 3 k (first_fine (unless (leb (u16_at s at) f.delay) 3 k) block behind));
      block_inside =
          leb-true (block_end s at) end
          (rule_holds (leb (block_end s at) end) 2 0 (first_fine (unless (leb (block_end s at) end) 2 0) shares fits));
      table_length = table_has s at;
      shares_whole = kept.0;
      last_counts = kept.1;
    }

-- class by class: each block is sound where it starts
pub classes_give : (f : Format) (s : List ℕ) (end k at left : ℕ) → classes_verdict f s end k at left ≡ fine
    → (j : ℕ) → j < left → ClassSound f s end (block_at s at j)
unfolding classes_verdict block_at
classes_give f s end k at zero e j h = absurd (let z : ⊥ = omega arith in z)
classes_give f s end k at (suc left) e zero h =
    class_gives f s end k at (first_fine (class_verdict f s end k at) (classes_verdict f s end (suc k) (block_end s at) left) e)
classes_give f s end k at (suc left) e (suc j) h =
    classes_give f s end (suc k) (block_end s at) left
    (second_fine (class_verdict f s end k at) (classes_verdict f s end (suc k) (block_end s at) left) e) j (omega arith)

-- the k-th table is read at the k-th block
pub table_of_block : (s : List ℕ) (at left k : ℕ) → k < left → get_or (tables_from s at left) k [] ≡ table_at s (block_at s at k)
unfolding tables_from block_at
table_of_block s at zero k h = absurd (let z : ⊥ = omega arith in z)
table_of_block s at (suc left) zero h = refl
table_of_block s at (suc left) (suc k) h = table_of_block s (block_end s at) left k (omega arith)

pub tables_length : (s : List ℕ) (at left : ℕ) → length (tables_from s at left) ≡ left
unfolding tables_from
tables_length s at zero = refl
tables_length s at (suc left) = ap suc (tables_length s (block_end s at) left)

-- a block starts where the one before it ends
pub next_block : (s : List ℕ) (at k : ℕ) → block_at s at (suc k) ≡ block_end s (block_at s at k)
unfolding block_at
next_block s at zero = refl
next_block s at (suc k) = next_block s (block_end s at) k

block_forward : (s : List ℕ) (at : ℕ) → at ≤ block_end s at
unfolding block_end
block_forward s at = omega arith

pub tables_forward : (s : List ℕ) (at k : ℕ) → at ≤ tables_end s at k
unfolding tables_end
tables_forward s at zero = omega arith
tables_forward s at (suc k) = omega (arith, block_forward s at, tables_forward s (block_end s at) k)
