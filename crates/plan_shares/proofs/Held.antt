-- Class by class: a block more is held, and those read before stay. Assumes nothing.
use Prim.Native.Nat.{ℕ, suc, ◌+◌, ◌≤◌, ◌<◌}
use mathlib.Core.List.{List}
use mathlib.Core.Logic.{◌⊎◌, inl, inr}
use mathlib.Core.Path.{◌≡◌, refl, sym, ap, subst, ◌∙◌}
use native.Mathlib.Nat.{eq-or-lt_of_le}
use native.Mathlib.Omega.{arith}
use lib.ListN.{length}
use Rattle.timetable.specs.Timetable.{shares_of}
use Rattle.file_layout.specs.Decode.{table_at, block_end}
use Rattle.file_layout.proofs.Blocks.{next_block, table_has}
use Rattle.file_layout.specs.Sound.{block_at}
use Rattle.plan_cells.specs.Outside.{SameOutside}
use Rattle.plan_rows.specs.declared.SectionPlaces.{SectionPlaces}
use Rattle.plan_rows.specs.Reading.{tables_in, block_cell, BlockHeld, BlocksStand}
use Rattle.plan_shares.specs.Summed.{BlockStands}

-- a class's block stands where it starts
pub block_stands : (file : List ℕ) (s : SectionPlaces) → BlocksStand file s → (c : ℕ) → c < s.classes → BlockStands file (block_at file s.tablestart c)
unfolding block_end
block_stands file s b c h =
    record {
      inside = omega (arith, b.block_readable c h, ap length (b.block_read c h), table_has file (block_at file s.tablestart c));
      shares_fit = subst (λ shares. Rattle.plan_rows.specs.Reading.SharesFit shares) (b.block_read c h) (b.shares_fit c h);
    }

-- a block of an earlier class stays
block_kept : (cells cells' : List ℕ) (k c : ℕ) (shares : List ℕ) → SameOutside (block_cell k) (block_cell (suc k)) cells cells' → c < k → length shares ≤ 254
    → BlockHeld cells c shares → BlockHeld cells' c shares
block_kept cells cells' k c shares same earlier few held =
    record {
      longest_held = same.ahead (block_cell c) (omega arith) ∙ held.longest_held;
      expected_held = same.ahead (block_cell c + 1) (omega arith) ∙ held.expected_held;
      cumulative_held = λ v h. same.ahead (block_cell c + 2 + v) (omega arith) ∙ held.cumulative_held v h;
    }

-- the blocks of the classes below k are held, and the next one starts at `block`
pub record ReadSoFar (file : List ℕ) (s : SectionPlaces) (cells : List ℕ) (k block : ℕ) : Type 0 where
  pub not_past : k ≤ s.classes
  pub next : block ≡ block_at file s.tablestart k
  pub room : length cells ≡ 4096
  pub held : (c : ℕ) → c < k → BlockHeld cells c (shares_of (tables_in file s) c)

pub read_none : (file : List ℕ) (s : SectionPlaces) (cells : List ℕ) → length cells ≡ 4096 → ReadSoFar file s cells 0 s.tablestart
unfolding block_at
read_none file s cells room =
    record { not_past = omega arith; next = refl; room = room; held = λ c h. absurd (let z : ⊥ = omega arith in z) }

pub read_more : (file : List ℕ) (s : SectionPlaces) → BlocksStand file s → (cells cells' : List ℕ) (k block end : ℕ)
    → ReadSoFar file s cells k block → k < s.classes → end ≡ block_end file block → BlockHeld cells' k (table_at file block)
    → SameOutside (block_cell k) (block_cell (suc k)) cells cells' → ReadSoFar file s cells' (k + 1) end
read_more file s b cells cells' k block end so_far inside ends here same =
    let one : suc k ≡ k + 1 = omega arith in
    record {
      not_past = omega arith;
      next =
          ends ∙ ap (block_end file) so_far.next ∙ sym (next_block file s.tablestart k) ∙ ap (block_at file s.tablestart) one;
      room = same.same_length ∙ so_far.room;
      held = λ c h. at c (eq-or-lt_of_le (let z : c ≤ k = omega arith in z));
    }
  where
    at : (c : ℕ) → (c ≡ k) ⊎ (c < k) → BlockHeld cells' c (shares_of (tables_in file s) c)
    at c (inr earlier) =
        block_kept cells cells' k c (shares_of (tables_in file s) c) same earlier
        (b.shares_fit c (let z : c < s.classes = omega arith in z)).few_shares
        (so_far.held c earlier)
    at c (inl e) =
        subst (λ n. BlockHeld cells' n (shares_of (tables_in file s) n)) (sym e)
        (subst (BlockHeld cells' k) (ap (table_at file) so_far.next ∙ sym (b.block_read k inside)) here)
