-- Document 01, "What every contract settles": the cells of each class that planning reads are settled. A block has 256 cells, and those behind
-- its last running sum, and the blocks of classes that the file does not have, are never read: they may hold anything. Assumes nothing.
use Prim.Native.Nat.{ℕ, zero, suc, ◌+◌, ◌<◌}
use mathlib.Core.List.{List}
use mathlib.Core.Path.{◌≡◌, sym, ap, ◌∙◌}
use native.Mathlib.Omega.{arith}
use contract.Lifetimes.{Lfts}
use denote.Triple.Clauses.{AtExit}
use lib.ListN.{length, get_or}
use borrow.Fn.Kinds.{Dens, res_t, ended_of}
use Rattle.timetable.specs.Timetable.{shares_of}
use Rattle.plan_rows.specs.Reading.{tables_in, block_cell, BlockHeld}
use Rattle.plan_shares.proofs.read_tables.Kinds as kinds
use Rattle.plan_shares.proofs.read_tables.Reads as reads

same_cell : (cells others : List ℕ) (c : ℕ) (shares : List ℕ) → BlockHeld cells c shares → BlockHeld others c shares → (i : ℕ) → i < 2 + length shares
    → get_or cells (block_cell c + i) 0 ≡ get_or others (block_cell c + i) 0
same_cell cells others c shares one other zero h =
    let here : block_cell c + 0 ≡ block_cell c = omega arith in
    ap (λ n. get_or cells n 0) here ∙ one.longest_held ∙ sym other.longest_held ∙ ap (λ n. get_or others n 0) (sym here)
same_cell cells others c shares one other (suc zero) h = one.expected_held ∙ sym other.expected_held
same_cell cells others c shares one other (suc (suc v)) h =
    let here : block_cell c + suc (suc v) ≡ block_cell c + 2 + v = omega arith in
    ap (λ n. get_or cells n 0) here ∙ one.cumulative_held v (omega arith) ∙ sym (other.cumulative_held v (omega arith))
    ∙ ap (λ n. get_or others n 0) (sym here)

pub read_tables_settled :
    (κs : Lfts 2) (arguments : Dens κs kinds.ps) (one other : (res_t kinds.r κs).Denot)
    (ending another : AtExit (ended_of 2 kinds.ps kinds.r) κs) → reads.Post κs arguments one ending → reads.Post κs arguments other another
    → (c : ℕ) → c < length (tables_in arguments.0.now arguments.1.0) → (i : ℕ)
    → i < 2 + length (shares_of (tables_in arguments.0.now arguments.1.0) c)
    → get_or ending.1.1.0.now (block_cell c + i) 0 ≡ get_or another.1.1.0.now (block_cell c + i) 0
read_tables_settled κs arguments one other ending another first second c h i inside =
    same_cell ending.1.1.0.now another.1.1.0.now c (shares_of (tables_in arguments.0.now arguments.1.0) c) (first.held c h)
    (second.held c h) i inside
