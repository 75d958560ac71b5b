-- Document 01, "What every contract settles": the scan settles each row's worth and leaving row, each stop's stack, the slice's length and the
-- cells that planning does not use. Scratch, which may hold anything: trips' cells, where each stack starts and the room above it, the pairs of
-- rows outside first .. end and of row n, and a leaving row where there is no worth. Assumes nothing.
use Prim.Native.Nat.{ℕ, ◌+◌, ◌≤◌, ◌<◌}
use mathlib.Core.List.{List}
use mathlib.Core.Option.{Option, none, some}
use mathlib.Core.Path.{◌≡◌, sym, ◌∙◌}
use contract.Lifetimes.{Lfts}
use denote.Triple.Clauses.{AtExit}
use lib.ListN.{length, get_or}
use borrow.Fn.Kinds.{Dens, res_t, ended_of}
use Rattle.timetable.specs.Limits.{most_stops}
use Rattle.plans.specs.Worth.{Valued}
use Rattle.plan_cells.specs.Cells.{used, missing, pair_cell}
use Rattle.plan_stacks.specs.Stacks.{stack_of}
use Rattle.plan_scan.specs.Scanned.{PairHolds, best_in}
use Rattle.plan_scan.specs.Reach.{scan_of}
use Rattle.plan_scan.specs.Stores.{row_worth}
use Rattle.plan_scan.proofs.reach.Reach.scan_back.Kinds as kinds
use Rattle.plan_scan.proofs.reach.Reach.scan_back.Reads as reads

same_worth : (w w' : List ℕ) (i : ℕ) (best : Option Valued) → PairHolds w i best → PairHolds w' i best → row_worth w i ≡ row_worth w' i
same_worth w w' i none one other = one ∙ sym other
same_worth w w' i (some v) one other = one.0 ∙ sym other.0

same_leave :
    (w w' : List ℕ) (i : ℕ) (best : Option Valued) → PairHolds w i best → PairHolds w' i best → (row_worth w i ≡ missing → ⊥)
    → get_or w (pair_cell i + 1) 0 ≡ get_or w' (pair_cell i + 1) 0
same_leave w w' i none one other has = absurd (has one)
same_leave w w' i (some v) one other has = one.1 ∙ sym other.1

-- what planning reads of the scan
pub record SameScan (n first end : ℕ) (w w' : List ℕ) : Type 0 where
  pub worths : (i : ℕ) → first ≤ i → i < end → row_worth w i ≡ row_worth w' i
  pub leaves : (i : ℕ) → first ≤ i → i < end → (row_worth w i ≡ missing → ⊥) → get_or w (pair_cell i + 1) 0 ≡ get_or w' (pair_cell i + 1) 0
  pub stacks : (stop : ℕ) → stop < most_stops → stack_of w stop ≡ stack_of w' stop
  pub lengths : length w ≡ length w'
  pub rest : (i : ℕ) → used n ≤ i → get_or w i 0 ≡ get_or w' i 0

pub scan_back_settled :
    (κs : Lfts 3) (arguments : Dens κs kinds.ps) (one other : (res_t kinds.r κs).Denot)
    (ending another : AtExit (ended_of 3 kinds.ps kinds.r) κs) → reads.Post κs arguments one ending → reads.Post κs arguments other another
    → SameScan arguments.0.now.sailings.places.rows arguments.0.now.first arguments.0.now.end ending.1.0.now another.1.0.now
scan_back_settled κs arguments one other ending another first second =
    let w = ending.1.0.now in
    let w' = another.1.0.now in
    let r = arguments.0.now in
    let sc = scan_of r in
    record {
      worths = λ i low high. same_worth w w' i (best_in sc r.first i) (first.0.pair_holds i low high) (second.0.pair_holds i low high);
      leaves = λ i low high. same_leave w w' i (best_in sc r.first i) (first.0.pair_holds i low high) (second.0.pair_holds i low high);
      stacks = λ stop h. first.0.stack_holds stop h ∙ sym (second.0.stack_holds stop h);
      lengths = first.1.same_length ∙ sym second.1.same_length;
      rest = λ i h. first.1.behind i h ∙ sym (second.1.behind i h);
    }
