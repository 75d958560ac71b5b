-- Document 01, "What every contract settles": any two outcomes that `plan_extract::write_plan` permits, where its caller keeps the contract, have one
-- answer and one plan slice, and their work slices agree in length and behind the cells that planning uses. Those cells are scratch, which the
-- planner clears: they may hold anything. Assumes nothing.
use Prim.Native.Nat.{ℕ, ◌≤◌}
use mathlib.Core.Path.{◌≡◌, sym, ap₂, ◌∙◌}
use contract.Lifetimes.{Lfts}
use denote.Triple.Clauses.{AtExit}
use lib.ListN.{length, get_or}
use borrow.Fn.Kinds.{Dens, res_t, ended_of}
use Rattle.plan_extract.specs.declared.Written.{Written}
use Rattle.plan_extract.proofs.write_plan.Kinds as kinds
use Rattle.plan_extract.proofs.write_plan.Reads as reads
use Rattle.plan_cells.specs.Cells.{used}

same_answer : (one other : Written) → one.rides ≡ other.rides → one.latest ≡ other.latest → one ≡ other
same_answer one other rides latest = ap₂ (λ a b. record { rides = a; latest = b }) rides latest

pub write_plan_settled :
    (κs : Lfts 4) (arguments : Dens κs kinds.ps) (one other : (res_t kinds.r κs).Denot) (ending another : AtExit (ended_of 4 kinds.ps kinds.r) κs)
    → reads.Pre κs arguments → reads.Post κs arguments one ending → reads.Post κs arguments other another
    → (one ≡ other) × (ending.1.1.1.0.now ≡ another.1.1.1.0.now)
    × (length ending.1.1.0.now ≡ length another.1.1.0.now)
    × ((i : ℕ) → used arguments.0.now.sailings.places.rows ≤ i
    → get_or ending.1.1.0.now i 0 ≡ get_or another.1.1.0.now i 0)
write_plan_settled κs arguments one other ending another asked first second =
    let a = first.0 asked.2 in
    let b = second.0 asked.2 in (
      same_answer one other (a.1 ∙ sym b.1) (a.2 ∙ sym b.2),
      a.0 ∙ sym b.0,
      first.1.same_length ∙ sym second.1.same_length,
      (λ i h. first.1.behind i h ∙ sym (second.1.behind i h)),
    )
