-- Document 01, "What every contract settles": any two outcomes that the stacks' functions permit coincide. Assumes nothing.
use Prim.Native.Nat.{ℕ, ◌≤◌, ◌<◌}
use mathlib.Core.List.{List}
use mathlib.Core.Path.{◌≡◌, sym, ap, ap₂, ◌∙◌}
use native.Mathlib.Omega.{arith}
use contract.Lifetimes.{Lfts}
use denote.Triple.Clauses.{AtExit}
use borrow.Fn.Kinds.{Dens, res_t, ended_of}
use Rattle.laws.proofs.Outcomes.{SettlesResult}
use lib.ListN.{length, get_or}
use Rattle.timetable.specs.Limits.{most_stops}
use Rattle.plan_cells.specs.Cells.{stop_cells, pair_cells}
use Rattle.plan_stacks.specs.Stacks.{start_pair, stack_size, FirstOpenAt}
use Rattle.plan_stacks.proofs.departure_of.Kinds as departure_of_kinds
use Rattle.plan_stacks.proofs.departure_of.Reads as departure_of_reads
use Rattle.plan_stacks.proofs.row_of.Kinds as row_of_kinds
use Rattle.plan_stacks.proofs.row_of.Reads as row_of_reads
use Rattle.plan_stacks.proofs.stack_of.Kinds as stack_of_kinds
use Rattle.plan_stacks.proofs.stack_of.Reads as stack_of_reads
use Rattle.plan_stacks.proofs.reserve.Kinds as reserve_kinds
use Rattle.plan_stacks.proofs.reserve.Reads as reserve_reads
use Rattle.plan_stacks.proofs.part_stacks.Kinds as part_stacks_kinds
use Rattle.plan_stacks.proofs.part_stacks.Reads as part_stacks_reads
use Rattle.plan_stacks.proofs.Stack.top.Kinds as top_kinds
use Rattle.plan_stacks.proofs.Stack.top.Reads as top_reads
use Rattle.plan_stacks.proofs.Stack.push.Kinds as push_kinds
use Rattle.plan_stacks.proofs.Stack.push.Reads as push_reads
use Rattle.plan_stacks.proofs.Stack.replace_top.Kinds as replace_top_kinds
use Rattle.plan_stacks.proofs.Stack.replace_top.Reads as replace_top_reads
use Rattle.plan_stacks.proofs.Stack.first_open.Kinds as first_open_kinds
use Rattle.plan_stacks.proofs.Stack.first_open.Reads as first_open_reads

pub departure_of_settled : SettlesResult 0 departure_of_kinds.ps departure_of_kinds.r departure_of_reads.Post
departure_of_settled κs arguments one other ending another first second = first ∙ sym second

pub row_of_settled : SettlesResult 0 row_of_kinds.ps row_of_kinds.r row_of_reads.Post
row_of_settled κs arguments one other ending another first second = first ∙ sym second

-- an entry that opens is not above one whose upper entries have left
not_above : {work : List ℕ} {start size minute one other : ℕ} (first : FirstOpenAt work start size minute one)
    (second : FirstOpenAt work start size minute other) → first.place < second.place → ⊥
not_above first second above =
    omega (arith, first.missed second.place above second.inside, second.opens)

pub first_open_one : {work : List ℕ} {start size minute one other : ℕ} → FirstOpenAt work start size minute one
    → FirstOpenAt work start size minute other → one ≡ other
first_open_one first second =
    omega (arith, first.stands, second.stands, not_above first second, not_above second first)

pub first_open_settled : SettlesResult 1 first_open_kinds.ps first_open_kinds.r first_open_reads.Post
first_open_settled κs arguments one other ending another first second = first_open_one first second

pub stack_of_settled : SettlesResult 1 stack_of_kinds.ps stack_of_kinds.r stack_of_reads.Post
stack_of_settled κs arguments one other ending another first second =
    ap₂ (λ (a b : ℕ). record { start = a; size = b }) (first.0 ∙ sym second.0) (first.1 ∙ sym second.1)

pub top_settled : SettlesResult 1 top_kinds.ps top_kinds.r top_reads.Post
top_settled κs arguments one other ending another first second =
    ap₂ (λ (a b : ℕ). record { row = a; departure = b; worth = one.worth }) (first.0 ∙ sym second.0) (first.1 ∙ sym second.1)
    ∙ ap (λ (c : ℕ). record { row = other.row; departure = other.departure; worth = c }) (first.2 ∙ sym second.2)

pub push_settled :
    (κs : Lfts 1) (arguments : Dens κs push_kinds.ps) (one other : (res_t push_kinds.r κs).Denot)
    (ending another : AtExit (ended_of 1 push_kinds.ps push_kinds.r) κs) → push_reads.Post κs arguments one ending
    → push_reads.Post κs arguments other another → ending.1.0.now ≡ another.1.0.now
push_settled κs arguments one other ending another first second = first ∙ sym second

pub replace_top_settled :
    (κs : Lfts 1) (arguments : Dens κs replace_top_kinds.ps) (one other : (res_t replace_top_kinds.r κs).Denot)
    (ending another : AtExit (ended_of 1 replace_top_kinds.ps replace_top_kinds.r) κs) → replace_top_reads.Post κs arguments one ending
    → replace_top_reads.Post κs arguments other another → ending.1.0.now ≡ another.1.0.now
replace_top_settled κs arguments one other ending another first second = first ∙ sym second

pub reserve_settled :
    (κs : Lfts 1) (arguments : Dens κs reserve_kinds.ps) (one other : (res_t reserve_kinds.r κs).Denot)
    (ending another : AtExit (ended_of 1 reserve_kinds.ps reserve_kinds.r) κs) → reserve_reads.Post κs arguments one ending
    → reserve_reads.Post κs arguments other another → ending.0.now ≡ another.0.now
reserve_settled κs arguments one other ending another first second = first ∙ sym second

-- where each stack starts, its size and every other cell
pub part_stacks_settled :
    (κs : Lfts 1) (arguments : Dens κs part_stacks_kinds.ps) (one other : (res_t part_stacks_kinds.r κs).Denot)
    (ending another : AtExit (ended_of 1 part_stacks_kinds.ps part_stacks_kinds.r) κs) → part_stacks_reads.Post κs arguments one ending
    → part_stacks_reads.Post κs arguments other another
    → let w = ending.1.0.now in
    let w' = another.1.0.now in
    ((stop : ℕ) → stop < most_stops → (start_pair w stop ≡ start_pair w' stop) × (stack_size w stop ≡ stack_size w' stop)) × (length w ≡ length w')
    × ((i : ℕ) → i < stop_cells → get_or w i 0 ≡ get_or w' i 0) × ((i : ℕ) → pair_cells ≤ i → get_or w i 0 ≡ get_or w' i 0)
part_stacks_settled κs arguments one other ending another first second = (
  λ stop h. (first.starts stop h ∙ sym (second.starts stop h), first.empty stop h ∙ sym (second.empty stop h)),
  first.outside.same_length ∙ sym second.outside.same_length,
  λ i h. first.outside.ahead i h ∙ sym (second.outside.ahead i h),
  λ i h. first.outside.behind i h ∙ sym (second.outside.behind i h),
)
