-- The two calls for the earliest safe arrival, over their contracts: each asks for a query, and one is the other with gate time 0. Assumes nothing.
use mathlib.Core.Path.{◌≡◌}
use contract.Lifetimes.{Lfts}
use denote.Triple.Clauses.{AtExit}
use borrow.Fn.Kinds.{Dens, res_t, ended_of}
use Rattle.query.specs.Query.{plain_query, with_gate}
use Rattle.planner.proofs.earliest_safe_arrival.Kinds as kinds
use Rattle.planner.proofs.earliest_safe_arrival.Reads as reads
use Rattle.planner.proofs.earliest_with_gate.Kinds as gate_kinds
use Rattle.planner.proofs.earliest_with_gate.Reads as gate_reads
use Rattle.promises.specs.Returned.{AsArrival}

-- `earliest_safe_arrival` asks with gate time 0
pub arrival_asks : (κs : Lfts 2) (arguments : Dens κs kinds.ps) (answer : (res_t kinds.r κs).Denot) (ending : AtExit (ended_of 2 kinds.ps kinds.r) κs)
    → reads.Post κs arguments answer ending
    → AsArrival arguments.0.now (plain_query arguments.1.0 arguments.1.1.0 arguments.1.1.1.0) arguments.1.1.1.1.0.now
    answer ending.1.1.1.1.0.now
arrival_asks κs arguments answer ending permitted = permitted

-- `earliest_with_gate` asks with the gate time that it is passed
pub gate_asks : (κs : Lfts 2) (arguments : Dens κs gate_kinds.ps) (answer : (res_t gate_kinds.r κs).Denot)
    (ending : AtExit (ended_of 2 gate_kinds.ps gate_kinds.r) κs) → gate_reads.Post κs arguments answer ending
    → AsArrival arguments.0.now
    (with_gate arguments.1.1.1.1.0 (plain_query arguments.1.0 arguments.1.1.0 arguments.1.1.1.0))
    arguments.1.1.1.1.1.0.now answer ending.1.1.1.1.1.0.now
gate_asks κs arguments answer ending permitted = permitted

-- passed gate time 0 and otherwise the same, `earliest_with_gate` answers as `earliest_safe_arrival` does and leaves the same work
pub arrival_is_gate_none :
    (κs κs' : Lfts 2) (arguments : Dens κs kinds.ps) (others : Dens κs' gate_kinds.ps) (answer : (res_t kinds.r κs).Denot)
    (answer' : (res_t gate_kinds.r κs').Denot) (ending : AtExit (ended_of 2 kinds.ps kinds.r) κs)
    (ending' : AtExit (ended_of 2 gate_kinds.ps gate_kinds.r) κs') → reads.Post κs arguments answer ending
    → gate_reads.Post κs' others answer' ending' → others.0.now ≡ arguments.0.now → others.1.0 ≡ arguments.1.0
    → others.1.1.0 ≡ arguments.1.1.0 → others.1.1.1.0 ≡ arguments.1.1.1.0 → others.1.1.1.1.0 ≡ 0
    → others.1.1.1.1.1.0.now ≡ arguments.1.1.1.1.0.now
    → (answer' ≡ answer) × (ending'.1.1.1.1.1.0.now ≡ ending.1.1.1.1.0.now)
arrival_is_gate_none κs κs' arguments others answer answer' ending ending' first second file source target minute gate work =
    let told = first.0 in
    let told' = second.0 in
    let left = first.1 in
    let left' = second.1 in
    (cc, cc)
