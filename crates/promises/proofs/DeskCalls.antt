-- The booking desk's three calls, over their contracts: each asks the desk for a query, and each is the next with margin 1 or gate time 0. Assumes nothing.
use mathlib.Core.Path.{◌≡◌}
use contract.Lifetimes.{Lfts}
use denote.Triple.Clauses.{AtExit}
use borrow.Fn.Kinds.{Dens, res_t, ended_of}
use Rattle.query.specs.Query.{least_margin, plain_query, with_code, with_margin, with_gate}
use Rattle.sayurimpak.proofs.sayurimpak_plan.Kinds as kinds
use Rattle.sayurimpak.proofs.sayurimpak_plan.Reads as reads
use Rattle.sayurimpak.proofs.sayurimpak_plan_margin.Kinds as margin_kinds
use Rattle.sayurimpak.proofs.sayurimpak_plan_margin.Reads as margin_reads
use Rattle.sayurimpak.proofs.sayurimpak_plan_gate.Kinds as gate_kinds
use Rattle.sayurimpak.proofs.sayurimpak_plan_gate.Reads as gate_reads
use Rattle.promises.specs.Returned.{AsDesk}

-- `sayurimpak_plan` asks with margin 1
pub plan_asks : (κs : Lfts 2) (arguments : Dens κs kinds.ps) (answer : (res_t kinds.r κs).Denot) (ending : AtExit (ended_of 2 kinds.ps kinds.r) κs)
    → reads.Post κs arguments answer ending
    → AsDesk arguments.0.now
    (with_code arguments.1.1.1.1.0 (plain_query arguments.1.0 arguments.1.1.0 arguments.1.1.1.0))
    arguments.1.1.1.1.1.0.now answer ending.1.1.1.1.1.0.now
plan_asks κs arguments answer ending permitted = permitted

-- `sayurimpak_plan_margin` asks with the margin that it is passed
pub margin_asks : (κs : Lfts 2) (arguments : Dens κs margin_kinds.ps) (answer : (res_t margin_kinds.r κs).Denot)
    (ending : AtExit (ended_of 2 margin_kinds.ps margin_kinds.r) κs) → margin_reads.Post κs arguments answer ending
    → AsDesk arguments.0.now
    (with_margin arguments.1.1.1.1.1.0 (with_code arguments.1.1.1.1.0 (plain_query arguments.1.0 arguments.1.1.0 arguments.1.1.1.0)))
    arguments.1.1.1.1.1.1.0.now answer ending.1.1.1.1.1.1.0.now
margin_asks κs arguments answer ending permitted = permitted

-- `sayurimpak_plan_gate` asks with the margin and the gate time that it is passed
pub gate_asks : (κs : Lfts 2) (arguments : Dens κs gate_kinds.ps) (answer : (res_t gate_kinds.r κs).Denot)
    (ending : AtExit (ended_of 2 gate_kinds.ps gate_kinds.r) κs) → gate_reads.Post κs arguments answer ending
    → AsDesk arguments.0.now
    (with_gate arguments.1.1.1.1.1.1.0 (with_margin arguments.1.1.1.1.1.0 (with_code arguments.1.1.1.1.0
    (plain_query arguments.1.0 arguments.1.1.0 arguments.1.1.1.0))))
    arguments.1.1.1.1.1.1.1.0.now answer ending.1.1.1.1.1.1.1.0.now
gate_asks κs arguments answer ending permitted = permitted

-- passed margin 1 and otherwise the same, `sayurimpak_plan_margin` answers as `sayurimpak_plan` does and leaves the same bytes
pub plan_is_margin_one :
    (κs κs' : Lfts 2) (arguments : Dens κs kinds.ps) (others : Dens κs' margin_kinds.ps) (answer : (res_t kinds.r κs).Denot)
    (answer' : (res_t margin_kinds.r κs').Denot) (ending : AtExit (ended_of 2 kinds.ps kinds.r) κs)
    (ending' : AtExit (ended_of 2 margin_kinds.ps margin_kinds.r) κs') → reads.Post κs arguments answer ending
    → margin_reads.Post κs' others answer' ending' → others.0.now ≡ arguments.0.now → others.1.0 ≡ arguments.1.0
    → others.1.1.0 ≡ arguments.1.1.0 → others.1.1.1.0 ≡ arguments.1.1.1.0 → others.1.1.1.1.0 ≡ arguments.1.1.1.1.0
    → others.1.1.1.1.1.0 ≡ least_margin → others.1.1.1.1.1.1.0.now ≡ arguments.1.1.1.1.1.0.now
    → (answer' ≡ answer) × (ending'.1.1.1.1.1.1.0.now ≡ ending.1.1.1.1.1.0.now)
plan_is_margin_one κs κs' arguments others answer answer' ending ending' first second file source target minute code margin out =
    let told = first.0 in
    let told' = second.0 in
    let left = first.1 in
    let left' = second.1 in
    (cc, cc)

-- passed gate time 0 and otherwise the same, `sayurimpak_plan_gate` answers as `sayurimpak_plan_margin` does and leaves the same bytes
pub margin_is_gate_none :
    (κs κs' : Lfts 2) (arguments : Dens κs margin_kinds.ps) (others : Dens κs' gate_kinds.ps) (answer : (res_t margin_kinds.r κs).Denot)
    (answer' : (res_t gate_kinds.r κs').Denot) (ending : AtExit (ended_of 2 margin_kinds.ps margin_kinds.r) κs)
    (ending' : AtExit (ended_of 2 gate_kinds.ps gate_kinds.r) κs') → margin_reads.Post κs arguments answer ending
    → gate_reads.Post κs' others answer' ending' → others.0.now ≡ arguments.0.now → others.1.0 ≡ arguments.1.0
    → others.1.1.0 ≡ arguments.1.1.0 → others.1.1.1.0 ≡ arguments.1.1.1.0 → others.1.1.1.1.0 ≡ arguments.1.1.1.1.0
    → others.1.1.1.1.1.0 ≡ arguments.1.1.1.1.1.0 → others.1.1.1.1.1.1.0 ≡ 0
    → others.1.1.1.1.1.1.1.0.now ≡ arguments.1.1.1.1.1.1.0.now
    → (answer' ≡ answer) × (ending'.1.1.1.1.1.1.1.0.now ≡ ending.1.1.1.1.1.1.0.now)
margin_is_gate_none κs κs' arguments others answer answer' ending ending' first second file source target minute code margin gate out =
    let told = first.0 in
    let told' = second.0 in
    let left = first.1 in
    let left' = second.1 in
    (cc, cc)
