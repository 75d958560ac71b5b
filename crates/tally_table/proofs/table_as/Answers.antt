-- `tally_table::table_as` meets its contract: the sum of the first counts is small, and each return is one line of the outcome. Assumes nothing.
use Rattle.std.proofs.Common.{rules, arith, ◌≡◌, ◌+◌, take}
use Rattle.std.specs.Prelude.{sum as sum_of}
use mathlib.Core.Path.{sym, ◌∙◌}
use Rattle.std.proofs.lemmas.Iterator.{YieldsList-from_slice}
use Rattle.std.proofs.lemmas.Iterator.Consumers.{fits_from_yields_list}
use Rattle.tally_table.proofs.Sums.{same_sum, first_small}
use Rattle.tally_table.proofs.Greatest.{first_decide}
use Rattle.tally_table.proofs.Answers.{counts_refused}
use Rattle.tally_table.proofs.Making.{none_tallied, shares_fit, answer_made, shares_made}
use Rattle.tally_table.proofs.table_as.Goals as goal

pub returns-then-not-counts_rule : goal.returns-then-not-counts_rule
returns-then-not-counts_rule c = grind (arith, counts_refused)

pub sum-requires-clause-fits : goal.sum-requires-clause-fits
sum-requires-clause-fits c =
    fits_from_yields_list c.iter.result _ (YieldsList-from_slice (take (c.args.f.delay + 1) c.args.tally.now) (cc))
    (first_small c.args.f c.args.tally.now c.args.shares.now c.requires (sym c.if-not-counts_rule.ensures))

pub returns-then-landings-eq0 : goal.returns-then-landings-eq0
returns-then-landings-eq0 c =
    let summed : c.sum.result ≡ sum_of (take (c.args.f.delay + 1) c.args.tally.now) = search rules in
    grind (arith, same_sum, none_tallied)

pub put_shares-requires : goal.put_shares-requires
put_shares-requires c =
    let summed : c.sum.result ≡ sum_of (take (c.args.f.delay + 1) c.args.tally.now) = search rules in
    let found = first_decide c.args.f.delay c.args.tally.now _ (omega (arith, c.requires.sized)) c.greatest_late-delay.ensures in
    shares_fit c.args.f c.args.tally.now c.args.shares.now c.requires (sym c.if-not-counts_rule.ensures) c.number-landings.result
    (c.number-landings.ensures.0 ∙ summed ∙ same_sum _) c.greatest_late-delay.result found (omega (arith, c.if-landings-eq0.false))

pub returns : goal.returns
returns c =
    let summed : c.sum.result ≡ sum_of (take (c.args.f.delay + 1) c.args.tally.now) = search rules in
    let found = first_decide c.args.f.delay c.args.tally.now _ (omega (arith, c.requires.sized)) c.greatest_late-delay.ensures in
    grind (arith, same_sum, answer_made, shares_made)
