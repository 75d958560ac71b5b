-- `gtfs_import::hand_over` meets its contract: a file that is refused is kept back, and one that is sound goes to the first bytes. Assumes nothing.
use mathlib.Core.List.{◌++◌}
use mathlib.Core.Path.{sym, ap, ◌∙◌}
use borrow.Author.Rules.{rules}
use lib.ListN.{length, drop}
use Rattle.gtfs_import.specs.Import.{ImportOutcome}
use Rattle.gtfs_import.proofs.Told.{kept_back, handed_over}
use Rattle.gtfs_import.proofs.hand_over.Goals as goal

pub returns-in_err-trailer : goal.returns-in_err-trailer
returns-in_err-trailer c =
    let back = kept_back c.args.file.now c.args.out.now _ _ (sym c.in_err-trailer.ensures) in
    let answer = sym (ap (λ (o : ImportOutcome). o.answer) back) in
    let same = sym (ap (λ (o : ImportOutcome). o.out) back) in
    search rules

pub returns : goal.returns
returns c =
    let given = handed_over c.args.file.now c.args.out.now _ (sym c.in_ok-trailer.ensures) in (
      sym (ap (λ (o : ImportOutcome). o.answer) given),
      ap (λ k. k ++ drop (length c.args.file.now) c.args.out.now) c.copy_from_slice.ensures.after ∙ sym (ap (λ (o : ImportOutcome). o.out) given),
    )
