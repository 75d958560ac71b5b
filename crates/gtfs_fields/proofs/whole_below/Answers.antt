-- `gtfs_fields::whole_below` meets its contract: what is told of the field is what is told of the characters left. Assumes nothing.
use mathlib.Core.Bool.{true, false}
use mathlib.Core.Path.{sym, ◌∙◌}
use native.Mathlib.Omega.{arith}
use borrow.Author.Tests.{eqb-true, eqb-false}
use Rattle.gtfs_fields.proofs.Onward.{whole_empty, whole_starts, rest_next, rest_skip, rest_ends, told_where}
use Rattle.gtfs_fields.proofs.whole_below.Goals as goal
use Rattle.gtfs_fields.proofs.whole_below.Goals.{then-value-limit, else-value-limit}

pub returns-then-is_empty : goal.returns-then-is_empty
returns-then-is_empty c = sym (whole_empty c.args.limit c.args.field.now (eqb-true _ _ (sym c.if-is_empty.ensures)))

pub loop-character-init : goal.loop-character-init
loop-character-init c =
    let some = eqb-false _ _ (sym c.if-is_empty.ensures) in
    whole_starts c.args.limit c.args.field.now (omega arith)

pub returns-then-not-is_ascii_digit : goal.returns-then-not-is_ascii_digit
returns-then-not-is_ascii_digit c =
    let a = c.args in
    let l = c.loop-character in
    sym (l.invariant ∙ rest_next a.limit a.field.now l.character-index l.value (omega arith) false (sym c.if-not-is_ascii_digit.ensures.value))

pub loop-character-preserved : goal.loop-character-preserved
loop-character-preserved c =
    let a = c.args in
    let l = c.loop-character in
    let digit = rest_next a.limit a.field.now l.character-index l.value (omega arith) true (sym c.if-not-is_ascii_digit.ensures.value) in
    elim c.if-value-limit.branch [
      | then-value-limit w ↦ cc
      | else-value-limit w ↦
          let skip = rest_skip a.limit a.field.now l.character-index l.value (omega arith) (omega arith) in cc
    ]

pub returns : goal.returns
returns c =
    let a = c.args in
    let l = c.loop-character in
    c.then_some.ensures ∙ told_where _ l.value
    ∙ sym (l.invariant ∙ rest_ends a.limit a.field.now l.character-index l.value (omega arith))
