-- `gtfs_lines::mark_from` meets its contract: the plain bytes from `from` on end where those from `at` on do. Assumes nothing.
use mathlib.Core.Path.{◌≡◌, sym, ◌∙◌}
use native.Mathlib.Omega.{arith}
use lib.ListN.{length, get_or}
use mathlib.Core.Bool.{false}
use Rattle.gtfs_lines.specs.Marks.{marked_by}
use Rattle.gtfs_lines.proofs.Marks.{high_plain, mark_here, mark_later, mark_none}
use Rattle.gtfs_lines.proofs.mark_from.Goals as goal
use Rattle.gtfs_lines.proofs.mark_from.Goals.{else-byte-le-COMMA-via-then-byte-le-COMMA+else-is_mark, else-byte-le-COMMA-via-else-byte-le-COMMA}

pub returns-then-is_mark : goal.returns-then-is_mark
returns-then-is_mark c =
    let l = c.loop-at in
    sym (l.invariant ∙ mark_here c.args.text.now l.at (omega arith) (sym c.is_mark.ensures ∙ c.if-is_mark.true))

pub loop-at-preserved : goal.loop-at-preserved
loop-at-preserved c =
    let l = c.loop-at in
    let text = c.args.text.now in
    let plain : marked_by (get_or text l.at 0) ≡ false =
    elim c.else-byte-le-COMMA.branch [
      | else-byte-le-COMMA-via-then-byte-le-COMMA+else-is_mark w ↦ sym w.is_mark.ensures ∙ w.if-is_mark.false
      | else-byte-le-COMMA-via-else-byte-le-COMMA w ↦ high_plain (get_or text l.at 0) w.if-byte-le-COMMA.false
    ]
    in
    l.invariant ∙ mark_later text l.at (omega arith) plain

pub returns : goal.returns
returns c =
    let l = c.loop-at in
    let ended : length c.args.text.now ≡ l.at = omega arith in
    ended ∙ sym (l.invariant ∙ mark_none c.args.text.now l.at (omega arith))
