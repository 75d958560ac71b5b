-- `gtfs_stop_times::enter` meets its contract: a new id is added, for a known one nothing changes. Assumes nothing.
use Prim.Native.Nat.{suc}
use mathlib.Core.Path.{sym, ◌∙◌}
use native.Mathlib.Omega.{arith}
use borrow.Author.Tests.{eq-eqb, ne_eqb}
use Rattle.laws.proofs.Tests.{cond_true, cond_false}
use Rattle.gtfs_ids.specs.Book.{book_with}
use Rattle.gtfs_stop_times.specs.Held.{entered}
use Rattle.gtfs_stop_times.proofs.enter.Goals as goal

pub add-requires : goal.add-requires
add-requires c =
    let a = c.args in
    let room = c.requires in
    (omega (arith, room.0, cond_true (suc a.count) a.count (eq-eqb a.number a.count c.if-number-count.true)), room.1)

pub returns-then-number-count : goal.returns-then-number-count
unfolding entered
returns-then-number-count c =
    let a = c.args in
    let same = eq-eqb a.number a.count c.if-number-count.true in (
      c.add.ensures ∙ sym (cond_true (book_with a.book.now a.count a.key a.place) a.book.now same),
      omega (arith, cond_true (suc a.count) a.count same),
    )

pub returns : goal.returns
unfolding entered
returns c =
    let a = c.args in
    let other = ne_eqb a.number a.count c.if-number-count.false in (
      sym (cond_false (book_with a.book.now a.count a.key a.place) a.book.now other),
      sym (cond_false (suc a.count) a.count other),
    )
