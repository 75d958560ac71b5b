-- `plan_earliest::sail_until` meets its contract: the rows below `i` are swept. Assumes nothing.
use mathlib.Core.Path.{sym, ◌∙◌}
use native.Mathlib.Omega.{arith}
use Rattle.plan_earliest.proofs.InFile.{row_behind_lem, row_swept, stops_there, ends_there}
use Rattle.plan_earliest.proofs.sail_until.Goals as goal

pub returns-then-can_board : goal.returns-then-can_board
returns-then-can_board c =
    let a = c.args in
    let s = a.sailings.now in
    let l = c.loop-i in (
      l.invariant.0,
      λ source minute sw. stops_there s.file.now s.places s.readable l.i (omega arith) c.nth_row-row.ensures.0 a.target c.requires.1 l.work
          c.number.ensures.0 (sym c.can_board.ensures ∙ c.if-can_board.true) a.gate source minute (l.invariant.1 source minute sw),
    )

pub loop-i-preserved : goal.loop-i-preserved
loop-i-preserved c =
    let a = c.args in
    let s = a.sailings.now in
    let l = c.loop-i in
    let as_filed = c.nth_row-row.ensures.0 in (
      row_behind_lem s.file.now s.places s.readable a.tables.now c.requires.0 l.i (omega arith) as_filed c.sail.ensures l.invariant.0,
      λ source minute sw. row_swept s.file.now s.places s.readable a.tables.now c.requires.0 l.i (omega arith) as_filed c.sail.ensures
          (omega (arith, l.invariant.0.same_length)) source minute (l.invariant.1 source minute sw),
    )

pub returns : goal.returns
returns c =
    let a = c.args in
    let s = a.sailings.now in
    let l = c.loop-i in (
      l.invariant.0,
      λ source minute sw. ends_there s.file.now s.places s.readable l.i (omega arith) a.target c.requires.1 l.work a.gate source minute
          (l.invariant.1 source minute sw),
    )
