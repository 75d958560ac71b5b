-- `explain_starts::last_start` meets its contract: one can start at `low`, and at no minute behind `high`. Assumes nothing.
use Prim.Native.Nat.{◌-◌, ◌/◌, zero-le, ◌≤◌, ◌<◌}
use native.Mathlib.Omega.{arith}
use mathlib.Core.Path.{refl, sym, ◌∙◌}
use Rattle.file_layout.specs.Decode.{decode}
use Rattle.explain_starts.proofs.Asking.{fits_again, cleared_again}
use Rattle.explain_starts.proofs.Closing.{never_any, closing_first, closing_up, closing_down, closing_end}
use Rattle.explain_starts.proofs.last_start.Goals as goal

pub starts_at-requires : goal.starts_at-requires
starts_at-requires c = (c.requires, zero-le)

pub returns-then-not-starts_at : goal.returns-then-not-starts_at
returns-then-not-starts_at c =
    let p = c in
    let a = p.args in
    let asked = p.starts_at.ensures in
    (never_any (decode a.f a.file.now) a.source a.target a.gate a.f.lastminute (asked.0.no c.if-not-starts_at.true), asked.1)

pub loop-low-init : goal.loop-low-init
loop-low-init c =
    let p = c in
    let a = c in
    let asked = p.starts_at.ensures in (
      fits_again a.requires (omega arith),
      asked.1 ∙ sym (cleared_again a.args.f a.args.file.now a.args.work.now asked.1),
      refl,
      closing_first (decode a.args.f a.args.file.now) a.args.source a.args.target a.args.gate a.args.f.lastminute
          (asked.0.yes c.if-not-starts_at.false),
    )

pub overflow_sub-middle-in-loop-low : goal.overflow_sub-middle-in-loop-low
overflow_sub-middle-in-loop-low c = omega arith

pub starts_at-requires-in-loop-low : goal.starts_at-requires-in-loop-low
starts_at-requires-in-loop-low c = let l = c.loop-low in (l.invariant.0, omega (arith, l.invariant.3.inside))

pub loop-low-smaller-then-starts_at : goal.loop-low-smaller-then-starts_at
loop-low-smaller-then-starts_at c = omega arith

pub loop-low-preserved-then-starts_at : goal.loop-low-preserved-then-starts_at
loop-low-preserved-then-starts_at c =
    let p = c in
    let l = p.loop-low in
    let a = p.args in
    let asked = p.starts_at-in-loop-low.ensures in
    let middle = l.high - (l.high - l.low) / 2 in
    let above : l.low < middle = omega arith in
    let within : middle ≤ l.high = omega arith in (
      fits_again l.invariant.0 (omega arith),
      asked.1 ∙ cleared_again a.f a.file.now _ l.invariant.1,
      omega (arith, l.invariant.2),
      closing_up (decode a.f a.file.now) a.source a.target a.gate l.invariant.3 above within (asked.0.yes c.if-starts_at.true),
    )

pub overflow_sub-high : goal.overflow_sub-high
overflow_sub-high c = omega arith

pub loop-low-smaller : goal.loop-low-smaller
loop-low-smaller c = omega arith

pub loop-low-preserved : goal.loop-low-preserved
loop-low-preserved c =
    let p = c in
    let l = p.loop-low in
    let a = p.args in
    let asked = p.starts_at-in-loop-low.ensures in
    let middle = l.high - (l.high - l.low) / 2 in
    let above : l.low < middle = omega arith in
    let within : middle ≤ l.high = omega arith in (
      fits_again l.invariant.0 (omega arith),
      asked.1 ∙ cleared_again a.f a.file.now _ l.invariant.1,
      omega (arith, l.invariant.2),
      closing_down (decode a.f a.file.now) a.source a.target a.gate l.invariant.3 above within (asked.0.no c.if-starts_at.false),
    )

pub shape_of-work : goal.shape_of-work
shape_of-work c = omega (arith, c.loop-low.invariant.2)

pub returns : goal.returns
returns c =
    let l = c.loop-low in
    let p = c in
    let a = p.args in (
      closing_end (decode a.f a.file.now) a.source a.target a.gate l.invariant.3 (omega arith),
      l.invariant.1 ∙ cleared_again a.f a.file.now a.work.now p.starts_at.ensures.1,
    )
