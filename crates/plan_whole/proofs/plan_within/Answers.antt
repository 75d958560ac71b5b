-- `plan_whole::plan_within` meets its contract: the part of the rows that a plan can board is scanned, and the plan read off it. Assumes nothing.
use native.Mathlib.Omega.{arith}
use Rattle.plan_whole.proofs.Parts.{is_part}
use Rattle.plan_whole.proofs.plan_within.Goals as goal

pub invariant_of-reach : goal.invariant_of-reach
invariant_of-reach c =
    let a = c.args in
    let r = c.requires in
    let s = a.sailings.now in
    let part = is_part s.file.now s.places a.tables.now a.q a.bound a.first c.rows_within-end.result r.0 r.2 r.1 c.rows_within-end.ensures in
    record { held = r.0.held; ordered = part.ordered; inside = part.inside; gate = r.0.gate }

pub plan_scanned-requires : goal.plan_scanned-requires
plan_scanned-requires c =
    let a = c.args in
    let r = c.requires in
    let s = a.sailings.now in (
      r.0,
      is_part s.file.now s.places a.tables.now a.q a.bound a.first c.rows_within-end.result r.0 r.2 r.1 c.rows_within-end.ensures,
      omega (arith, c.scan_back.ensures.1.same_length),
      r.4,
      c.scan_back.ensures.0,
    )
