-- `plan_scan::Reach::scan_back` meets its contract: cells laid out, then scanned. Assumes nothing.
use native.Mathlib.Omega.{arith}
use Rattle.plan_cells.proofs.Outside.{outside_then}
use Rattle.plan_scan.proofs.Bounds.{held_ends}
use Rattle.plan_scan.proofs.Laid.{emptied, no_sizes, no_next, parts_fit, laid_stays, laid_held}
use Rattle.plan_scan.proofs.reach.Reach.scan_back.Goals as goal

pub count_boardings-requires : goal.count_boardings-requires
count_boardings-requires c =
    let r = c.args.self.now in
    let empty = emptied r.sailings.places.rows c.args.work.now c.fill.new.work c.fill-2.new.work c.cell.result c.requires c.cell.ensures c.fill.ensures c.fill-2.ensures in
    (omega (arith, c.requires, empty.same_length), no_sizes r.sailings.places.rows c.args.work.now c.fill.new.work c.fill-2.new.work c.cell.result c.requires c.cell.ensures c.fill.ensures c.fill-2.ensures)

pub part_stacks-requires : goal.part_stacks-requires
part_stacks-requires c =
    let r = c.args.self.now in
    let empty = emptied r.sailings.places.rows c.args.work.now c.fill.new.work c.fill-2.new.work c.cell.result c.requires c.cell.ensures c.fill.ensures c.fill-2.ensures in (
      omega (arith, c.requires, empty.same_length, c.count_boardings.ensures.outside.same_length),
      parts_fit r.sailings.file.now r.sailings.places r.goal r.first r.end r.sailings.readable r.inside c.fill-2.new.work c.count_boardings.new.work (omega (arith, c.requires, empty.same_length)) c.count_boardings.ensures,
    )

pub weigh_rows-requires : goal.weigh_rows-requires
weigh_rows-requires c =
    let r = c.args.self.now in
    let empty = emptied r.sailings.places.rows c.args.work.now c.fill.new.work c.fill-2.new.work c.cell.result c.requires c.cell.ensures c.fill.ensures c.fill-2.ensures in
    let next = no_next r.sailings.places.rows c.args.work.now c.fill.new.work c.fill-2.new.work c.cell.result c.requires c.cell.ensures c.fill.ensures c.fill-2.ensures in
    let stays = laid_stays r.sailings.file.now r.sailings.places r.goal r.first r.end r.sailings.readable r.inside c.fill-2.new.work c.count_boardings.new.work (omega (arith, c.requires, empty.same_length)) c.count_boardings.ensures
    c.part_stacks.new.work c.part_stacks.ensures next in (
      omega (arith, c.requires, empty.same_length, stays.same_length),
      laid_held r.sailings.file.now r.sailings.places r.goal r.first r.end r.sailings.readable r.inside c.fill-2.new.work c.count_boardings.new.work (omega (arith, c.requires, empty.same_length)) c.count_boardings.ensures c.part_stacks.new.work
          c.part_stacks.ensures next,
    )

pub returns : goal.returns
returns c =
    let r = c.args.self.now in
    let empty = emptied r.sailings.places.rows c.args.work.now c.fill.new.work c.fill-2.new.work c.cell.result c.requires c.cell.ensures c.fill.ensures c.fill-2.ensures in
    let stays = laid_stays r.sailings.file.now r.sailings.places r.goal r.first r.end r.sailings.readable r.inside c.fill-2.new.work c.count_boardings.new.work (omega (arith, c.requires, empty.same_length)) c.count_boardings.ensures
    c.part_stacks.new.work c.part_stacks.ensures (no_next r.sailings.places.rows c.args.work.now c.fill.new.work c.fill-2.new.work c.cell.result c.requires c.cell.ensures c.fill.ensures c.fill-2.ensures) in (
      held_ends r.sailings.file.now r.sailings.places r.goal r.first r.end r.sailings.readable r.inside c.weigh_rows.new.work
          c.weigh_rows.new.limits r.ordered c.weigh_rows.ensures.0,
      outside_then (outside_then empty stays) c.weigh_rows.ensures.1,
    )
