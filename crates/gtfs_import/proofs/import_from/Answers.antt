-- `gtfs_import::import_from` meets its contract: by the reading's case, and the file of the calls goes to the check. Assumes nothing.
use mathlib.Core.Path.{sym, ap, ◌∙◌}
use native.Mathlib.Omega.{arith}
use lib.ListN.{take}
use lib.Seq.{length-take-le}
use Rattle.gtfs_calls.specs.Reading.{stop_times}
use Rattle.gtfs_calls.proofs.ReadSound.{read_sound}
use Rattle.gtfs_import.specs.Import.{ImportOutcome, by_reading}
use Rattle.gtfs_import.proofs.Finished.{few_rows, file_finished}
use Rattle.gtfs_import.proofs.Told.{read_calls, read_wrong}
use Rattle.gtfs_import.proofs.import_from.Goals as goal

pub put_ends-end-requires : goal.put_ends-end-requires
put_ends-end-requires c =
    let counted = read_calls (stop_times c.args.start c.args.text.now) c.in-Ok.listed c.in-Ok.ensures.0 in
    let few = few_rows counted (read_sound c.args.start c.args.text.now counted.calls counted.says) in
    (few, omega (arith, few))

pub slice_bounds-file-end : goal.slice_bounds-file-end
slice_bounds-file-end c =
    let counted = read_calls (stop_times c.args.start c.args.text.now) c.in-Ok.listed c.in-Ok.ensures.0 in
    let few = few_rows counted (read_sound c.args.start c.args.text.now counted.calls counted.says) in
    omega (arith, few, c.put_ends-end.ensures.0)

pub slice_bounds-hand_over-end : goal.slice_bounds-hand_over-end
slice_bounds-hand_over-end c =
    let counted = read_calls (stop_times c.args.start c.args.text.now) c.in-Ok.listed c.in-Ok.ensures.0 in
    let few = few_rows counted (read_sound c.args.start c.args.text.now counted.calls counted.says) in
    sym (length-take-le c.put_ends-end.result c.put_ends-end.new.file (omega (arith, few, c.put_ends-end.ensures.0)))

pub returns-in-Ok : goal.returns-in-Ok
returns-in-Ok c =
    let counted = read_calls (stop_times c.args.start c.args.text.now) c.in-Ok.listed c.in-Ok.ensures.0 in
    let sound = read_sound c.args.start c.args.text.now counted.calls counted.says in
    let outcome =
    file_finished counted sound c.file_room-file.result c.file_room-file.ensures c.stop_times.ensures.1 c.put_ends-end.ensures.1
    c.args.out.now (take c.put_ends-end.result c.put_ends-end.new.file) (ap (λ k. take k c.put_ends-end.new.file) c.put_ends-end.ensures.0)
    in (
      c.hand_over.ensures.0 ∙ ap (λ (o : ImportOutcome). o.answer) outcome,
      c.hand_over.ensures.1 ∙ ap (λ (o : ImportOutcome). o.out) outcome,
    )

pub returns-in-Err : goal.returns-in-Err
unfolding by_reading
returns-in-Err c =
    let outcome =
    ap (λ r. by_reading r c.args.out.now) (read_wrong (stop_times c.args.start c.args.text.now) c.in-Err.fault c.in-Err.ensures.0)
    in
    (sym (ap (λ (o : ImportOutcome). o.answer) outcome), sym (ap (λ (o : ImportOutcome). o.out) outcome))
