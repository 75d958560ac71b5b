-- `gtfs_ids::key_of` meets its contract: the first eight bytes, and the others. Assumes nothing.
use mathlib.Core.Path.{ap, ◌∙◌}
use lib.ListN.{take, drop}
use Rattle.gtfs_ids.proofs.Keys.{cut_key}
use Rattle.gtfs_ids.proofs.key_of.Goals as goal

pub returns : goal.returns
returns c =
    let id = c.args.id.now in
    let parts = c.split_at in
    cut_key id parts.result.0.now parts.result.1.now (parts.ensures.front ∙ ap (λ n. take n id) c.min.ensures)
    (parts.ensures.back ∙ ap (λ n. drop n id) c.min.ensures) c.packed_bytes.ensures c.packed_bytes-2.ensures
