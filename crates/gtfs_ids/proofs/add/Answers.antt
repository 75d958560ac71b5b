-- `gtfs_ids::add` meets its contract: the cells of the id, and its bucket's. Assumes nothing.
use native.Mathlib.Omega.{arith}
use Rattle.gtfs_ids.proofs.Stores.{id_stored}
use Rattle.gtfs_ids.proofs.add.Goals as goal

pub returns : goal.returns
returns c =
    let a = c.args in
    id_stored a.book.now c.copy_from_slice.new.self a.count a.key a.place c.bucket_of-bucket.result c.bucket_of-bucket.ensures.0
    c.copy_from_slice.ensures.after (omega arith)
