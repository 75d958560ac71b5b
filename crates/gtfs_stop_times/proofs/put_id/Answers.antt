-- `gtfs_stop_times::put_id` meets its contract: word, quote mark, id, quote mark and LF, one behind the other. Assumes nothing.
use Prim.Native.Nat.{◌+◌, ◌-◌}
use mathlib.Core.Path.{◌≡◌, sym, ap, ◌∙◌}
use native.Mathlib.Omega.{arith}
use lib.ListN.{take, drop}
use lib.Seq.{slice}
use Rattle.gtfs_lines.proofs.Slices.{slice_ahead}
use Rattle.gtfs_calls.specs.Names.{id_line}
use Rattle.gtfs_stop_times.proofs.NameLines.{put_as, put_then}
use Rattle.gtfs_stop_times.proofs.put_id.Goals as goal

pub returns : goal.returns
unfolding id_line
returns c =
    let id_put = c in
    let word_put = c in
    let start = c in
    let a = start.args in
    let size : a.from + a.size - a.from ≡ a.size = omega arith in
    let id : take (a.from + a.size - a.from) (drop a.from a.text.now) ≡ slice a.from (a.from + a.size) a.text.now =
    ap (λ n. take n (drop a.from a.text.now)) size ∙ sym (slice_ahead a.text.now a.from a.size (omega (arith, start.requires)))
    in
    let opened = put_then word_put.put_text-next.ensures.0 id_put.put_byte-next.ensures.0 in
    let named = put_then opened (put_as id id_put.put_text-next-2.ensures.0) in
    put_then (put_then named c.put_byte-next-2.ensures.0) c.put_byte.ensures.0
