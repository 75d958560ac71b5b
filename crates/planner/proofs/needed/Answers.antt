-- `planner::needed` meets its contract, and no number in it wraps. Assumes nothing.
use native.Mathlib.Omega.{arith}
use Rattle.planner.proofs.Admitting.{small_product}
use Rattle.planner.proofs.needed.Goals as goal

pub overflow_mul-result : goal.overflow_mul-result
overflow_mul-result c =
    let a = c in omega (arith, small_product a.args.room.perrow a.args.trailer.rows a.requires.2.perrow a.requires.1)

pub overflow_mul-result-2 : goal.overflow_mul-result-2
overflow_mul-result-2 c =
    let a = c in
    omega (arith, small_product a.args.room.perstop a.args.trailer.stops a.requires.2.perstop (omega (arith, a.requires.0)))

pub overflow_add-result : goal.overflow_add-result
overflow_add-result c =
    let a = c in
    omega (
      arith,
      small_product a.args.room.perrow a.args.trailer.rows a.requires.2.perrow a.requires.1,
      small_product a.args.room.perstop a.args.trailer.stops a.requires.2.perstop (omega (arith, a.requires.0)),
    )

pub overflow_add-result-2 : goal.overflow_add-result-2
overflow_add-result-2 c =
    let a = c in
    omega (
      arith,
      small_product a.args.room.perrow a.args.trailer.rows a.requires.2.perrow a.requires.1,
      small_product a.args.room.perstop a.args.trailer.stops a.requires.2.perstop (omega (arith, a.requires.0)),
      a.requires.2.fixed,
    )
