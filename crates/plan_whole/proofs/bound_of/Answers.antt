-- `plan_whole::bound_of` meets its contract, and no number in it wraps. Assumes nothing.
use Prim.Native.Nat.{◌-◌}
use native.Mathlib.Omega.{arith}
use Rattle.plan_whole.proofs.Bounds.{no_bound, real_bound, quarters_fit}
use Rattle.plan_whole.proofs.bound_of.Goals as goal

pub returns-then-q-eq0 : goal.returns-then-q-eq0
returns-then-q-eq0 c = (no_bound c.args.q c.args.end (omega arith), omega arith)

pub overflow_mul-result : goal.overflow_mul-result
overflow_mul-result c =
    let a = c.args in
    omega (
      arith,
      quarters_fit a.q.code (a.end - a.q.minute) c.requires.2
          (omega (arith, c.requires.1)),
    )

pub overflow_add-result : goal.overflow_add-result
overflow_add-result c =
    let a = c.args in
    omega (
      arith,
      quarters_fit a.q.code (a.end - a.q.minute) c.requires.2
          (omega (arith, c.requires.1)),
    )

pub returns : goal.returns
returns c =
    let a = c.args in (
      real_bound a.q a.end (λ e. let z : ⊥ = omega arith in z),
      omega (
        arith,
        quarters_fit a.q.code (a.end - a.q.minute)
            c.requires.2 (omega (arith, c.requires.1)),
      ),
    )
