-- Laws on quotients rounded down. Assumes nothing.
use Prim.Native.Nat.{ℕ, ◌*◌, ◌/◌, ◌<◌, ◌≤◌}
use native.Mathlib.Omega.{arith}
use native.Mathlib.Nat.{le-div_iff_mul-le, div-lt_iff_lt-mul, div-mul-le_self, le_of_mul-le-mul_right, mul-le-mul_right}

-- the quotient of the greater fraction is not less
pub quotient_rises : (a b a' b' : ℕ) → 0 < b → 0 < b' → a * b' ≤ a' * b → a / b ≤ a' / b'
quotient_rises a b a' b' some some' cross =
    (le-div_iff_mul-le some').1
    (le_of_mul-le-mul_right (omega (arith, mul-le-mul_right b' (div-mul-le_self a b))) some)

-- a fraction below k has a quotient below k
pub quotient_below : (a b k : ℕ) → 0 < b → a < k * b → a / b < k
quotient_below a b k some less = (div-lt_iff_lt-mul some).1 less
