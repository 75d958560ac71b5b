-- A share by the reciprocal of all landings is the quotient or one less. Assumes nothing.
use Prim.Native.Nat.{ℕ, ◌+◌, ◌*◌, ◌/◌, ◌<◌, ◌≤◌}
use mathlib.Core.Path.{◌≡◌, sym}
use native.Mathlib.Nat.{div-eq_of_lt-le, div-lt_iff_lt-mul, div-mul-le_self, mul-le-mul_left, mul-le-mul_right}
use native.Mathlib.Omega.{arith}
use Rattle.timetable.specs.Classes.{share_total}
use Rattle.tally_table.specs.Table.{share_of}
use Rattle.tally_table.specs.Fits.{ShareFits}

-- a dividend lies less than the divisor behind the quotient's part of it
less_behind : (a b : ℕ) → 0 < b → a + 1 ≤ (a / b + 1) * b
less_behind a b some =
    let less : a < (a / b + 1) * b = (div-lt_iff_lt-mul {x = a} {y = a / b + 1} some).0 (omega arith) in omega (arith, less)

module _ (late landings reciprocal : ℕ) (fits : ShareFits late landings reciprocal) where
  -- the reciprocal is short of 2^44 by less than the landings
  within : reciprocal * landings ≤ 17592186044416
  within = rw fits.reciprocal_of (div-mul-le_self 17592186044416 landings)

  behind : 17592186044416 + 1 ≤ (reciprocal + 1) * landings
  behind = rw fits.reciprocal_of (less_behind 17592186044416 landings fits.some)

  -- no product is too large
  pub product_within : late * reciprocal ≤ 17592186044416
  product_within = omega (arith, within, mul-le-mul_right reciprocal fits.among)

  abbrev estimate : ℕ
  estimate = late * reciprocal / 4294967296

  pub estimate_below : estimate * landings ≤ share_total * late
  estimate_below =
      omega (arith, mul-le-mul_right landings (div-mul-le_self (late * reciprocal) 4294967296), mul-le-mul_left late within)

  estimate_near : share_total * late < (estimate + 1 + 1) * landings
  estimate_near =
      omega (
        arith,
        mul-le-mul_right landings (less_behind (late * reciprocal) 4294967296 (omega arith)),
        mul-le-mul_left late behind,
        mul-le-mul_right landings few,
        fits.some,
      )
    where
      few : late ≤ 4294967296
      few = omega (arith, fits.among, fits.small)

  -- which of the two it is
  pub one_more : (estimate + 1) * landings ≤ share_total * late → estimate + 1 ≡ share_of landings late
  one_more reaches = sym (div-eq_of_lt-le landings reaches estimate_near)

  pub as_estimated : share_total * late < (estimate + 1) * landings → estimate ≡ share_of landings late
  as_estimated past = sym (div-eq_of_lt-le landings estimate_below past)
