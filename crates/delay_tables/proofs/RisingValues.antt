-- Values of a function at delays 0, 1, .. M that rise from delay to delay, and only at M reach 4,096, are cumulative shares. Assumes nothing.
use Prim.Native.Nat.{ℕ, suc, pred, ◌<◌, ◌≤◌}
use mathlib.Core.Path.{◌≡◌, ap, ◌∙◌}
use native.Mathlib.Omega.{arith}
use lib.ListN.{length, get_or}
use Rattle.timetable.specs.Timetable.{maximum_delay}
use Rattle.timetable.specs.Classes.{share_total}
use Rattle.delay_tables.specs.Rising.{Rising, values_from}
use Rattle.delay_tables.proofs.Values.{length_values, value_at}

module _ (f : ℕ → ℕ) (m : ℕ) where
  delay_at : (x : ℕ) → x ≤ m → get_or (values_from f 0 (suc m)) x 0 ≡ f x
  delay_at x h = value_at f 0 (suc m) x (omega arith) ∙ ap f (omega arith)

  pub rising_values : ((x : ℕ) → x < m → f x ≤ f (suc x)) → ((x : ℕ) → x < m → f x < share_total) → f m ≡ share_total
      → Rising (values_from f 0 (suc m))
  rising_values rises below whole = record {
    never_falls = λ x h.
        let inside : x < m = omega (arith, length_values f 0 (suc m), h) in
        rw (delay_at x (omega (arith, inside)), delay_at (suc x) inside) (rises x inside);
    ends_whole = rw last (delay_at m (omega arith) ∙ whole);
    rises_last = λ some.
        let more : pred m < m = omega (arith, last, some) in
        rw (last, delay_at (pred m) (omega (arith, more))) (below (pred m) more);
  }
    where
      last : maximum_delay (values_from f 0 (suc m)) ≡ m
      last = ap pred (length_values f 0 (suc m))
