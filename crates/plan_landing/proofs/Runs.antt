-- Sums over delays, in runs of delays that catch the same ride. Assumes nothing.
use Prim.Native.Nat.{ℕ, zero, suc, ◌+◌, ◌-◌, ◌*◌, ◌≤◌, ◌<◌}
use mathlib.Core.List.{List, [], ◌∷◌}
use mathlib.Core.Path.{◌≡◌, refl, sym, ap, ◌∙◌}
use native.Mathlib.Nat.{add-zero, mul-le-mul_left}
use native.Mathlib.Omega.{arith}
use lib.ListN.{length, take, drop, take-append-drop, length-drop}
use lib.Seq.{take-add, take-length, drop-length, drop-drop}
use Rattle.timetable.specs.Timetable.{maximum_delay}
use Rattle.timetable.specs.Classes.{sum}
use Rattle.plans.specs.Worth.{weigh}
use Rattle.plans.proofs.Weighing.{sum_append}

-- there is one share more than the maximum delay
pub longest_on : (xs : List ℕ) → 1 ≤ length xs → suc (maximum_delay xs) ≡ length xs
longest_on [] h = absurd (let z : ⊥ = omega arith in z)
longest_on (x ∷ xs) h = refl

-- the share of the first delays grows by that of the next ones
pub sum_take_on : (n m : ℕ) (xs : List ℕ) → sum (take (n + m) xs) ≡ sum (take n xs) + sum (take m (drop n xs))
sum_take_on n m xs = ap sum (take-add n m xs) ∙ sum_append (take n xs) (take m (drop n xs))

pub sum_rest : (n : ℕ) (xs : List ℕ) → sum xs ≡ sum (take n xs) + sum (drop n xs)
sum_rest n xs = ap sum (sym (take-append-drop n xs)) ∙ sum_append (take n xs) (drop n xs)

-- a run of delays of one worth
pub weigh_run : (xs : List ℕ) (m n w : ℕ) (f : ℕ → ℕ) → n ≤ length xs → ((v : ℕ) → m ≤ v → v < m + n → f v ≡ w)
    → weigh xs m f ≡ sum (take n xs) * w + weigh (drop n xs) (m + n) f
unfolding sum weigh
weigh_run xs m zero w f h same = ap (λ k. weigh xs k f) (sym (add-zero m)) ∙ omega arith
weigh_run [] m (suc n) w f h same = absurd (let z : ⊥ = omega arith in z)
weigh_run (p ∷ xs) m (suc n) w f h same =
    let here : p * f m ≡ p * w = ap (λ x. p * x) (same m (omega arith) (omega arith)) in
    let later = weigh_run xs (suc m) n w f (omega arith) (λ v l u. same v (omega arith) (omega arith)) in
    let next : suc m + n ≡ m + suc n = omega arith in
    let moved : weigh (drop n xs) (suc m + n) f ≡ weigh (drop n xs) (m + suc n) f = ap (λ k. weigh (drop n xs) k f) next in
    omega arith

pub sum_take_grows : (p q : ℕ) (xs : List ℕ) → p ≤ q → sum (take p xs) ≤ sum (take q xs)
sum_take_grows p q xs h =
    let on : p + (q - p) ≡ q = omega arith in
    omega (arith, sum_take_on p (q - p) xs, ap (λ k. sum (take k xs)) on)

-- delays from p up to q, as the growth of the cumulative share
pub weigh_on : (xs : List ℕ) (a p q w : ℕ) (f : ℕ → ℕ) → p ≤ q → q ≤ length xs → ((v : ℕ) → a + p ≤ v → v < a + q → f v ≡ w)
    → weigh (drop p xs) (a + p) f ≡ (sum (take q xs) - sum (take p xs)) * w + weigh (drop q xs) (a + q) f
weigh_on xs a p q w f h l same =
    let on : p + (q - p) ≡ q = omega arith in
    let there : a + p + (q - p) ≡ a + q = omega arith in
    let run = weigh_run (drop p xs) (a + p) (q - p) w f (omega (arith, length-drop p xs)) (λ v m u. same v m (omega arith)) in
    let grown : sum (take (q - p) (drop p xs)) ≡ sum (take q xs) - sum (take p xs) =
    omega (arith, sum_take_on p (q - p) xs, ap (λ k. sum (take k xs)) on)
    in
    let share : sum (take (q - p) (drop p xs)) * w ≡ (sum (take q xs) - sum (take p xs)) * w = ap (λ k. k * w) grown in
    let moved : weigh (drop (q - p) (drop p xs)) (a + p + (q - p)) f ≡ weigh (drop q xs) (a + q) f =
    ap (λ l. weigh l (a + p + (q - p)) f) (drop-drop (q - p) p xs ∙ ap (λ k. drop k xs) on) ∙ ap (λ k. weigh (drop q xs) k f) there
    in
    omega arith

-- all delays from p on
pub weigh_end : (xs : List ℕ) (a p w : ℕ) (f : ℕ → ℕ) → p ≤ length xs → ((v : ℕ) → a + p ≤ v → v < a + length xs → f v ≡ w)
    → weigh (drop p xs) (a + p) f ≡ (sum xs - sum (take p xs)) * w
unfolding weigh
weigh_end xs a p w f h same =
    let whole : sum (take (length xs) xs) ≡ sum xs = ap sum (take-length xs) in
    let share : (sum (take (length xs) xs) - sum (take p xs)) * w ≡ (sum xs - sum (take p xs)) * w = ap (λ k. (k - sum (take p xs)) * w) whole in
    let none : weigh (drop (length xs) xs) (a + length xs) f ≡ 0 = ap (λ l. weigh l (a + length xs) f) (drop-length xs) in
    let on = weigh_on xs a p (length xs) w f h (omega arith) same in
    omega arith

-- worths within a bound: their mean is within it
pub weigh_bound : (xs : List ℕ) (m w : ℕ) (f : ℕ → ℕ) → ((v : ℕ) → v < m + length xs → f v ≤ w) → weigh xs m f ≤ sum xs * w
unfolding sum weigh
weigh_bound [] m w f within = omega arith
weigh_bound (p ∷ xs) m w f within =
    let here = mul-le-mul_left p (within m (omega arith)) in
    let later = weigh_bound xs (suc m) w f (λ v h. within v (omega arith)) in
    omega arith
