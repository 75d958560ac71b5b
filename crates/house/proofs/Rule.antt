-- The cumulative share by any change time and parameter: 0 at 0, 4,096 at M and less before it, and never falling. Assumes nothing.
use Prim.Native.Nat.{ℕ, zero, suc, ◌+◌, ◌*◌, ◌-◌, ◌<◌, ◌≤◌}
use mathlib.Core.Path.{◌≡◌, ◌∙◌}
use mathlib.Core.Bool.{Bool}
use native.Mathlib.Omega.{arith}
use native.Mathlib.Nat.{mul-le-mul}
use lib.Dec.{leb}
use borrow.Author.Tests.{leb-true, leb-false, le-leb, lt-leb, ne_eqb}
use Rattle.laws.proofs.Tests.{ifb, cond_true, cond_false}
use Rattle.laws.proofs.Quotients.{quotient_rises, quotient_below}
use Rattle.timetable.specs.Classes.{share_total}
use Rattle.house.specs.House.{up_to_change, past_change, between, cumulative}

-- the share rises up to the change time
up_rises : (m x : ℕ) → suc x ≤ m → up_to_change m x ≤ up_to_change m (suc x)
up_rises m x h =
    quotient_rises (share_total * (2 * x)) (6 * m - 3 * x) (share_total * (2 * suc x)) (6 * m - 3 * suc x) (omega arith) (omega arith)
    (mul-le-mul (omega arith) (omega arith))

-- it rises over the change time
change_rises : (m d : ℕ) → 0 < m → up_to_change m m ≤ past_change d 1
change_rises m d some =
    quotient_rises (share_total * (2 * m)) (6 * m - 3 * m) (share_total * (31 * 1 + 2 * d)) (30 * 1 + 3 * d) (omega arith) (omega arith)
    (let three : 6 * m - 3 * m ≡ 3 * m = omega arith in rw three (omega arith))

-- and past it
past_rises : (d y : ℕ) → 0 < y → past_change d y ≤ past_change d (suc y)
past_rises d y some =
    quotient_rises (share_total * (31 * y + 2 * d)) (30 * y + 3 * d) (share_total * (31 * suc y + 2 * d)) (30 * suc y + 3 * d) (omega arith)
    (omega arith) (omega arith)

up_below : (m x : ℕ) → x ≤ m → 0 < m → up_to_change m x < share_total
up_below m x h some = quotient_below (share_total * (2 * x)) (6 * m - 3 * x) share_total (omega arith) (omega arith)

past_below : (d y : ℕ) → y < d → past_change d y < share_total
past_below d y h = quotient_below (share_total * (31 * y + 2 * d)) (30 * y + 3 * d) share_total (omega arith) (omega arith)

-- the cumulative share where it is by the distribution: 0 < x < M
inner : (m d x : ℕ) → 0 < x → x < m + d → cumulative m d x ≡ between m d x
unfolding cumulative
inner m d x some h =
    cond_false _ _ (lt-leb (m + d) x h) ∙ cond_false _ _ (ne_eqb x 0 (λ none. omega arith))

between_up : (m d x : ℕ) → x ≤ m → between m d x ≡ up_to_change m x
unfolding between
between_up m d x h = cond_true _ _ (le-leb x m h)

between_past : (m d x : ℕ) → m < x → between m d x ≡ past_change d (x - m)
unfolding between
between_past m d x h = cond_false _ _ (lt-leb x m h)

-- which up to the change time is the one form, and past it the other
pub cumulative_up : (m d x : ℕ) → 0 < x → x < m + d → x ≤ m → cumulative m d x ≡ up_to_change m x
cumulative_up m d x some h up = inner m d x some h ∙ between_up m d x up

pub cumulative_past : (m d x : ℕ) → x < m + d → m < x → cumulative m d x ≡ past_change d (x - m)
cumulative_past m d x h past = inner m d x (omega arith) h ∙ between_past m d x past

between_below : (m d x : ℕ) → 0 < x → x < m + d → between m d x < share_total
between_below m d x some h =
    ifb (λ (_ : Bool). between m d x < share_total) (leb x m)
    (λ up. rw (between_up m d x (leb-true x m up)) (up_below m x (leb-true x m up) (omega (arith, leb-true x m up))))
    (λ past. rw (between_past m d x (leb-false x m past)) (past_below d (x - m) (omega (arith, leb-false x m past))))

between_rises : (m d x : ℕ) → 0 < x → between m d x ≤ between m d (suc x)
between_rises m d x some =
    ifb (λ (_ : Bool). between m d x ≤ between m d (suc x)) (leb (suc x) m)
    (λ up. rw (between_up m d x (omega (arith, leb-true (suc x) m up)), between_up m d (suc x) (leb-true (suc x) m up))
    (up_rises m x (leb-true (suc x) m up)))
    (λ past. ifb (λ (_ : Bool). between m d x ≤ between m d (suc x)) (leb x m)
    (λ up. over_change (leb-true x m up) (leb-false (suc x) m past))
    (λ left. past_change_lem (leb-false x m left)))
  where
    over_change : x ≤ m → m < suc x → between m d x ≤ between m d (suc x)
    over_change up past =
        let same : m ≡ x = omega arith in let one : suc x - m ≡ 1 = omega arith in
        rw (between_up m d x up, between_past m d (suc x) past, one, same) (change_rises x d some)

    past_change_lem : m < x → between m d x ≤ between m d (suc x)
    past_change_lem past =
        let next : suc x - m ≡ suc (x - m) = omega arith in
        rw (between_past m d x past, between_past m d (suc x) (omega arith), next) (past_rises d (x - m) (omega arith))

-- at 0, if M > 0, it is 0
pub at_zero : (m d : ℕ) → 0 < m + d → cumulative m d 0 ≡ 0
unfolding cumulative
at_zero m d h = cond_false _ _ (lt-leb (m + d) 0 h)

-- at x = M it is 4,096 always
pub at_latest : (m d x : ℕ) → m + d ≤ x → cumulative m d x ≡ share_total
unfolding cumulative
at_latest m d x h = cond_true _ _ (le-leb (m + d) x h)

-- before M the share is below 4,096
pub cumulative_below : (m d x : ℕ) → x < m + d → cumulative m d x < share_total
cumulative_below m d zero h = rw (at_zero m d h) (omega arith)
cumulative_below m d (suc x) h = rw (inner m d (suc x) (omega arith) h) (between_below m d (suc x) (omega arith) h)

pub cumulative_rises : (m d x : ℕ) → x < m + d → cumulative m d x ≤ cumulative m d (suc x)
cumulative_rises m d zero h = rw (at_zero m d h) (omega arith)
cumulative_rises m d (suc x) h =
    ifb (λ (_ : Bool). cumulative m d (suc x) ≤ cumulative m d (suc (suc x))) (leb (m + d) (suc (suc x)))
    (λ last. rw (at_latest m d (suc (suc x)) (leb-true (m + d) (suc (suc x)) last)) (omega (arith, cumulative_below m d (suc x) h)))
    (λ more. rw (inner m d (suc x) (omega arith) h, inner m d (suc (suc x)) (omega arith) (leb-false (m + d) (suc (suc x)) more))
    (between_rises m d (suc x) (omega arith)))
