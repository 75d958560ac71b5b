-- A class's shares one by one: where each stands, and how sums over the first of them grow. Assumes nothing.
use Prim.Native.Nat.{ℕ, zero, suc, ◌+◌, ◌*◌, ◌≤◌, ◌<◌}
use mathlib.Core.List.{List, [], ◌∷◌}
use mathlib.Core.Logic.{◌⊎◌, inl, inr}
use mathlib.Core.Path.{◌≡◌, refl, sym, ap, subst, ◌∙◌}
use native.Mathlib.Nat.{eq-or-lt_of_le, mul-le-mul_left, add-zero, zero-add, add-suc, suc-add, add_assoc, not-suc-le-zero, le_of_suc-le-suc}
use native.Mathlib.Omega.{arith}
use lib.ListN.{length, get_or, take, set}
use lib.Seq.{get_or-set_same, get_or-set_other}
use Rattle.timetable.specs.Classes.{share_total, sum}
use Rattle.file_layout.specs.Decode.{shares_from}
use Rattle.numbers.specs.Numbers.{u16_at}
use Rattle.file_layout.proofs.Blocks.{shares_length, share_at}
use Rattle.plans.specs.Worth.{weigh}
use Rattle.plan_cells.proofs.Outside.{outside_same, outside_then, outside_wider, outside_set}
use Rattle.plan_shares.specs.Summed.{SharesStand, Summed}

pub sum_more : (xs : List ℕ) (k : ℕ) → k < length xs → sum (take (suc k) xs) ≡ sum (take k xs) + get_or xs k 0
unfolding sum
sum_more [] k h = absurd (not-suc-le-zero h)
sum_more (x ∷ xs) zero h = add-zero x ∙ sym (zero-add x)
sum_more (x ∷ xs) (suc k) h = ap (λ n. x + n) (sum_more xs k (le_of_suc-le-suc h)) ∙ sym (add_assoc x (sum (take k xs)) (get_or xs k 0))

pub weigh_more : (xs : List ℕ) (a k : ℕ) (f : ℕ → ℕ) → k < length xs
    → weigh (take (suc k) xs) a f ≡ weigh (take k xs) a f + get_or xs k 0 * f (a + k)
unfolding weigh
weigh_more [] a k f h = absurd (not-suc-le-zero h)
weigh_more (x ∷ xs) a zero f h = add-zero (x * f a) ∙ sym (zero-add (x * f a)) ∙ ap (λ n. 0 + x * f n) (sym (add-zero a))
weigh_more (x ∷ xs) a (suc k) f h =
    ap (λ n. x * f a + n)
    (weigh_more xs (suc a) k f (le_of_suc-le-suc h)
    ∙ ap (λ n. weigh (take k xs) (suc a) f + get_or xs k 0 * f n) (suc-add a k ∙ sym (add-suc a k)))
    ∙ sym (add_assoc (x * f a) (weigh (take k xs) (suc a) f) (get_or xs k 0 * f (a + suc k)))

pub sum_part : (xs : List ℕ) (k : ℕ) → sum (take k xs) ≤ sum xs
unfolding sum
sum_part [] zero = omega arith
sum_part [] (suc k) = omega arith
sum_part (x ∷ xs) zero = omega arith
sum_part (x ∷ xs) (suc k) = omega (arith, sum_part xs k)

pub summed_none : (cells : List ℕ) (into : ℕ) (shares : List ℕ) → Summed cells cells into shares 0
summed_none cells into shares =
    record { sums = λ v h. absurd (not-suc-le-zero h); outside = outside_same into (into + 0) cells }

-- one running sum more
pub summed_more : (cells cells' : List ℕ) (into : ℕ) (shares : List ℕ) (k total : ℕ) → into + k < length cells
    → total ≡ sum (take (suc k) shares) → Summed cells cells' into shares k → Summed cells (set cells' (into + k) total) into shares (suc k)
summed_more cells cells' into shares k total h e s =
    record {
      sums = λ v l. at v (eq-or-lt_of_le (let z : v ≤ k = omega arith in z));
      outside =
          outside_then (outside_wider (omega arith) (omega arith) s.outside) (outside_set cells' (into + k) total (omega arith) (omega arith));
    }
  where
    at : (v : ℕ) → (v ≡ k) ⊎ (v < k) → get_or (set cells' (into + k) total) (into + v) 0 ≡ sum (take (suc v) shares)
    at v (inl q) =
        ap (λ n. get_or (set cells' (into + k) total) (into + n) 0) q
        ∙ get_or-set_same cells' (into + k) total 0 (omega (arith, s.outside.same_length))
        ∙ e ∙ ap (λ n. sum (take (suc n) shares)) (sym q)
    at v (inr l) = get_or-set_other cells' (into + k) (into + v) total 0 (λ q. let z : ⊥ = omega arith in z) ∙ s.sums v l

-- after `minute` shares: their sum, the sum of delay × share, and the cells
pub record SoFar (file : List ℕ) (at maximum into : ℕ) (cells cells' : List ℕ) (minute total late : ℕ) : Type 0 where
  pub not_past : minute ≤ suc maximum
  pub total_sum : total ≡ sum (take minute (shares_from file at (suc maximum)))
  pub late_sum : late ≡ weigh (take minute (shares_from file at (suc maximum))) 0 (λ v. v)
  pub late_small : late ≤ 254 * total
  pub summed : Summed cells cells' into (shares_from file at (suc maximum)) minute

pub so_far_none : (file : List ℕ) (at maximum into : ℕ) (cells : List ℕ) → SoFar file at maximum into cells cells 0 0 0
unfolding sum weigh
so_far_none file at maximum into cells =
    record {
      not_past = omega arith;
      total_sum = refl;
      late_sum = refl;
      late_small = omega arith;
      summed = summed_none cells into (shares_from file at (suc maximum));
    }

-- one share more
module _
    {file : List ℕ}
    {at maximum into : ℕ}
    {cells cells' : List ℕ}
    {minute total late share : ℕ}
    (stand : SharesStand file at maximum)
    (so_far : SoFar file at maximum into cells cells' minute total late)
    (inside : minute ≤ maximum)
    (here : share ≡ u16_at file (at + 2 * minute))
  where
    below : minute < length (shares_from file at (suc maximum))
    below = omega (arith, shares_length file at (suc maximum))

    next_share : get_or (shares_from file at (suc maximum)) minute 0 ≡ share
    next_share = share_at file at (suc maximum) minute (omega arith) ∙ sym here

    total_next : total + share ≡ sum (take (suc minute) (shares_from file at (suc maximum)))
    total_next =
        sym
        (sum_more (shares_from file at (suc maximum)) minute below
        ∙ ap (λ n. sum (take minute (shares_from file at (suc maximum))) + n) next_share
        ∙ ap (λ n. n + share) (sym so_far.total_sum))

    -- no sum so far is more than the whole, nor more than 254 wholes
    pub total_small : total + share ≤ share_total
    total_small = omega (arith, total_next, sum_part (shares_from file at (suc maximum)) (suc minute), stand.not_more)

    late_more : late + share * minute ≤ 254 * (total + share)
    late_more = omega (arith, mul-le-mul_left {m = minute} {n = 254} share (omega (arith, stand.few)), so_far.late_small)

    pub late_whole : late + share * minute ≤ 254 * share_total
    late_whole = omega (arith, late_more, total_small)

    late_next : late + share * minute ≡ weigh (take (suc minute) (shares_from file at (suc maximum))) 0 (λ v. v)
    late_next =
        sym
        (weigh_more (shares_from file at (suc maximum)) 0 minute (λ v. v) below
        ∙ ap (λ n. weigh (take minute (shares_from file at (suc maximum))) 0 (λ v. v) + get_or (shares_from file at (suc maximum)) minute 0 * n)
        (zero-add minute)
        ∙ ap (λ n. weigh (take minute (shares_from file at (suc maximum))) 0 (λ v. v) + n * minute) next_share
        ∙ ap (λ n. n + share * minute) (sym so_far.late_sum))

    pub so_far_more : into + maximum < length cells
        → SoFar file at maximum into cells (set cells' (into + minute) (total + share)) (minute + 1) (total + share) (late + share * minute)
    so_far_more room =
        let one : suc minute ≡ minute + 1 = omega arith in
        record {
          not_past = omega arith;
          total_sum = total_next ∙ ap (λ n. sum (take n (shares_from file at (suc maximum)))) one;
          late_sum = late_next ∙ ap (λ n. weigh (take n (shares_from file at (suc maximum))) 0 (λ v. v)) one;
          late_small = late_more;
          summed =
              subst (Summed cells (set cells' (into + minute) (total + share)) into (shares_from file at (suc maximum))) one
              (summed_more cells cells' into (shares_from file at (suc maximum)) minute (total + share) (omega arith) total_next so_far.summed);
        }
