-- Laws on the greatest lateness tallied, found by looking down: left early, one step more, the end; and that it is the greatest.
-- Assumes nothing.
use Prim.Native.Nat.{ℕ, zero, suc, ◌+◌, ◌-◌, ◌<◌, ◌≤◌}
use mathlib.Core.Bool.{Bool, cond}
use mathlib.Core.List.{List}
use mathlib.Core.Path.{◌≡◌, refl, ap, sym, ◌∙◌}
use native.Mathlib.Omega.{arith}
use lib.Dec.{leb, ltb}
use lib.ListN.{length, get_or, take}
use lib.Seq.{length-take-le}
use Rattle.std.proofs.lemmas.List.{get_or-take}
use borrow.Author.Tests.{le-ltb, ltb-true, ltb-false, leb-true, leb-false}
use Rattle.laws.proofs.Tests.{ifb, cond_false}
use Rattle.tally.specs.Tally.{count_at}
use Rattle.tally_table.specs.Table.{landings_by, landings_tallied, IsGreatest, greatest_late}
use Rattle.tally_table.proofs.Shares.{sum_more, first_landings}

pub found_within : (x : ℕ) (tally : List ℕ) → greatest_late x tally ≤ x
unfolding greatest_late
found_within zero tally = omega arith
found_within (suc x) tally =
    ifb (λ t. cond t (suc x) (greatest_late x tally) ≤ suc x) (ltb 0 (count_at tally (suc x))) (λ yes. omega arith)
    (λ no. omega (arith, found_within x tally))

-- nothing later is tallied
found_none_later : (top : ℕ) (tally : List ℕ) (x : ℕ) → greatest_late top tally < x → x ≤ top → count_at tally x ≡ 0
unfolding greatest_late
found_none_later zero tally x h inside = absurd (let z : ⊥ = omega arith in z)
found_none_later (suc top) tally x h inside =
    ifb (λ t. cond t (suc top) (greatest_late top tally) < x → count_at tally x ≡ 0) (ltb 0 (count_at tally (suc top)))
    (λ yes past. absurd (let z : ⊥ = omega arith in z))
    (λ no past.
    ifb (λ t. leb x top ≡ t → count_at tally x ≡ 0) (leb x top)
    (λ below same. found_none_later top tally x past (leb-true x top same))
    (λ above same.
    (let last : x ≡ suc top = omega (arith, leb-false x top same) in ap (count_at tally) last)
    ∙ (let zero_count : count_at tally (suc top) ≡ 0 = omega (arith, ltb-false 0 (count_at tally (suc top)) no) in zero_count)) refl) h

-- and it is tallied itself, if anything is
found_tallied : (top : ℕ) (tally : List ℕ) → 0 < landings_tallied top tally → 0 < count_at tally (greatest_late top tally)
unfolding greatest_late
found_tallied zero tally some = omega (arith, first_landings tally)
found_tallied (suc top) tally some =
    ifb (λ t. 0 < count_at tally (cond t (suc top) (greatest_late top tally))) (ltb 0 (count_at tally (suc top)))
    (λ yes. ltb-true 0 (count_at tally (suc top)) yes)
    (λ no. found_tallied top tally (omega (arith, sum_more tally (suc top), ltb-false 0 (count_at tally (suc top)) no)))

-- M is the greatest lateness tallied
pub found_greatest : (top : ℕ) (tally : List ℕ) → 0 < landings_tallied top tally → IsGreatest top tally (greatest_late top tally)
found_greatest top tally some = record {
  no_later = found_within top tally;
  tallied = found_tallied top tally some;
  none_later = found_none_later top tally;
}

-- and there is one such
pub one_greatest : {top : ℕ} {tally : List ℕ} {m n : ℕ} → IsGreatest top tally m → IsGreatest top tally n → m ≡ n
one_greatest {top} {tally} {m} {n} first second =
    ifb (λ t. ltb m n ≡ t → m ≡ n) (ltb m n)
    (λ less same. absurd (let z : ⊥ = omega (arith, first.none_later n (ltb-true m n same) second.no_later, second.tallied) in z))
    (λ more same.
    ifb (λ t. ltb n m ≡ t → m ≡ n) (ltb n m)
    (λ less again. absurd (let z : ⊥ = omega (arith, second.none_later m (ltb-true n m again) first.no_later, first.tallied) in z))
    (λ equal again. omega (arith, ltb-false m n same, ltb-false n m again)) refl) refl

-- all landings tallied are by then
pub all_by_greatest : (top : ℕ) (tally : List ℕ) (m : ℕ) → m ≤ top → ((x : ℕ) → m < x → x ≤ top → count_at tally x ≡ 0)
    → landings_by tally m ≡ landings_by tally top
all_by_greatest zero tally m inside none = ap (landings_by tally) (let only : m ≡ 0 = omega arith in only)
all_by_greatest (suc top) tally m inside none =
    ifb (λ t. leb m top ≡ t → landings_by tally m ≡ landings_by tally (suc top)) (leb m top)
    (λ below same.
    omega (
      arith,
      sum_more tally (suc top),
      none (suc top) (omega (arith, leb-true m top same)) (omega arith),
      all_by_greatest top tally m (leb-true m top same) (λ x past within. none x past (omega (arith, within))),
    ))
    (λ above same. ap (landings_by tally) (let last : m ≡ suc top = omega (arith, leb-false m top same) in last)) refl

-- the last count that is not 0 stands at the greatest lateness found by looking down
found_last : (top : ℕ) (tally : List ℕ) (i : ℕ) → i ≤ top → 0 < count_at tally i → ((k : ℕ) → i < k → k ≤ top → count_at tally k ≡ 0)
    → i ≡ greatest_late top tally
unfolding greatest_late
found_last zero tally i inside some none = omega arith
found_last (suc top) tally i inside some none =
    ifb (λ t. i ≡ cond t (suc top) (greatest_late top tally)) (ltb 0 (count_at tally (suc top)))
    (λ yes.
    ifb (λ (_ : Bool). i ≡ suc top) (leb i top)
    (λ below. absurd (omega (arith, ltb-true 0 _ yes, none (suc top) (omega (arith, leb-true i top below)) (omega arith))))
    (λ at. omega (arith, leb-false i top at)))
    (λ no.
    ifb (λ (_ : Bool). i ≡ greatest_late top tally) (leb i top)
    (λ below. found_last top tally i (leb-true i top below) some (λ k past within. none k past (omega arith)))
    (λ at. let last : i ≡ suc top = omega (arith, leb-false i top at) in absurd (omega (arith, ltb-false 0 _ no, ap (count_at tally) last))))

found_none : (top : ℕ) (tally : List ℕ) → ((k : ℕ) → 1 ≤ k → k ≤ top → count_at tally k ≡ 0) → 0 ≡ greatest_late top tally
unfolding greatest_late
found_none zero tally none = refl
found_none (suc top) tally none =
    found_none top tally (λ k some within. none k some (omega arith))
    ∙ sym (cond_false _ _ (le-ltb 0 (count_at tally (suc top)) (omega (arith, none (suc top) (omega arith) (omega arith)))))

pub last_found : (tally : List ℕ) (i x : ℕ) → x ≡ suc i → i < length tally → 0 < get_or tally i 0
    → ((k : ℕ) → x ≤ k → k < length tally → get_or tally k 0 ≡ 0) → i ≡ greatest_late (length tally - 1) tally
last_found tally i x next inside some none =
    found_last (length tally - 1) tally i (omega arith) some (λ k past within. none k (omega arith) (omega arith))

pub none_found : (tally : List ℕ) (x : ℕ) → x ≤ 1 → ((k : ℕ) → x ≤ k → k < length tally → get_or tally k 0 ≡ 0)
    → 0 ≡ greatest_late (length tally - 1) tally
none_found tally x first none = found_none (length tally - 1) tally (λ k some within. none k (omega arith) (omega arith))

-- which depends on the counts up to the top one alone
same_late : (top : ℕ) (one other : List ℕ) → ((k : ℕ) → k ≤ top → count_at one k ≡ count_at other k) → greatest_late top one ≡ greatest_late top other
unfolding greatest_late
same_late zero one other same = refl
same_late (suc top) one other same =
    ap (λ (n : ℕ). cond (ltb 0 n) (suc top) (greatest_late top one)) (same (suc top) (omega arith))
    ∙ ap (cond (ltb 0 (count_at other (suc top))) (suc top)) (same_late top one other (λ k within. same k (omega arith)))

pub first_decide : (top : ℕ) (tally : List ℕ) (delay : ℕ) → top < length tally
    → delay ≡ greatest_late (length (take (top + 1) tally) - 1) (take (top + 1) tally) → delay ≡ greatest_late top tally
first_decide top tally delay inside found =
    found
    ∙ ap (λ (n : ℕ). greatest_late n (take (top + 1) tally))
    (let last : length (take (top + 1) tally) - 1 ≡ top = omega (arith, length-take-le (top + 1) tally (omega arith)) in last)
    ∙ same_late top (take (top + 1) tally) tally (λ k within. get_or-take (top + 1) tally k 0 (omega arith))
