-- Both calls end in one of the ways of document 02, by the outcomes' rules. Assumes nothing.
use Prim.Native.Nat.{ℕ, zero, suc, ◌≤◌}
use mathlib.Core.Bool.{true, false, ◌&&◌}
use mathlib.Core.List.{List, [], ◌∷◌}
use mathlib.Core.Logic.{inl, inr}
use mathlib.Core.Path.{◌≡◌, refl, sym, subst}
use native.Mathlib.Omega.{arith}
use lib.Dec.{leb, ltb}
use lib.ListN.{length, length-set}
use lib.Seq.{get_or-set_same, get_or-set_other}
use borrow.Author.Tests.{leb-true, leb-false, ltb-true, ltb-false}
use Rattle.laws.proofs.Tests.{ifb, both_left, both_right}
use Rattle.file_layout.specs.declared.Format.{Format}
use Rattle.tally.specs.declared.Landing.{Landing}
use Rattle.tally.specs.Tally.{counts, count_at, place_of, most_count, counts_rule, minutes_rule, with_landing}
use Rattle.tally.specs.Outcome.{TallyOutcome, landing_outcome}
use Rattle.tally.specs.Returned.{MinuteAbove, CountAbove, GrownAt, LandingEnds, minute, above, full, counted}
use Rattle.tally.proofs.Places.{place_inside}
use Rattle.tally.proofs.Answers.{minute_refused, count_refused, full_refused, landing_counted}

-- the tests in words
minutes_kept : (f : Format) (l : Landing) → minutes_rule f l ≡ true → MinuteAbove f l → ⊥
unfolding minutes_rule
minutes_kept f l kept (inl late) = omega (arith, leb-true l.planned f.lastminute (both_left _ _ kept))
minutes_kept f l kept (inr late) = omega (arith, leb-true l.actual f.lastminute (both_right (leb l.planned f.lastminute) _ kept))

pub minutes_broken : (f : Format) (l : Landing) → minutes_rule f l ≡ false → MinuteAbove f l
unfolding minutes_rule
minutes_broken f l broken =
    ifb (λ t. (t && leb l.actual f.lastminute) ≡ false → MinuteAbove f l) (leb l.planned f.lastminute)
    (λ yes fails. inr (leb-false l.actual f.lastminute fails)) (λ no fails. inl (leb-false l.planned f.lastminute no)) broken

pub counts_kept : (tally : List ℕ) → counts_rule tally ≡ true → (place : ℕ) → count_at tally place ≤ most_count
unfolding counts_rule
counts_kept [] kept place = omega arith
counts_kept (c ∷ tally) kept zero = leb-true c most_count (both_left (leb c most_count) (counts_rule tally) kept)
counts_kept (c ∷ tally) kept (suc place) = counts_kept tally (both_right (leb c most_count) (counts_rule tally) kept) place

pub none_above : (tally : List ℕ) → counts_rule tally ≡ true → CountAbove tally → ⊥
none_above tally kept (place, inside, high) = omega (arith, counts_kept tally kept place)

pub counts_broken : (tally : List ℕ) → counts_rule tally ≡ false → CountAbove tally
unfolding counts_rule
counts_broken [] broken = absurd (let z : ◌≡◌ {A = ℕ} 0 1 = cc in let y : ⊥ = omega arith in y)
counts_broken (c ∷ tally) broken =
    ifb (λ t. (t && counts_rule tally) ≡ false → CountAbove (c ∷ tally)) (leb c most_count)
    (λ yes fails. let later = counts_broken tally fails in (suc later.0, omega (arith, later.1), later.2))
    (λ no fails. (0, omega arith, leb-false c most_count no)) broken

-- exactly one count grows by one
pub one_grows : (top : ℕ) (l : Landing) (tally : List ℕ) → length tally ≡ counts top → GrownAt (place_of top l) tally (with_landing top l tally)
unfolding with_landing
one_grows top l tally sized = record {
  one_more = get_or-set_same tally (place_of top l) (suc (count_at tally (place_of top l))) 0 (omega (arith, place_inside top l));
  others = λ other apart_from. get_or-set_other tally (place_of top l) other (suc (count_at tally (place_of top l))) 0 apart_from;
  same_length = length-set tally (place_of top l) (suc (count_at tally (place_of top l)));
}

-- a landing ends in one of four ways
pub landing_ends : (f : Format) (l : Landing) (tally : List ℕ)
    → LandingEnds f l tally (landing_outcome f l tally).answer (landing_outcome f l tally).tally
landing_ends f l tally =
    ifb (λ t. minutes_rule f l ≡ t → Ends) (minutes_rule f l)
    (λ timely same.
    ifb (λ t. counts_rule tally ≡ t → Ends) (counts_rule tally)
    (λ kept again.
    ifb (λ t. ltb count most_count ≡ t → Ends) (ltb count most_count)
    (λ room this. by (landing_counted f l tally same again (ltb-true count most_count this))
    (counted (minutes_kept f l same) (none_above tally again) (λ at. omega (arith, ltb-true count most_count this))))
    (λ at this. by (full_refused f l tally same again (ltb-false count most_count this))
    (full (minutes_kept f l same) (none_above tally again) (omega (arith, ltb-false count most_count this, counts_kept tally again (place_of f.delay l))))) refl)
    (λ broken again. by (count_refused f l tally same again) (above (minutes_kept f l same) (counts_broken tally again))) refl)
    (λ late same. by (minute_refused f l tally same) (minute (minutes_broken f l same))) refl
  where
    Ends : Type 0
    Ends = LandingEnds f l tally (landing_outcome f l tally).answer (landing_outcome f l tally).tally

    count : ℕ
    count = count_at tally (place_of f.delay l)

    by : {o : TallyOutcome} → landing_outcome f l tally ≡ o → LandingEnds f l tally o.answer o.tally → Ends
    by told ends = subst (λ (o : TallyOutcome). LandingEnds f l tally o.answer o.tally) (sym told) ends
