-- A landing that is counted leaves all counts within their limit. Assumes nothing.
use Prim.Native.Nat.{ℕ, suc, ◌<◌, ◌≤◌}
use mathlib.Core.Bool.{true}
use mathlib.Core.List.{List, [], ◌∷◌}
use mathlib.Core.Path.{◌≡◌, refl, ap, sym, subst, ◌∙◌}
use native.Mathlib.Omega.{arith}
use lib.Dec.{eqb, ltb}
use lib.ListN.{length}
use borrow.Author.Tests.{eqb-true, eqb-false, ltb-true, ltb-false, le-leb}
use Rattle.laws.proofs.Tests.{ifb, both}
use Rattle.std.specs.Prelude.{Ok}
use Rattle.file_layout.specs.declared.Format.{Format}
use Rattle.tally.specs.declared.Landing.{Landing}
use Rattle.tally.specs.Tally.{counts, count_at, place_of, most_count, counts_rule, with_landing}
use Rattle.tally.specs.Outcome.{landing_outcome}
use Rattle.tally.proofs.Ends.{counts_kept, counts_broken, one_grows, landing_ends}
use Rattle.tally.proofs.Endings.{counted_told}

-- counts that are each within the limit keep the rule
pub limit_kept : (tally : List ℕ) → ((place : ℕ) → place < length tally → count_at tally place ≤ most_count) → counts_rule tally ≡ true
unfolding counts_rule
limit_kept [] within = refl
limit_kept (c ∷ tally) within =
    both (le-leb c most_count (within 0 (omega arith))) (limit_kept tally (λ place inside. within (suc place) (omega (arith, inside))))

-- a landing for a count below its limit leaves all counts within it
pub still_kept : (top : ℕ) (l : Landing) (tally : List ℕ) → length tally ≡ counts top → ((place : ℕ) → count_at tally place ≤ most_count)
    → (count_at tally (place_of top l) ≡ most_count → ⊥) → (place : ℕ) → count_at (with_landing top l tally) place ≤ most_count
still_kept top l tally sized kept room place =
    let grown = one_grows top l tally sized in
    ifb (λ t. eqb place (place_of top l) ≡ t → count_at (with_landing top l tally) place ≤ most_count) (eqb place (place_of top l))
    (λ yes same.
    subst (λ (p : ℕ). count_at (with_landing top l tally) p ≤ most_count) (sym (eqb-true place (place_of top l) same))
    (ifb (λ t. eqb (count_at tally (place_of top l)) most_count ≡ t → count_at (with_landing top l tally) (place_of top l) ≤ most_count)
    (eqb (count_at tally (place_of top l)) most_count) (λ at again. absurd (room (eqb-true (count_at tally (place_of top l)) most_count again)))
    (λ below again.
    let less : count_at tally (place_of top l) < most_count =
    below_of (count_at tally (place_of top l)) (kept (place_of top l)) (eqb-false (count_at tally (place_of top l)) most_count again)
    in
    omega (arith, grown.one_more, less)) refl))
    (λ no same. omega (arith, grown.others place (eqb-false place (place_of top l) same), kept place)) refl
  where
    below_of : (c : ℕ) → c ≤ most_count → (c ≡ most_count → ⊥) → c < most_count
    below_of c within apart_from =
        ifb (λ t. ltb c most_count ≡ t → c < most_count) (ltb c most_count) (λ yes same. ltb-true c most_count same)
        (λ no same. absurd (apart_from (omega (arith, ltb-false c most_count same)))) refl

-- so of a tally in which a landing is counted no count is above its limit, before and afterwards
pub counted_keeps : (f : Format) (l : Landing) (tally : List ℕ) → length tally ≡ counts f.delay → (landing_outcome f l tally).answer ≡ Ok tt
    → (counts_rule tally ≡ true) × (counts_rule (landing_outcome f l tally).tally ≡ true)
counted_keeps f l tally sized told =
    let found = counted_told (landing_ends f l tally) told in
    let kept : counts_rule tally ≡ true =
    ifb (λ t. counts_rule tally ≡ t → counts_rule tally ≡ true) (counts_rule tally) (λ yes same. same)
    (λ no same. absurd (found.1 (counts_broken tally same))) refl
    in (
      kept,
      ap counts_rule found.3
          ∙ limit_kept (with_landing f.delay l tally) (λ place inside. still_kept f.delay l tally sized (counts_kept tally kept) found.2 place),
    )

pub kept_on : (f : Format) (l : Landing) (tally tally' : List ℕ) → length tally ≡ counts f.delay → tally' ≡ (landing_outcome f l tally).tally
    → (landing_outcome f l tally).answer ≡ Ok tt → counts_rule tally ≡ counts_rule tally'
kept_on f l tally tally' sized left told = let kept = counted_keeps f l tally sized told in kept.0 ∙ sym kept.1 ∙ ap counts_rule (sym left)
