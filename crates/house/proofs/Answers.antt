-- What is answered to a pair number and a minute, outside the eight tables and inside them. Assumes nothing.
use Prim.Native.Nat.{ℕ, ◌<◌, ◌≤◌}
use mathlib.Core.Path.{◌≡◌, refl, ap, sym, ◌∙◌}
use mathlib.Core.Bool.{Bool, true, false, ◌&&◌}
use mathlib.Core.Logic.{◌⊎◌, inl, inr}
use mathlib.Core.List.{[], ◌∷◌}
use native.Mathlib.Omega.{arith}
use lib.Dec.{ltb, leb}
use lib.ListN.{length}
use borrow.Author.Tests.{lt-ltb, le-ltb, le-leb, lt-leb, leb-true, leb-false}
use Rattle.laws.proofs.Tests.{ifb, both, cond_true, cond_false}
use Rattle.std.specs.Prelude.{Ok, Some, None}
use Rattle.std.specs.List.{slice_get}
use Rattle.std.proofs.lemmas.Option.{slice_get_within, get_or_from_slice_get, slice_get-get_or}
use Rattle.timetable.specs.Verdict.{refused}
use Rattle.house.specs.declared.Pair.{Pair}
use Rattle.house.specs.House.{maximum, pair_of, cumulative, house_pairs, no_pair}
use Rattle.house.specs.HouseShare.{in_house, Inside, Outside, house_share, house_answer}

second_fails : (a : Bool) {b : Bool} → b ≡ false → (a && b) ≡ false
second_fails true e = e
second_fails false e = refl

-- a pair number and a minute are inside the eight tables or not
pub inside_or_not : (pair minute : ℕ) → Outside pair minute ⊎ Inside pair minute
inside_or_not pair minute =
    ifb (λ (_ : Bool). Outside pair minute ⊎ Inside pair minute) (leb (length house_pairs) pair) (λ past. inl (inl (leb-true _ _ past)))
    (λ near. ifb (λ (_ : Bool). Outside pair minute ⊎ Inside pair minute) (leb minute (maximum (pair_of pair)))
    (λ inside. inr (leb-false _ _ near, leb-true _ _ inside)) (λ past. inl (inr (leb-false _ _ past))))

-- a pair number above 7
pub pair_refused : (pair minute : ℕ) → length house_pairs ≤ pair → refused 6 0 ≡ house_share pair minute
unfolding house_share in_house
pair_refused pair minute h = simp (le-ltb pair (length house_pairs) h)

-- a minute above M
pub minute_refused : (pair minute : ℕ) → maximum (pair_of pair) < minute → refused 6 0 ≡ house_share pair minute
unfolding house_share in_house
minute_refused pair minute h =
    sym (cond_false _ _ (second_fails (ltb pair (length house_pairs)) (lt-leb minute (maximum (pair_of pair)) h)))

-- inside the eight tables, the share by the rule
pub share_inside : (pair minute : ℕ) → pair < length house_pairs → minute ≤ maximum (pair_of pair)
    → house_share pair minute ≡ Ok (cumulative (pair_of pair).change (pair_of pair).parameter minute)
unfolding house_share in_house
share_inside pair minute h inside =
    cond_true _ _ (both (lt-ltb pair (length house_pairs) h) (le-leb minute (maximum (pair_of pair)) inside))

-- a pair that is found by its number is of the eight, and what is not found is none of them
found_pair : (pair : ℕ) (house : Pair) → slice_get house_pairs pair ≡ Some house → (pair < length house_pairs) × (house ≡ pair_of pair)
found_pair pair house found = (slice_get_within house_pairs pair house found, sym (get_or_from_slice_get house_pairs pair house no_pair found))

pub pair_missing : (pair minute : ℕ) → slice_get house_pairs pair ≡ None → refused 6 0 ≡ house_share pair minute
pair_missing pair minute none =
    pair_refused pair minute
    (ifb (λ (_ : Bool). length house_pairs ≤ pair) (leb (length house_pairs) pair) (leb-true _ _)
    (λ near. let found = slice_get-get_or house_pairs pair no_pair (leb-false _ _ near) in cc))

pub minute_past : (pair minute : ℕ) (house : Pair) → slice_get house_pairs pair ≡ Some house → maximum house < minute
    → refused 6 0 ≡ house_share pair minute
minute_past pair minute house found past = minute_refused pair minute (omega (arith, ap maximum (found_pair pair house found).1))

pub share_answered : (pair minute share : ℕ) (house : Pair) → slice_get house_pairs pair ≡ Some house → minute ≤ maximum house
    → share ≡ cumulative house.change house.parameter minute → Ok share ≡ house_share pair minute
share_answered pair minute share house found inside worked =
    let known = found_pair pair house found in
    ap Ok (worked ∙ ap (λ p. cumulative p.change p.parameter minute) known.1)
    ∙ sym (share_inside pair minute known.0 (omega (arith, ap maximum known.1)))

-- the answers by document 01's number, place and values
pub house_answered : (pair minute : ℕ) → pair < length house_pairs → minute ≤ maximum (pair_of pair)
    → house_answer (house_share pair minute)
    ≡ record { number = 0; place = 0; values = cumulative (pair_of pair).change (pair_of pair).parameter minute ∷ [] }
unfolding house_answer
house_answered pair minute h inside = ap house_answer (share_inside pair minute h inside)

pub house_refused : (pair minute : ℕ) → Outside pair minute
    → house_answer (house_share pair minute) ≡ record { number = 6; place = 0; values = [] }
unfolding house_answer
house_refused pair minute (inl past) = ap house_answer (sym (pair_refused pair minute past))
house_refused pair minute (inr past) = ap house_answer (sym (minute_refused pair minute past))
