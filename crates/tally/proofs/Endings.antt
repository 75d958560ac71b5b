-- What an ending tells of the answer, and the answer of the ending. Assumes nothing.
use Prim.Native.Nat.{ℕ}
use mathlib.Core.List.{List}
use mathlib.Core.Logic.{◌⊎◌, inl, inr}
use mathlib.Core.Path.{◌≡◌, refl, ap, sym}
use native.Mathlib.Omega.{arith}
use Rattle.std.specs.Prelude.{Result, Ok}
use Rattle.timetable.specs.Verdict.{refused, told_fault}
use Rattle.timetable.specs.declared.Refusal.{Refusal}
use Rattle.file_layout.specs.declared.Format.{Format}
use Rattle.tally.specs.declared.Landing.{Landing}
use Rattle.tally.specs.Tally.{with_landing}
use Rattle.tally.specs.Returned.{MinuteAbove, CountAbove, CountFull, LandingEnds}
use Rattle.tally.specs.Returned as ways

-- a claim that cannot be: two constructors, or two numbers, that differ
pub never {ℓ} : {P : Type ℓ} → ◌≡◌ {A = ℕ} 0 1 → P
never e = absurd (let z : ⊥ = omega arith in z)

-- one refusal has one number and one place
pub same_refusal : {A : Type 0} {number place other elsewhere : ℕ} → refused {A = A} number place ≡ refused other elsewhere
    → (number ≡ other) × (place ≡ elsewhere)
same_refusal told = let same = ap told_fault told in (cc, cc)

module _ {f : Format} {l : Landing} {tally : List ℕ} where
  -- a refusal is 14 or 15 at place 0, and the tally is unchanged
  pub landing_refused : {answer : Result Unit (Refusal ℕ)} {tally' : List ℕ} {number place : ℕ} → LandingEnds f l tally answer tally'
      → answer ≡ refused number place → (tally' ≡ tally) × ((number ≡ 14) ⊎ (number ≡ 15)) × (place ≡ 0)
  landing_refused (ways.minute high) told = let same = same_refusal told in (refl, inl (sym same.0), sym same.1)
  landing_refused (ways.above timely high) told = let same = same_refusal told in (refl, inr (sym same.0), sym same.1)
  landing_refused (ways.full timely kept at) told = let same = same_refusal told in (refl, inr (sym same.0), sym same.1)
  landing_refused (ways.counted timely kept room) told = never (cc)

  pub fourteen_told : {answer : Result Unit (Refusal ℕ)} {tally' : List ℕ} {place : ℕ} → LandingEnds f l tally answer tally' → answer ≡ refused 14 place
      → MinuteAbove f l
  fourteen_told (ways.minute high) told = high
  fourteen_told (ways.above timely high) told = absurd (omega (arith, same_refusal told))
  fourteen_told (ways.full timely kept at) told = absurd (omega (arith, same_refusal told))
  fourteen_told (ways.counted timely kept room) told = never (cc)

  pub fifteen_told : {answer : Result Unit (Refusal ℕ)} {tally' : List ℕ} {place : ℕ} → LandingEnds f l tally answer tally' → answer ≡ refused 15 place
      → (MinuteAbove f l → ⊥) × (CountAbove tally ⊎ CountFull f l tally)
  fifteen_told (ways.minute high) told = absurd (omega (arith, same_refusal told))
  fifteen_told (ways.above timely high) told = (timely, inl high)
  fifteen_told (ways.full timely kept at) told = (timely, inr at)
  fifteen_told (ways.counted timely kept room) told = never (cc)

  pub counted_told : {answer : Result Unit (Refusal ℕ)} {tally' : List ℕ} → LandingEnds f l tally answer tally' → answer ≡ Ok tt
      → (MinuteAbove f l → ⊥) × (CountAbove tally → ⊥) × (CountFull f l tally → ⊥) × (tally' ≡ with_landing f.delay l tally)
  counted_told (ways.minute high) told = never (cc)
  counted_told (ways.above timely high) told = never (cc)
  counted_told (ways.full timely kept at) told = never (cc)
  counted_told (ways.counted timely kept room) told = (timely, kept, room, refl)

  -- and the other way round
  pub minute_answered : {answer : Result Unit (Refusal ℕ)} {tally' : List ℕ} → LandingEnds f l tally answer tally' → MinuteAbove f l → answer ≡ refused 14 0
  minute_answered (ways.minute high) late = refl
  minute_answered (ways.above timely high) late = absurd (timely late)
  minute_answered (ways.full timely kept at) late = absurd (timely late)
  minute_answered (ways.counted timely kept room) late = absurd (timely late)

  pub limit_answered : {answer : Result Unit (Refusal ℕ)} {tally' : List ℕ} → LandingEnds f l tally answer tally' → (MinuteAbove f l → ⊥)
      → CountAbove tally ⊎ CountFull f l tally → answer ≡ refused 15 0
  limit_answered (ways.minute high) timely reason = absurd (timely high)
  limit_answered (ways.above in_time high) timely reason = refl
  limit_answered (ways.full in_time kept at) timely reason = refl
  limit_answered (ways.counted in_time kept room) timely (inl high) = absurd (kept high)
  limit_answered (ways.counted in_time kept room) timely (inr at) = absurd (room at)

  pub count_answered : {answer : Result Unit (Refusal ℕ)} {tally' : List ℕ} → LandingEnds f l tally answer tally' → (MinuteAbove f l → ⊥)
      → (CountAbove tally → ⊥) → (CountFull f l tally → ⊥) → answer ≡ Ok tt
  count_answered (ways.minute high) timely kept room = absurd (timely high)
  count_answered (ways.above in_time high) timely kept room = absurd (kept high)
  count_answered (ways.full in_time below at) timely kept room = absurd (room at)
  count_answered (ways.counted in_time below left) timely kept room = refl
