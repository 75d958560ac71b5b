-- Laws on the shares of a tally as they are written: the whole is what stands and the rest from here. Assumes nothing.
use Prim.Native.Nat.{ℕ, zero, suc, ◌+◌, ◌*◌, ◌-◌, ◌/◌, ◌<◌, ◌≤◌}
use mathlib.Core.List.{List, [], ◌∷◌, ◌++◌}
use mathlib.Core.Path.{◌≡◌, refl, ap, sym, ◌∙◌}
use native.Mathlib.Numerals.{add-one}
use native.Mathlib.Omega.{arith}
use native.Mathlib.Nat.{mul-le-mul_left, zero-div}
use lib.ListN.{length, get_or, take, drop, set}
use lib.Seq.{sets, sets-eq}
use Rattle.laws.proofs.Quotients.{quotient_rises, quotient_below}
use Rattle.numbers.specs.Over.{over}
use Rattle.timetable.specs.Classes.{share_total, sum}
use Rattle.delay_tables.specs.Rising.{differences, shares_of_cumulative, values_from}
use Rattle.delay_tables.proofs.RisingTables.{length_differences}
use Rattle.delay_tables.proofs.Values.{length_values}
use Rattle.tally_table.specs.Table.{landings_by, share_of, cumulative_share, cumulative_shares}
use Rattle.tally_table.specs.Fits.{SharesFit, ShareFits}

-- landings by a lateness are those below it and those at it
pub sum_more : (tally : List ℕ) (x : ℕ) → sum (take (suc x) tally) ≡ sum (take x tally) + get_or tally x 0
unfolding sum
sum_more [] zero = refl
sum_more [] (suc x) = refl
sum_more (c ∷ tally) zero = omega arith
sum_more (c ∷ tally) (suc x) = omega (arith, sum_more tally x)

pub first_landings : (tally : List ℕ) → landings_by tally 0 ≡ get_or tally 0 0
unfolding sum
first_landings [] = refl
first_landings (c ∷ tally) = omega arith

-- there are no fewer by a greater lateness
pub landings_rise : (tally : List ℕ) (x y : ℕ) → x ≤ y → landings_by tally x ≤ landings_by tally y
unfolding sum
landings_rise [] x y h = omega arith
landings_rise (c ∷ tally) zero y h = omega arith
landings_rise (c ∷ tally) (suc x) zero h = absurd (let z : ⊥ = omega arith in z)
landings_rise (c ∷ tally) (suc x) (suc y) h = omega (arith, landings_rise tally x y (omega arith))

-- a share of more landings is no smaller, and one of all of them or fewer is at most the whole
pub share_rises : (landings some more : ℕ) → 0 < landings → some ≤ more → share_of landings some ≤ share_of landings more
share_rises landings some more any h =
    quotient_rises (share_total * some) landings (share_total * more) landings any any
    (omega (arith, mul-le-mul_left landings h))

pub share_within : (landings some : ℕ) → 0 < landings → some ≤ landings → share_of landings some ≤ share_total
share_within landings some any h =
    omega (arith, quotient_below (share_total * some) landings (suc share_total) any (omega arith))

module _ (tally : List ℕ) (landings delay : ℕ) where
  abbrev share : ℕ → ℕ
  share = cumulative_share landings tally

  -- the shares from delay x on, behind so many landings below it
  abbrev pub rest : (x late : ℕ) → List ℕ
  rest x late = differences (share_of landings late) (values_from (cumulative_share landings tally) x (suc delay - x))

  -- the next share, and those behind it
  rest_more : (x late : ℕ) → x ≤ delay → late ≡ sum (take x tally)
      → rest x late ≡ (share_of landings (late + get_or tally x 0) - share_of landings late) ∷ rest (suc x) (late + get_or tally x 0)
  unfolding differences values_from cumulative_share
  rest_more x late h below =
      ap (λ (n : ℕ). differences (share_of landings late) (values_from share x n))
      (let more : suc delay - x ≡ suc (suc delay - suc x) = omega arith in more)
      ∙ ap
      (λ (some : ℕ).
      (share_of landings some - share_of landings late) ∷ differences (share_of landings some) (values_from share (suc x) (suc delay - suc x)))
      (sum_more tally x ∙ ap (λ (k : ℕ). k + get_or tally x 0) (sym below))

  -- one share more is written
  shares_on : (shares : List ℕ) (x late : ℕ) → x ≤ delay → late ≡ sum (take x tally)
      → sets shares x (rest x late)
      ≡ sets (set shares x (share_of landings (late + get_or tally x 0) - share_of landings late)) (suc x) (rest (suc x) (late + get_or tally x 0))
  shares_on shares x late h below = ap (sets shares x) (rest_more x late h below)

  -- landings up to a delay are among those tallied
  pub turn_fits : {shares : List ℕ} (x late count : ℕ) → SharesFit tally landings delay shares → x ≤ delay → late ≡ sum (take x tally)
      → count ≡ get_or tally x 0 → ShareFits (late + count) landings (17592186044416 / landings)
  turn_fits x late count fits h below read =
      record {
        some = fits.some;
        among = omega (arith, sum_more tally x, landings_rise tally x delay h, fits.among);
        small = fits.small;
        reciprocal_of = refl;
      }

  -- what one turn of the loop leaves as it was
  pub turn_keeps : (shares whole : List ℕ) (x late ahead count share_here : ℕ) → x ≤ delay → late ≡ sum (take x tally)
      → ahead ≡ share_of landings late → count ≡ get_or tally x 0 → share_here ≡ share_of landings (late + count) - ahead
      → sets shares x (rest x late) ≡ whole → sets (set shares x share_here) (x + 1) (rest (x + 1) (late + count)) ≡ whole
  turn_keeps shares whole x late ahead count share_here h below from read is so_far =
      ap (λ (k : ℕ). sets (set shares x share_here) k (rest k (late + count))) (add-one x)
      ∙ ap (λ (s : ℕ). sets (set shares x s) (suc x) (rest (suc x) (late + count)))
      (is ∙ ap (λ (b : ℕ). share_of landings (late + count) - b) from)
      ∙ ap (λ (k : ℕ). sets (set shares x (share_of landings (late + k) - share_of landings late)) (suc x) (rest (suc x) (late + k))) read
      ∙ sym (shares_on shares x late h below) ∙ so_far

  -- none is left
  pub shares_end : (shares : List ℕ) (x late : ℕ) → delay < x → sets shares x (rest x late) ≡ shares
  unfolding differences values_from
  shares_end shares x late h =
      ap (λ (n : ℕ). sets shares x (differences (share_of landings late) (values_from share x n)))
      (let none : suc delay - x ≡ 0 = omega arith in none)

  long : length (differences 0 (values_from share 0 (suc delay))) ≡ suc delay
  long = length_differences 0 (values_from share 0 (suc delay)) ∙ length_values share 0 (suc delay)

  -- all of them, put over the first numbers
  pub shares_whole : (shares : List ℕ) → delay < length shares
      → sets shares 0 (rest 0 0) ≡ over (shares_of_cumulative (cumulative_shares landings tally delay)) shares
  unfolding shares_of_cumulative cumulative_shares
  shares_whole shares room =
      ap (λ (ahead : ℕ). sets shares 0 (differences ahead (values_from share 0 (suc delay - 0)))) (zero-div landings)
      ∙ ap (λ (n : ℕ). sets shares 0 (differences 0 (values_from share 0 n))) (let all : suc delay - 0 ≡ suc delay = omega arith in all)
      ∙ sets-eq (differences 0 (values_from share 0 (suc delay))) shares 0 (omega (arith, long))
      ∙ ap (λ (k : ℕ). differences 0 (values_from share 0 (suc delay)) ++ drop k shares)
      (let first : 0 + length (differences 0 (values_from share 0 (suc delay))) ≡ length (differences 0 (values_from share 0 (suc delay))) = omega arith
      in first)

  -- the last turn leaves all of them as they are to be
  pub last_turn : (initial shares : List ℕ) (x late ahead count share_here : ℕ) → delay < length initial → x ≡ delay → late ≡ sum (take x tally)
      → ahead ≡ share_of landings late → count ≡ get_or tally x 0 → share_here ≡ share_of landings (late + count) - ahead
      → sets shares x (rest x late) ≡ sets initial 0 (rest 0 0)
      → set shares x share_here ≡ over (shares_of_cumulative (cumulative_shares landings tally delay)) initial
  last_turn initial shares x late ahead count share_here room last below from read is so_far =
      sym (shares_end (set shares x share_here) (x + 1) (late + count) (omega (arith, last)))
      ∙ turn_keeps shares _ x late ahead count share_here (omega (arith, last)) below from read is so_far ∙ shares_whole initial room
