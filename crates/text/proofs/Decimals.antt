-- A number's digits: written one at a time, read back as that number, and with no zero ahead. Assumes nothing.
use Prim.Native.Nat.{ℕ, zero, suc, ◌+◌, ◌*◌, ◌/◌, ◌%◌, ◌^◌, ◌<◌, ◌≤◌}
use mathlib.Core.Path.{◌≡◌, refl, ap, sym, subst⁻¹, ◌∙◌}
use mathlib.Core.Bool.{cond}
use mathlib.Core.List.{List, [], ◌∷◌}
use native.Mathlib.Omega.{arith}
use native.Mathlib.Nat.{pow-suc}
use lib.Dec.{eqb}
use lib.ListN.{length, get_or}
use borrow.Author.Tests.{ne_eqb, eq-eqb}
use Rattle.laws.proofs.Tests.{cond_true, cond_false}
use Rattle.text.specs.Decimal.{digit_of, digit_in, digits_onto, decimal, number_text, value_behind, value_of, OnlyDigits}

-- steps past the last digit change nothing
digits_enough : (most fewer n : ℕ) (rest : List ℕ) → n ≤ most → n ≤ fewer → digits_onto most n rest ≡ digits_onto fewer n rest
unfolding digits_onto
digits_enough zero zero n rest h k = refl
digits_enough zero (suc fewer) n rest h k = sym (cond_true _ _ (eq-eqb n 0 (omega arith)))
digits_enough (suc most) zero n rest h k = cond_true _ _ (eq-eqb n 0 (omega arith))
digits_enough (suc most) (suc fewer) n rest h k =
    ap (λ (more : List ℕ). cond (eqb n 0) rest more)
    (digits_enough most fewer (n / 10) (digit_of (n % 10) ∷ rest) (omega arith) (omega arith))

-- 0 has no digit ahead of the last
pub decimal_nought : (rest : List ℕ) → decimal 0 rest ≡ rest
unfolding decimal digits_onto
decimal_nought rest = refl

-- one digit at a time, the last first
pub decimal_on : (n : ℕ) (rest : List ℕ) → 0 < n → decimal n rest ≡ decimal (n / 10) (digit_of (n % 10) ∷ rest)
unfolding decimal digits_onto
decimal_on zero rest some = absurd (let z : ⊥ = omega arith in z)
decimal_on (suc n) rest some =
    cond_false _ _ (ne_eqb (suc n) 0 (λ none. omega (arith, none)))
    ∙ digits_enough n (suc n / 10) (suc n / 10) (digit_of (suc n % 10) ∷ rest) (omega arith) (omega arith)

-- a number below a power of ten has no more digits than that has noughts
pub few_digits : (most n : ℕ) (rest : List ℕ) → n < 10 ^ most → length (decimal n rest) ≤ most + length rest
few_digits zero n rest few =
    let none : n ≡ 0 = omega arith in
    omega (arith, ap (λ k. length (decimal k rest)) none, ap length (decimal_nought rest))
few_digits (suc most) zero rest few = omega (arith, ap length (decimal_nought rest))
few_digits (suc most) (suc n) rest few =
    omega (arith, ap length (decimal_on (suc n) rest (omega arith)), few_digits most (suc n / 10) (digit_of (suc n % 10) ∷ rest) (omega (arith, pow-suc 10 most)))

-- a law of every number's digits: of none, and of one more if of those ahead of it
by_digits : (Law : ℕ → List ℕ → Type 0) → ((rest : List ℕ) → Law 0 rest)
    → ((n : ℕ) (rest : List ℕ) → 0 < n → Law (n / 10) (digit_of (n % 10) ∷ rest) → Law n rest)
    → (most n : ℕ) → n ≤ most → (rest : List ℕ) → Law n rest
by_digits Law none more zero n few rest = subst⁻¹ (λ k. Law k rest) (let z : n ≡ 0 = omega arith in z) (none rest)
by_digits Law none more (suc most) n few rest =
    by_size n refl (by_digits Law none more most (n / 10) (omega arith) (digit_of (n % 10) ∷ rest))
  where
    by_size : (k : ℕ) → n ≡ k → Law (n / 10) (digit_of (n % 10) ∷ rest) → Law n rest
    by_size zero e ahead = subst⁻¹ (λ k. Law k rest) e (none rest)
    by_size (suc k) e ahead = more n rest (omega (arith, e)) ahead

abbrev ReadsBack : ℕ → List ℕ → Type 0
ReadsBack n rest = value_behind 0 (decimal n rest) ≡ value_behind n rest

reads_more : (n : ℕ) (rest : List ℕ) → 0 < n → ReadsBack (n / 10) (digit_of (n % 10) ∷ rest) → ReadsBack n rest
unfolding value_behind
reads_more n rest some ahead =
    let whole : 10 * (n / 10) + digit_in (digit_of (n % 10)) ≡ n = omega arith in
    ap (value_behind 0) (decimal_on n rest some) ∙ ahead ∙ ap (λ k. value_behind k rest) whole

-- the digits of n, read back, give n
pub reads_back : (n : ℕ) → value_of (number_text n) ≡ n
unfolding value_of value_behind number_text
reads_back n =
    let whole : 10 * (n / 10) + digit_in (digit_of (n % 10)) ≡ n = omega arith in
    by_digits ReadsBack (λ rest. ap (value_behind 0) (decimal_nought rest)) reads_more (n / 10) (n / 10) (omega arith) (digit_of (n % 10) ∷ []) ∙ whole

-- the first digit ahead of `rest` is no zero
abbrev NoZeroAhead : ℕ → List ℕ → Type 0
NoZeroAhead n rest = 0 < n → (behind : List ℕ) → decimal n rest ≡ digit_of 0 ∷ behind → ⊥

no_zero_more : (n : ℕ) (rest : List ℕ) → 0 < n → NoZeroAhead (n / 10) (digit_of (n % 10) ∷ rest) → NoZeroAhead n rest
no_zero_more n rest some ahead again behind same = by_size (n / 10) refl
  where
    on : decimal (n / 10) (digit_of (n % 10) ∷ rest) ≡ digit_of 0 ∷ behind
    on = sym (decimal_on n rest some) ∙ same

    by_size : (k : ℕ) → n / 10 ≡ k → ⊥
    by_size zero e =
        let first : digit_of (n % 10) ≡ digit_of 0 =
        ap (λ l. get_or l 0 0) (sym (ap (λ k. decimal k (digit_of (n % 10) ∷ rest)) e ∙ decimal_nought (digit_of (n % 10) ∷ rest)) ∙ on)
        in
        omega (arith, e, first, some)
    by_size (suc k) e = ahead (omega (arith, e)) behind on

-- a number of more than one digit does not begin with 0
pub no_zero_ahead : (n second : ℕ) (behind : List ℕ) → number_text n ≡ digit_of 0 ∷ second ∷ behind → ⊥
unfolding number_text
no_zero_ahead n second behind same = by_size (n / 10) refl
  where
    by_size : (k : ℕ) → n / 10 ≡ k → ⊥
    by_size zero e =
        let one : 1 ≡ suc (suc (length behind)) =
        ap length (sym (ap (λ k. decimal k (digit_of (n % 10) ∷ [])) e ∙ decimal_nought (digit_of (n % 10) ∷ [])) ∙ same)
        in
        omega (arith, one)
    by_size (suc k) e =
        by_digits NoZeroAhead (λ rest none. absurd (let z : ⊥ = omega arith in z)) no_zero_more (n / 10) (n / 10) (omega arith)
        (digit_of (n % 10) ∷ []) (omega (arith, e)) (second ∷ behind) same

abbrev KeepsDigits : ℕ → List ℕ → Type 0
KeepsDigits n rest = OnlyDigits rest → OnlyDigits (decimal n rest)

digits_more : (n : ℕ) (rest : List ℕ) → 0 < n → KeepsDigits (n / 10) (digit_of (n % 10) ∷ rest) → KeepsDigits n rest
digits_more n rest some ahead digits = subst⁻¹ OnlyDigits (decimal_on n rest some) (ahead (omega arith, omega arith, digits))

-- a number's text is digits and nothing else
pub only_digits : (n : ℕ) → OnlyDigits (number_text n)
unfolding number_text
only_digits n =
    by_digits KeepsDigits (λ rest digits. subst⁻¹ OnlyDigits (decimal_nought rest) digits) digits_more (n / 10) (n / 10) (omega arith)
    (digit_of (n % 10) ∷ []) (omega arith, omega arith, tt)
