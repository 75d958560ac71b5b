-- Document 01's refusal 6, test by test, and what a query that keeps its rule is. Assumes nothing.
use Prim.Native.Nat.{ℕ, ◌≤◌, ◌<◌}
use native.Mathlib.Omega.{arith}
use mathlib.Core.Bool.{true, false, not, ◌&&◌}
use mathlib.Core.Logic.{inl, inr, ◌≢◌}
use mathlib.Core.List.{List}
use mathlib.Core.Path.{◌≡◌, refl, sym, ◌∙◌}
use lib.Dec.{leb, ltb, eqb}
use lib.ListN.{length}
use borrow.Author.Tests.{ltb-true, leb-true, eqb-true, eqb-false, lt-ltb, le-leb, eq-eqb, ne_eqb, not-true}
use Rattle.laws.proofs.Tests.{both_left, both_right, either, false_right}
use Rattle.numbers.specs.Numbers.{u16_at}
use Rattle.query.specs.declared.Query.{Query}
use Rattle.query.specs.Query.{journey_rule, fewest_quarters, most_quarters, code_rule, query_rule, least_margin, most_margin, margin_rule, most_gate, gate_rule, QueryFits, query_bytes, margin_bytes, gate_bytes, four_numbers, five_numbers, with_gate, no_query, query_in}

-- the last test of a rule decides once the others hold
module _ (stops last : ℕ) (q : Query) where
  pub minute_decides : q.source < stops → q.target < stops → q.source ≢ q.target → leb q.minute last ≡ journey_rule stops last q
  unfolding journey_rule
  minute_decides source target apart = simp (lt-ltb _ _ source, lt-ltb _ _ target, ne_eqb _ _ apart)

  pub gate_decides_rule : journey_rule stops last q ≡ true → code_rule q ≡ true → margin_rule q ≡ true → gate_rule q ≡ query_rule stops last q
  unfolding query_rule
  gate_decides_rule e c m = simp (e, c, m)

module _ (q : Query) where
  pub no_code : q.code ≡ 0 → true ≡ code_rule q
  unfolding code_rule
  no_code h = simp (eq-eqb _ _ h)

  pub margin_decides : least_margin ≤ q.margin → leb q.margin most_margin ≡ margin_rule q
  unfolding margin_rule
  margin_decides h = simp (le-leb _ _ h)

  pub gate_decides : leb q.gate most_gate ≡ gate_rule q
  unfolding gate_rule
  gate_decides = refl

-- all that a kept rule tells
pub rule_gives : (stops last : ℕ) (q : Query) → query_rule stops last q ≡ true → QueryFits stops last q
unfolding query_rule journey_rule code_rule margin_rule gate_rule
rule_gives stops last q kept =
    let source = ltb q.source stops in
    let target = source && ltb q.target stops in
    let apart = target && not (eqb q.source q.target) in
    let journey = apart && leb q.minute last in
    let three = both_left (journey && code_rule q && margin_rule q) (gate_rule q) kept in
    let both = both_left (journey && code_rule q) (margin_rule q) three in
    let margin = both_right (journey && code_rule q) (margin_rule q) three in
    let e = both_left journey (code_rule q) both in
    let e₃ = both_left apart (leb q.minute last) e in
    let e₂ = both_left target (not (eqb q.source q.target)) e₃ in
    record {
      source = ltb-true q.source stops (both_left source (ltb q.target stops) e₂);
      target = ltb-true q.target stops (both_right source (ltb q.target stops) e₂);
      apart =
          eqb-false q.source q.target (not-true (eqb q.source q.target) (both_right target (not (eqb q.source q.target)) e₃));
      minute = leb-true q.minute last (both_right apart (leb q.minute last) e);
      code =
          elim (either (eqb q.code 0) (leb fewest_quarters q.code && leb q.code most_quarters) (both_right journey (code_rule q) both)) [
            | inl p ↦ inl (eqb-true q.code 0 p)
            | inr p ↦ inr (
              leb-true fewest_quarters q.code (both_left (leb fewest_quarters q.code) (leb q.code most_quarters) p),
              leb-true q.code most_quarters (both_right (leb fewest_quarters q.code) (leb q.code most_quarters) p),
            )
          ];
      margin = (
        leb-true least_margin q.margin (both_left (leb least_margin q.margin) (leb q.margin most_margin) margin),
        leb-true q.margin most_margin (both_right (leb least_margin q.margin) (leb q.margin most_margin) margin),
      );
      gate = leb-true q.gate most_gate (both_right (journey && code_rule q && margin_rule q) (gate_rule q) kept);
    }

-- no code is above the most quarters
pub code_most : {stops last : ℕ} {q : Query} → QueryFits stops last q → q.code ≤ most_quarters
code_most {stops} {last} {q} fits = elim fits.code [ inl p ↦ (let z : q.code ≤ most_quarters = omega arith in z) | inr p ↦ p.1 ]

-- what 8 bytes, 10 bytes and 12 bytes ask
module _ (bytes : List ℕ) where
  not_so_many : {count other : ℕ} → length bytes ≡ count → count ≢ other → eqb (length bytes) other ≡ false
  not_so_many e apart = ne_eqb _ _ (λ k. apart (sym e ∙ k))

  pub eight_bytes : length bytes ≡ query_bytes → four_numbers bytes ≡ query_in bytes
  unfolding query_in
  eight_bytes e = simp (eq-eqb _ _ e)

  pub ten_bytes : length bytes ≡ margin_bytes → five_numbers bytes ≡ query_in bytes
  unfolding query_in
  ten_bytes e = simp (not_so_many {other = query_bytes} e (λ k. let z : ⊥ = omega arith in z), eq-eqb _ _ e)

  pub twelve_bytes : length bytes ≡ gate_bytes → with_gate (u16_at bytes 10) (five_numbers bytes) ≡ query_in bytes
  unfolding query_in
  twelve_bytes e =
      simp (not_so_many {other = query_bytes} e (λ k. let z : ⊥ = omega arith in z), not_so_many {other = margin_bytes} e (λ k. let z : ⊥ = omega arith in z), eq-eqb _ _ e)

-- `query` of neither 8 bytes, nor 10, nor 12 is 6 in its usual place, for every file
module _ (bytes : List ℕ) (eight : length bytes ≢ query_bytes) (ten : length bytes ≢ margin_bytes) (twelve : length bytes ≢ gate_bytes) where
  other_length : query_in bytes ≡ no_query
  unfolding query_in
  other_length = simp (ne_eqb _ _ eight, ne_eqb _ _ ten, ne_eqb _ _ twelve)

  pub other_length_refused : (stops last : ℕ) → query_rule stops last (query_in bytes) ≡ false
  unfolding query_rule journey_rule
  other_length_refused stops last = rw other_length (simp false_right)
