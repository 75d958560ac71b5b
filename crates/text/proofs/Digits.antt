-- Writing a number's digits from the last to the first. Assumes nothing.
use Prim.Native.Nat.{ℕ, zero, suc, ◌-◌, ◌/◌, ◌%◌, ◌^◌, ◌<◌, ◌≤◌}
use mathlib.Core.List.{List, ◌∷◌, ◌++◌}
use mathlib.Core.Path.{◌≡◌, refl, ap, sym, ◌∙◌}
use native.Mathlib.Omega.{arith}
use native.Mathlib.Nat.{pow-suc}
use lib.ListN.{length, take, drop, set, length-set, length-drop}
use lib.Seq.{drop-cons, drop-set-lt, drop_at, get_or-set_same, length-take-le}
use Rattle.std.proofs.lemmas.List.{take-set, take-take, take-append-drop}
use Rattle.text.specs.Decimal.{digit_of, decimal}
use Rattle.text.proofs.Decimals.{decimal_on, decimal_nought}
use Rattle.text.specs.Put.{Ahead}

-- the digits of n from place `start` on, those of `left` still to write, and there is room for them
pub record Counted (out : List ℕ) (at n : ℕ) (bytes : List ℕ) (start left : ℕ) : Type 0 where
  pub text : decimal left (drop start bytes) ≡ decimal n (drop at out)
  pub others : take start bytes ≡ take start out
  pub room : left < 10 ^ start
  pub inside : start ≤ at

-- a byte ahead of the text
ahead : (bytes : List ℕ) (k a : ℕ) → k < length bytes → drop k (set bytes k a) ≡ a ∷ drop (suc k) bytes
ahead bytes k a h =
    let here : k < length (set bytes k a) = simp length-set (h) in
    drop-cons (set bytes k a) k 0 here
    ∙ ap (λ x. x ∷ drop (suc k) (set bytes k a)) (get_or-set_same bytes k a 0 h)
    ∙ ap (λ l. a ∷ l) (drop-set-lt (suc k) bytes k a (omega arith))

pub counted_all : (out : List ℕ) (at n : ℕ) → n < 10 ^ at → Counted out at n out at n
counted_all out at n fits = record { text = refl; others = refl; room = fits; inside = omega arith }

-- while digits are left there is a place ahead
pub counted_room : {out : List ℕ} {at n : ℕ} {bytes : List ℕ} {start left : ℕ} → Counted out at n bytes start left → 0 < left → 1 ≤ start
counted_room {start = zero} w some = absurd (let z : ⊥ = omega (arith, w.room) in z)
counted_room {start = suc k} w some = omega arith

pub counted_on : {out : List ℕ} {at n : ℕ} {bytes : List ℕ} (start : ℕ) {left : ℕ} → Counted out at n bytes start left → 0 < left
    → at ≤ length bytes → Counted out at n (set bytes (start - 1) (digit_of (left % 10))) (start - 1) (left / 10)
counted_on zero w some wide = absurd (let z : ⊥ = omega (arith, w.room) in z)
counted_on {out} {bytes = bytes} (suc k) {left} w some wide =
    let one_less : suc k - 1 ≡ k = omega arith in
    let digit : ℕ = digit_of (left % 10) in
    rw one_less
    (record {
      text =
          ap (decimal (left / 10)) (ahead bytes k digit (omega (arith, w.inside)))
          ∙ sym (decimal_on left (drop (suc k) bytes) some) ∙ w.text;
      others = take-set bytes k digit ∙ sym (take-take k (suc k) bytes (omega arith)) ∙ ap (take k) w.others ∙ take-take k (suc k) out (omega arith);
      room = omega (arith, w.room, pow-suc 10 k);
      inside = omega (arith, w.inside);
    })

-- no digit is left
pub counted_end : {out : List ℕ} {at n : ℕ} {bytes : List ℕ} {start left : ℕ} → Counted out at n bytes start left → left ≤ 0
    → at ≤ length bytes → length bytes ≡ length out → Ahead out at n bytes start
counted_end {out} {at} {n} {bytes} {start} {left} w none fits wide =
    let last : left ≡ 0 = omega arith in
    let digits : drop start bytes ≡ decimal n (drop at out) =
    sym (ap (λ k. decimal k (drop start bytes)) last ∙ decimal_nought (drop start bytes)) ∙ w.text
    in
    record {
      says = sym (take-append-drop start bytes) ∙ ap (λ l. l ++ drop start bytes) w.others ∙ ap (λ l. take start out ++ l) digits;
      ends = omega (arith, ap length digits, length-drop start bytes, wide, fits, w.inside);
      inside = w.inside;
    }

-- the digits, and behind them what stood from `at` on
pub ahead_from : {out : List ℕ} {at n : ℕ} {after : List ℕ} {start : ℕ} → at ≤ length out → Ahead out at n after start
    → drop start after ≡ decimal n (drop at out)
ahead_from {out} {at} {n} {after} {start} fits w =
    ap (drop start) w.says
    ∙ drop_at (take start out) (decimal n (drop at out)) start (length-take-le start out (omega (arith, w.inside)))

-- where the digits start, and the bytes with them, is one answer
pub ahead_once : {out : List ℕ} {at n : ℕ} {a b : List ℕ} {start other : ℕ} → Ahead out at n a start → Ahead out at n b other
    → (start ≡ other) × (a ≡ b)
ahead_once {out} {at} {n} {start = start} {other} first second =
    let same : start ≡ other = omega (arith, first.ends, second.ends) in
    (same, first.says ∙ ap (λ k. take k out ++ decimal n (drop at out)) same ∙ sym second.says)
