-- Numbers of the file: what was written is read, what was read is written, and a number read behind a prefix. Assumes nothing.
use Prim.Native.Nat.{ℕ, suc, ◌+◌, ◌*◌, ◌/◌, ◌%◌, ◌<◌, ◌≤◌}
use mathlib.Core.List.{List, [], ◌∷◌, ◌++◌, append_assoc}
use mathlib.Core.Path.{◌≡◌, refl, sym, ap, ◌∙◌}
use native.Mathlib.Nat.{add-zero, add_assoc, add-mul-mod_self_left, add-mul-div_left, mod-eq_of_lt}
use native.Mathlib.Numerals.{add-one, add-two}
use native.Mathlib.Omega.{arith}
use lib.Dec.{lit<, ltb}
use lib.ListN.{length, get_or, drop, get_or-eq_default}
use lib.Seq.{get_or-drop, drop-cons}
use borrow.Author.Tests.{ltb-true, ltb-false}
use Rattle.laws.proofs.Tests.{ifb}
use Rattle.numbers.specs.Bytes.{Bytes}
use Rattle.numbers.specs.Numbers.{u16_at, u32_at, u16_bytes, u32_bytes}

-- two bytes hold a number below 65,536
pub u16_value : (x : ℕ) → x < 65536 → x % 256 + 256 * (x / 256 % 256) ≡ x
u16_value x h = omega arith

-- and four one below 4,294,967,296
pub u32_value : (x : ℕ) → x < 4294967296
    → x % 65536 % 256 + 256 * (x % 65536 / 256 % 256) + 65536 * (x / 65536 % 256 + 256 * (x / 65536 / 256 % 256)) ≡ x
u32_value x h = omega (arith, u16_value (x % 65536) (omega arith), u16_value (x / 65536) (omega arith))

-- a number at `at + i` is the number at i of what stands from `at` on
pub u16_from : (s : List ℕ) (at i : ℕ) → u16_at s (at + i) ≡ u16_at (drop at s) i
unfolding u16_at
u16_from s at i =
    rw (get_or-drop at s i 0, get_or-drop at s (i + 1) 0, add_assoc at i 1)

-- the number right at the start of what stands from `at` on
pub u16_here : (s : List ℕ) (at : ℕ) → u16_at s at ≡ u16_at (drop at s) 0
u16_here s at = ap (u16_at s) (sym (add-zero at)) ∙ u16_from s at 0

pub u32_from : (s : List ℕ) (at i : ℕ) → u32_at s (at + i) ≡ u32_at (drop at s) i
unfolding u32_at
u32_from s at i = rw (add_assoc at i 2, u16_from s at i, u16_from s at (i + 2))

-- what was written is read
pub u16_written : (x : ℕ) (rest : List ℕ) → x < 65536 → u16_at (u16_bytes x ++ rest) 0 ≡ x
unfolding u16_at u16_bytes
u16_written x rest h = u16_value x h

-- what was read is written
pub u16_bytes_lem : (a b : ℕ) → a < 256 → b < 256 → u16_bytes (a + 256 * b) ≡ a ∷ b ∷ []
unfolding u16_bytes
u16_bytes_lem a b p q =
    let low : (a + 256 * b) % 256 ≡ a = add-mul-mod_self_left a 256 b ∙ mod-eq_of_lt p in
    let quotient : (a + 256 * b) / 256 ≡ b = add-mul-div_left a b (lit< tt) ∙ omega arith in
    let high : (a + 256 * b) / 256 % 256 ≡ b = ap (λ (x : ℕ). x % 256) quotient ∙ mod-eq_of_lt q in
    ap (λ (x : ℕ). x ∷ (a + 256 * b) / 256 % 256 ∷ []) low ∙ ap (λ (x : ℕ). a ∷ x ∷ []) high

-- the first two of what stands from `at` on
two_off : (s : List ℕ) (at : ℕ) → at + 1 < length s → drop at s ≡ get_or s at 0 ∷ get_or s (at + 1) 0 ∷ drop (at + 2) s
two_off s at h =
    drop-cons s at 0 (omega arith)
    ∙ ap (λ (l : List ℕ). get_or s at 0 ∷ l) (rw (add-one, add-two) (drop-cons s (suc at) 0 (omega arith)))

-- the bytes of the number at `at`, ahead of what stands from `next` on
pub u16_again : (s : List ℕ) (at next : ℕ) {tail : List ℕ} → Bytes s → next ≡ at + 2 → next ≤ length s → tail ≡ drop next s
    → u16_bytes (u16_at s at) ++ tail ≡ drop at s
unfolding u16_at
u16_again s at next {tail} b e h behind =
    ap
    (λ (l : List ℕ). l ++ tail)
    (u16_bytes_lem (get_or s at 0) (get_or s (at + 1) 0) (b.byte at (omega arith)) (b.byte (at + 1) (omega arith)))
    ∙ ap (λ (l : List ℕ). get_or s at 0 ∷ get_or s (at + 1) 0 ∷ l) (behind ∙ ap (λ (n : ℕ). drop n s) e)
    ∙ sym (two_off s at (omega arith))

-- what stands for a byte past the end is small too
byte_small : (s : List ℕ) (i : ℕ) → Bytes s → get_or s i 0 < 256
byte_small s i b =
    ifb
    (λ t. get_or s i 0 < 256)
    (ltb i (length s))
    (λ inside. b.byte i (ltb-true i (length s) inside))
    (λ past. omega (arith, get_or-eq_default s 0 (ltb-false i (length s) past)))

pub u16_small : (s : List ℕ) (at : ℕ) → Bytes s → u16_at s at < 65536
unfolding u16_at
u16_small s at b = omega (arith, byte_small s at b, byte_small s (at + 1) b)

u32_bytes_lem : (a b : ℕ) → a < 65536 → b < 65536 → u32_bytes (a + 65536 * b) ≡ u16_bytes a ++ u16_bytes b
unfolding u32_bytes
u32_bytes_lem a b p q =
    let low : (a + 65536 * b) % 65536 ≡ a = add-mul-mod_self_left a 65536 b ∙ mod-eq_of_lt p in
    let high : (a + 65536 * b) / 65536 ≡ b = add-mul-div_left a b (lit< tt) ∙ omega arith in
    ap (λ (x : ℕ). u16_bytes x ++ u16_bytes ((a + 65536 * b) / 65536)) low ∙ ap (λ (x : ℕ). u16_bytes a ++ u16_bytes x) high

pub u32_again : (s : List ℕ) (at next : ℕ) {tail : List ℕ} → Bytes s → next ≡ at + 4 → next ≤ length s → tail ≡ drop next s
    → u32_bytes (u32_at s at) ++ tail ≡ drop at s
unfolding u32_at
u32_again s at next {tail} b e h behind =
    ap
    (λ (l : List ℕ). l ++ tail)
    (u32_bytes_lem (u16_at s at) (u16_at s (at + 2)) (u16_small s at b) (u16_small s (at + 2) b))
    ∙ append_assoc (u16_bytes (u16_at s at)) (u16_bytes (u16_at s (at + 2))) tail
    ∙ u16_again s at (at + 2) b refl (omega arith) (u16_again s (at + 2) next b (omega arith) h behind)
