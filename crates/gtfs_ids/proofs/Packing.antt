-- Bytes as one number: how great it may be, and that equal numbers of as many bytes have equal bytes. Assumes nothing.
use Prim.Native.Nat.{ℕ, suc, ◌+◌, ◌*◌, ◌^◌, ◌<◌, ◌≤◌}
use mathlib.Core.List.{List, [], ◌∷◌}
use mathlib.Core.Path.{◌≡◌, refl}
use native.Mathlib.Nat.{pow-suc, pow-le-pow_right}
use native.Mathlib.Numerals.{add-one}
use native.Mathlib.Omega.{arith}
use lib.Dec.{lit<}
use lib.ListN.{length, get_or, take, drop, length-take, length-drop, drop_of_length-le}
use lib.Seq.{drop-cons, get_or-drop, get_or-take}
use Rattle.numbers.specs.Bytes.{Bytes}
use Rattle.gtfs_ids.specs.Keys.{packed, packed_behind}

-- one byte more is packed
pub packed_on : (before : ℕ) (bytes : List ℕ) (i : ℕ) → i < length bytes
    → packed_behind before (drop i bytes) ≡ packed_behind (256 * before + get_or bytes i 0) (drop (i + 1) bytes)
unfolding packed_behind
packed_on before bytes i inside = rw (add-one, drop-cons bytes i 0)

pub packed_end : (before : ℕ) (bytes : List ℕ) (i : ℕ) → length bytes ≤ i → packed_behind before (drop i bytes) ≡ before
unfolding packed_behind
packed_end before bytes i past = rw (drop_of_length-le bytes past)

-- so many bytes are worth less than as great a power
pub byte_more : (before byte i : ℕ) → before < 256 ^ i → byte < 256 → 256 * before + byte < 256 ^ (i + 1)
byte_more before byte i small low = rw (add-one, pow-suc) (omega arith)

-- seven bytes and one more fit 64 bits
pub eight_fit : (before byte i : ℕ) → before < 256 ^ i → i < 8 → byte < 256 → 256 * before + byte < 18446744073709551616
eight_fit before byte i small few low =
    let most : i ≤ 7 = omega arith in
    let seven : 256 ^ i ≤ 256 ^ 7 = pow-le-pow_right (lit< tt) most in
    omega arith

tail_bytes : (x : ℕ) (s : List ℕ) → Bytes (x ∷ s) → Bytes s
tail_bytes x s b = record { byte = λ i h. b.byte (suc i) (omega arith) }

pub take_bytes : (n : ℕ) (s : List ℕ) → Bytes s → Bytes (take n s)
take_bytes n s b = record {
  byte = λ i h.
      let few : i < n = omega (arith, length-take n s) in
      rw (get_or-take n s i 0 few) (b.byte i (omega (arith, length-take n s)));
}

pub drop_bytes : (n : ℕ) (s : List ℕ) → Bytes s → Bytes (drop n s)
drop_bytes n s b = record { byte = λ i h. rw (get_or-drop n s i 0) (b.byte (n + i) (omega (arith, length-drop n s))) }

-- the bytes that were packed can be had back, and what stood before them
unpacked : (before before' : ℕ) (a b : List ℕ) → length a ≡ length b → Bytes a → Bytes b
    → packed_behind before a ≡ packed_behind before' b → (before ≡ before') × (a ≡ b)
unfolding packed_behind
unpacked before before' [] [] e p q same = (same, refl)
unpacked before before' [] (y ∷ ys) e p q same = absurd (let z : ⊥ = omega arith in z)
unpacked before before' (x ∷ xs) [] e p q same = absurd (let z : ⊥ = omega arith in z)
unpacked before before' (x ∷ xs) (y ∷ ys) e p q same =
    let further = unpacked (256 * before + x) (256 * before' + y) xs ys (omega arith) (tail_bytes x xs p) (tail_bytes y ys q) same in
    let left : x < 256 = p.byte 0 (omega arith) in
    let right : y < 256 = q.byte 0 (omega arith) in
    let first : x ≡ y = omega arith in
    let others : xs ≡ ys = further.1 in
    (omega arith, cc)

pub packed_once : (a b : List ℕ) → length a ≡ length b → Bytes a → Bytes b → packed a ≡ packed b → a ≡ b
unfolding packed
packed_once a b e p q same = (unpacked 0 0 a b e p q same).1
