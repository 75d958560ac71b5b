-- One number more behind those that are put already. Assumes nothing.
use Prim.Native.Nat.{ℕ, suc, ◌+◌, ◌*◌, ◌/◌, ◌%◌, ◌≤◌, ◌<◌}
use mathlib.Core.List.{List, [], ◌∷◌, ◌++◌, append_assoc, append-nil}
use mathlib.Core.Path.{◌≡◌, refl, sym, ap, ◌∙◌}
use native.Mathlib.Omega.{arith}
use lib.ListN.{length, get_or, take, drop, length-append, length-drop}
use lib.Seq.{sets, sets-eq, take-suc, take_at, drop-append-add, drop-drop, length-take-le}
use Rattle.numbers.specs.Numbers.{u16_bytes, u32_bytes}
use Rattle.numbers.specs.Bytes.{bytes_of}
use Rattle.numbers.specs.Over.{over}

pub length_u32 : (x : ℕ) → length (u32_bytes x) ≡ 4
unfolding u16_bytes u32_bytes
length_u32 x = refl

-- a number's low four bytes, one by one
pub four_bytes : (x : ℕ) → x % 4294967296 % 256 ∷ x % 4294967296 / 256 % 256 ∷ x % 4294967296 / 65536 % 256 ∷ x % 4294967296 / 16777216 % 256 ∷ [] ≡ u32_bytes x
unfolding u16_bytes u32_bytes
four_bytes x =
    let first : x % 4294967296 % 256 ≡ x % 65536 % 256 = omega arith in
    let second : x % 4294967296 / 256 % 256 ≡ x % 65536 / 256 % 256 = omega arith in
    let third : x % 4294967296 / 65536 % 256 ≡ x / 65536 % 256 = omega arith in
    let fourth : x % 4294967296 / 16777216 % 256 ≡ x / 65536 / 256 % 256 = omega arith in
    cc

pub length_bytes : (numbers : List ℕ) → length (bytes_of numbers) ≡ 4 * length numbers
unfolding bytes_of
length_bytes [] = refl
length_bytes (x ∷ numbers) = simp length-append (omega (arith, length_u32 x, length_bytes numbers))

bytes_append : (numbers : List ℕ) (x : ℕ) → bytes_of (numbers ++ x ∷ []) ≡ bytes_of numbers ++ u32_bytes x
unfolding bytes_of
bytes_append [] x = append-nil (u32_bytes x)
bytes_append (y ∷ numbers) x = ap (λ l. u32_bytes y ++ l) (bytes_append numbers x) ∙ sym (append_assoc (u32_bytes y) (bytes_of numbers) (u32_bytes x))

-- the bytes of a front, by how many numbers it has
length_front_bytes : (numbers : List ℕ) (i : ℕ) → i ≤ length numbers → length (bytes_of (take i numbers)) ≡ 4 * i
length_front_bytes numbers i h = length_bytes (take i numbers) ∙ ap (λ k. 4 * k) (length-take-le i numbers h)

-- nothing put leaves all as it was
pub put_none : (numbers out : List ℕ) → out ≡ over (bytes_of (take 0 numbers)) out
unfolding bytes_of
put_none numbers out = refl

-- bytes behind a front that is put already
pub put_behind : (front more out : List ℕ) → length front + length more ≤ length out
    → sets (over front out) (length front) more ≡ over (front ++ more) out
put_behind front more out h =
    sets-eq more (over front out) (length front) (simp (length-append, length-drop) (omega arith))
    ∙ ap (λ l. l ++ more ++ drop (length front + length more) (over front out)) (take_at front (drop (length front) out) (length front) refl)
    ∙ ap (λ l. front ++ more ++ l) (drop-append-add front (drop (length front) out) (length more) ∙ drop-drop (length more) (length front) out)
    ∙ ap (λ k. front ++ more ++ drop k out) (sym (length-append front more))

-- the loop's turn
pub put_on : (numbers out out' : List ℕ) (i : ℕ) → i < length numbers → 4 * i + 4 ≤ length out
    → out' ≡ over (bytes_of (take i numbers)) out
    → sets out' (4 * i) (u32_bytes (get_or numbers i 0)) ≡ over (bytes_of (take (i + 1) numbers)) out
put_on numbers out out' i l h e =
    let x : ℕ = get_or numbers i 0 in
    let front : List ℕ = bytes_of (take i numbers) in
    let long : length front ≡ 4 * i = length_front_bytes numbers i (omega arith) in
    let next : suc i ≡ i + 1 = omega arith in
    ap (λ o. sets o (4 * i) (u32_bytes x)) e
    ∙ ap (λ k. sets (over front out) k (u32_bytes x)) (sym long)
    ∙ put_behind front (u32_bytes x) out (omega (arith, length_u32 x, long))
    ∙ ap (λ b. over b out)
    (sym (bytes_append (take i numbers) x) ∙ ap bytes_of (sym (take-suc numbers i 0 l)) ∙ ap (λ k. bytes_of (take k numbers)) next)
