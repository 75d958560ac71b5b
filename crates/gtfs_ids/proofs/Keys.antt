-- Keys: two are the same exactly if they are equal, and an id's key tells the id. Assumes nothing.
use Prim.Native.Nat.{ℕ, ◌≤◌, ◌<◌, min}
use mathlib.Core.Bool.{true, false, ◌&&◌, false≢true}
use mathlib.Core.List.{List, ◌++◌}
use mathlib.Core.Path.{◌≡◌, refl, sym, ap, subst, ◌∙◌}
use native.Mathlib.Omega.{arith}
use borrow.Author.Tests.{eqb-true, eq-eqb, leb-true, leb-false}
use lib.Dec.{eqb, leb}
use lib.ListN.{length, take, drop, length-take, length-drop, take-append-drop, drop_of_length-le}
use lib.Seq.{take_all, take-length, drop-length}
use Rattle.laws.proofs.Tests.{ifb, both, both_left, both_right, both_both}
use Rattle.numbers.specs.Bytes.{Bytes}
use Rattle.gtfs_ids.specs.declared.Key.{Key}
use Rattle.gtfs_ids.specs.Keys.{packed, key_of, same_key}
use Rattle.gtfs_ids.proofs.Packing.{take_bytes, drop_bytes, packed_once}

-- keys are compared by their numbers, one after the other
pub compared_key : (a b : Key) → same_key a b ≡ (eqb a.front b.front && (eqb a.back b.back && eqb a.size b.size))
unfolding same_key
compared_key a b = both_both (eqb a.front b.front) (eqb a.back b.back) (eqb a.size b.size)

pub same_key_equal : (a b : Key) → same_key a b ≡ true → a ≡ b
unfolding same_key
same_key_equal a b e =
    let halves = both_left (eqb a.front b.front && eqb a.back b.back) (eqb a.size b.size) e in
    let front : a.front ≡ b.front = eqb-true _ _ (both_left (eqb a.front b.front) (eqb a.back b.back) halves) in
    let back : a.back ≡ b.back = eqb-true _ _ (both_right (eqb a.front b.front) (eqb a.back b.back) halves) in
    let size : a.size ≡ b.size =
    eqb-true _ _ (both_right (eqb a.front b.front && eqb a.back b.back) (eqb a.size b.size) e)
    in
    λ i. record { front = front i; back = back i; size = size i }

same_key_itself : (a : Key) → same_key a a ≡ true
unfolding same_key
same_key_itself a = both (both (eq-eqb a.front _ refl) (eq-eqb a.back _ refl)) (eq-eqb a.size _ refl)

pub equal_same_key : (a b : Key) → a ≡ b → same_key a b ≡ true
equal_same_key a b e = subst (λ k. same_key a k ≡ true) e (same_key_itself a)

pub different_other_key : (a b : Key) → (a ≡ b → ⊥) → same_key a b ≡ false
different_other_key a b apart = ifb (λ t. t ≡ false) (same_key a b) (λ same. absurd (apart (same_key_equal a b same))) (λ other. refl)

pub other_different_key : (a b : Key) → same_key a b ≡ false → a ≡ b → ⊥
other_different_key a b other e = false≢true (subst (λ t. t ≡ true) other (equal_same_key a b e))

-- an id of eight bytes or fewer has nothing behind its front
front_of : (id : List ℕ) → (take (min (length id) 8) id ≡ take 8 id) × (drop (min (length id) 8) id ≡ drop 8 id)
front_of id =
    ifb (λ _. (take (min (length id) 8) id ≡ take 8 id) × (drop (min (length id) 8) id ≡ drop 8 id)) (leb (length id) 8)
    (λ short.
    let few : length id ≤ 8 = leb-true (length id) 8 short in
    let all : min (length id) 8 ≡ length id = omega arith in
    (rw (all, take-length id, take_all 8 id few), rw (all, drop_of_length-le id few) (drop-length id)))
    (λ long.
    let more : 8 < length id = leb-false (length id) 8 long in
    let eight : min (length id) 8 ≡ 8 = omega arith in
    (ap (λ n. take n id) eight, ap (λ n. drop n id) eight))

pub cut_key : (id front back : List ℕ) {one other : ℕ} → front ≡ take (min (length id) 8) id → back ≡ drop (min (length id) 8) id
    → one ≡ packed front → other ≡ packed back → record { front = one; back = other; size = length id } ≡ key_of id
unfolding key_of
cut_key id front back p q r s =
    let first : front ≡ take 8 id = p ∙ (front_of id).0 in
    let others : back ≡ drop 8 id = q ∙ (front_of id).1 in
    rw (r, s, first, others)

-- ids of bytes are equal if their keys are
pub key_once : (a b : List ℕ) → Bytes a → Bytes b → key_of a ≡ key_of b → a ≡ b
unfolding key_of
key_once a b p q e =
    let size : length a ≡ length b = ap (λ k. k.size) e in
    let front : take 8 a ≡ take 8 b =
    packed_once (take 8 a) (take 8 b) (simp length-take (omega arith)) (take_bytes 8 a p) (take_bytes 8 b q) (ap (λ k. k.front) e)
    in
    let back : drop 8 a ≡ drop 8 b =
    packed_once (drop 8 a) (drop 8 b) (simp length-drop (omega arith)) (drop_bytes 8 a p) (drop_bytes 8 b q) (ap (λ k. k.back) e)
    in
    sym (take-append-drop 8 a) ∙ ap (λ l. l ++ drop 8 a) front ∙ ap (λ l. take 8 b ++ l) back ∙ take-append-drop 8 b
