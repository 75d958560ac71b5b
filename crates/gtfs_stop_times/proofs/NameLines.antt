-- The lines of ids as they are written: one behind the other, each at most so long. Assumes nothing.
use Prim.Native.Nat.{ℕ, suc, ◌+◌, ◌*◌, ◌≤◌, ◌<◌}
use mathlib.Core.List.{List, [], ◌∷◌, ◌++◌, append_assoc, append-nil}
use mathlib.Core.Path.{◌≡◌, refl, sym, ap, subst, subst⁻¹, ◌∙◌}
use native.Mathlib.Omega.{arith}
use lib.ListN.{length, take, get_or, length-append}
use lib.Seq.{sets, slice, take-suc, take_all, length-take-le, get_or-take, length-sets}
use Rattle.laws.proofs.Lists.{sets_behind}
use Rattle.text.specs.Put.{Put}
use Rattle.gtfs_ids.specs.Ids.{longest_id}
use Rattle.gtfs_ids.specs.Book.{HoldsIds, place_in, key_in}
use Rattle.gtfs_ids.proofs.Held.{held_size}
use Rattle.gtfs_calls.specs.Names.{id_line, id_lines, line_room}

-- the same text in other words
pub put_as : {out after l l' : List ℕ} {at next : ℕ} → l ≡ l' → Put out at l after next → Put out at l' after next
put_as {out} {after} {at = at} {next} e put = subst (λ (k : List ℕ). Put out at k after next) e put

-- one text behind another
pub put_then : {out middle after front more : List ℕ} {at next end : ℕ} → Put out at front middle next → Put middle next more after end → Put out at (front ++ more) after end
put_then {out} {front = front} {more} {at} {next} first second =
    record {
      says = second.says ∙ ap (λ (k : List ℕ). sets k next more) first.says ∙ ap (λ n. sets (sets out at front) n more) first.ends ∙ sets_behind out at front more;
      ends = omega (arith, first.ends, second.ends, length-append front more);
    }

lines_append : (word : List ℕ) (ids more : List (List ℕ)) → id_lines word (ids ++ more) ≡ id_lines word ids ++ id_lines word more
unfolding id_lines
lines_append word [] more = refl
lines_append word (id ∷ ids) more = ap (λ l. id_line word id ++ l) (lines_append word ids more) ∙ sym (append_assoc (id_line word id) (id_lines word ids) (id_lines word more))

-- one line more
pub lines_more : (word : List ℕ) (ids : List (List ℕ)) (i : ℕ) → i < length ids
    → id_lines word (take (suc i) ids) ≡ id_lines word (take i ids) ++ id_line word (get_or ids i [])
unfolding id_lines
lines_more word ids i inside =
    ap (id_lines word) (take-suc ids i [] inside) ∙ lines_append word (take i ids) (get_or ids i [] ∷ [])
    ∙ ap (λ l. id_lines word (take i ids) ++ l) (append-nil (id_line word (get_or ids i [])))

line_length : (word id : List ℕ) → length (id_line word id) ≡ length word + length id + 3
unfolding id_line
line_length word id = simp length-append (omega arith)

pub lines_short : (word : List ℕ) (ids : List (List ℕ)) → length word ≤ 5 → ((i : ℕ) → i < length ids → length (get_or ids i []) ≤ longest_id)
    → length (id_lines word ids) ≤ line_room * length ids
unfolding id_lines
lines_short word [] few short = omega arith
lines_short word (id ∷ ids) few short =
    omega (
      arith,
      length-append (id_line word id) (id_lines word ids),
      line_length word id,
      short 0 (omega arith),
      lines_short word ids few (λ i inside. short (suc i) (omega arith)),
    )

pub prefix_short : (word : List ℕ) (ids : List (List ℕ)) (i : ℕ) → length word ≤ 5 → ((k : ℕ) → k < length ids → length (get_or ids k []) ≤ longest_id)
    → i ≤ length ids → length (id_lines word (take i ids)) ≤ line_room * i
prefix_short word ids i few short inside =
    let count : length (take i ids) ≡ i = length-take-le i ids inside in
    subst (λ n. length (id_lines word (take i ids)) ≤ line_room * n) count
    (lines_short word (take i ids) few (λ k less. subst⁻¹ (λ (l : List ℕ). length l ≤ longest_id) (get_or-take i ids k [] (omega (arith, count)))
    (short k (omega (arith, count)))))

-- the lines of the first ids of a book, and where the next one goes
pub record LinesPut (text book : List ℕ) (count : ℕ) (word out : List ℕ) (at : ℕ) (after : List ℕ) (next i : ℕ) : Type 0 where
  pub inside : i ≤ count
  pub put : (ids : List (List ℕ)) → HoldsIds text book ids → count ≡ length ids → Put out at (id_lines word (take i ids)) after next

module _ {text book : List ℕ} {count : ℕ} {word out : List ℕ} {at : ℕ} where
  pub put_none : LinesPut text book count word out at out at 0
  unfolding id_lines
  put_none = record { inside = omega arith; put = λ ids held counted. record { says = refl; ends = omega arith } }

  module _ {after : List ℕ} {next i : ℕ} (so_far : LinesPut text book count word out at after next i) where
    pub put_length : (ids : List (List ℕ)) → HoldsIds text book ids → count ≡ length ids → length after ≡ length out
    put_length ids held counted = ap length (so_far.put ids held counted).says ∙ length-sets out at (id_lines word (take i ids))

    pub put_all : count ≤ i → (ids : List (List ℕ)) → HoldsIds text book ids → count ≡ length ids → Put out at (id_lines word ids) after next
    put_all ended ids held counted =
        subst (λ (l : List (List ℕ)). Put out at (id_lines word l) after next) (take_all i ids (omega arith)) (so_far.put ids held counted)

    -- what the next line needs
    pub id_fits : (from size : ℕ) → i < count → length word ≤ 5 → at + line_room * count ≤ length out → from ≡ place_in book i → size ≡ (key_in book i).size
        → (ids : List (List ℕ)) → HoldsIds text book ids → count ≡ length ids
        → (from + size ≤ length text) × (length word + size + 3 + next ≤ length after)
    id_fits from size more few room p q ids held counted =
        let inside : i < length ids = omega arith in
        let lies = held.lies i inside in
        let own : size ≡ length (get_or ids i []) = q ∙ held_size book ids i held inside in
        let put = so_far.put ids held counted in
        let short = prefix_short word ids i few held.short (omega arith) in (
          (let z : from + size ≤ length text = omega (arith, own, lies.inside) in z),
          (let z : length word + size + 3 + next ≤ length after = omega (arith, own, held.short i inside, put.ends, short, put_length ids held counted) in z),
        )

    -- one line more
    pub put_more : (from size : ℕ) {then : List ℕ} {behind : ℕ} → i < count → from ≡ place_in book i → size ≡ (key_in book i).size
        → Put after next (id_line word (slice from (from + size) text)) then behind → LinesPut text book count word out at then behind (i + 1)
    put_more from size {then} {behind} more p q line =
        record {
          inside = omega arith;
          put = λ ids held counted.
              let inside : i < length ids = omega arith in
              let own : size ≡ length (get_or ids i []) = q ∙ held_size book ids i held inside in
              let id : slice from (from + size) text ≡ get_or ids i [] =
              ap (λ k. slice k (k + size) text) p ∙ ap (λ n. slice (place_in book i) (place_in book i + n) text) own ∙ (held.lies i inside).says
              in
              subst⁻¹ (λ k. Put out at (id_lines word (take k ids)) then behind) (let z : i + 1 ≡ suc i = omega arith in z)
              (subst⁻¹ (λ (l : List ℕ). Put out at l then behind) (lines_more word ids i inside)
              (put_then (so_far.put ids held counted) (subst (λ (l : List ℕ). Put after next (id_line word l) then behind) id line)));
        }
