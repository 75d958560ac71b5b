-- Down a stop's stack, entry by entry: each entry that is caught is marked, and nothing else. Assumes nothing.
use Prim.Native.Nat.{ℕ, zero, suc, ◌+◌, ◌-◌, ◌*◌, ◌/◌, ◌%◌, ◌≤◌, ◌<◌}
use mathlib.Core.List.{List}
use mathlib.Core.Logic.{◌⊎◌, inl, inr, ⊎_elim}
use mathlib.Core.Path.{◌≡◌, refl, sym, ap, subst, ◌∙◌}
use native.Mathlib.Nat.{eq-or-lt_of_le}
use native.Mathlib.Omega.{arith}
use borrow.Author.Tests.{leb-true, leb-false}
use lib.Dec.{leb}
use lib.ListN.{length, get_or, set, length-set}
use Rattle.laws.proofs.Tests.{ifb}
use Rattle.plan_cells.specs.Cells.{trip_cells, stop_cells}
use Rattle.plan_stacks.specs.Stacks.{key_step, stack_start, stack_size, entry_departure, Falling, FirstOpenAt, entry_row}
use Rattle.plan_cells.specs.Outside.{SameOutside}
use Rattle.plan_cells.proofs.Outside.{set_cell}
use Rattle.plan_extract.specs.Marks.{Caught, Catching, Passed, AllPassed}

-- one entry more
passed_on :
    {old new : List ℕ} {start size soon last place : ℕ} → Passed old new start size soon last (suc place)
    → Caught old start size soon last place → entry_row old start place < length old
    → Passed old (set new (entry_row old start place) 1) start size soon last place
passed_on {old} {new} {start} {size} {soon} {last} {place} p caught inside =
    let row = entry_row old start place in
    let fits : row < length new = omega (arith, p.same_length) in
    record {
      same_length = length-set new row 1 ∙ p.same_length;
      marked =
          λ k h c.
          set_cell (λ x. x ≡ 1) new row (entry_row old start k) 1 fits (λ _. refl)
          (λ apart.
          ⊎_elim (λ same. absurd (apart (ap (entry_row old start) same))) (λ above. p.marked k above c) (eq-or-lt_of_le h));
      only =
          λ i.
          set_cell (λ x. (x ≡ get_or old i 0) ⊎ ((k : ℕ) × Caught old start size soon last k × (i ≡ entry_row old start k))) new row i 1 fits
          (λ here. inr (place, caught, sym here)) (λ _. p.only i);
    }

-- the loop is at this entry, and has passed those above it
pub record Down (old new : List ℕ) (start size soon last entry key : ℕ) : Type 0 where
  pub place : ℕ
  pub stands : entry ≡ start + 2 * place
  pub key_is : key ≡ get_or old (start + 2 * place) 0
  pub caught : Caught old start size soon last place
  pub passed : Passed old new start size soon last (suc place)

module _ (work : List ℕ) (land soon last : ℕ) (c : Catching work land soon last) where
  abbrev start : ℕ
  start = stack_start work land

  abbrev size : ℕ
  size = stack_size work land

  -- the stack as the code finds it
  pub falling_there : {from count : ℕ} → from ≡ start → count ≡ size → Falling work from count soon
  falling_there {from} {count} e n =
      subst (λ k. Falling work k count soon) (sym e) (subst (λ k. Falling work start k soon) (sym n) c.falling)

  pub down_first : {from count at : ℕ} → from ≡ start → count ≡ size → FirstOpenAt work from count soon at
      → Down work work start size soon last at (get_or work at 0)
  down_first {from} {count} {at} e n found =
      let f = subst (λ k. FirstOpenAt work start k soon at) n (subst (λ k. FirstOpenAt work k count soon at) e found) in
      record {
        place = f.place;
        stands = f.stands;
        key_is = ap (λ k. get_or work k 0) f.stands;
        caught = record { inside = f.inside; opens = f.opens; needed = λ k above h. omega (arith, f.missed k above h, c.late) };
        passed =
            record {
              same_length = refl;
              marked = λ k above caught. absurd (let z : ⊥ = omega (arith, f.missed k above caught.inside, caught.opens) in z);
              only = λ i. inl refl;
            };
      }

  -- the marks stand ahead of the stacks
  pub marks_only : {new : List ℕ} {place : ℕ} → Passed work new start size soon last place → SameOutside trip_cells stop_cells work new
  marks_only p =
      record {
        same_length = p.same_length;
        ahead = λ i h. absurd (let z : ⊥ = omega arith in z);
        behind = λ i h.
            ⊎_elim (λ same. same) (λ k. absurd (let z : ⊥ = omega (arith, c.rows k.0 k.1.inside, k.2) in z)) (p.only i);
      }

  module _ {new : List ℕ} {entry key : ℕ} (d : Down work new start size soon last entry key) where
    row_is : key % key_step ≡ entry_row work start d.place
    row_is = ap (λ k. k % key_step) d.key_is

    down_marked : (at : ℕ) → at ≡ key % key_step → Passed work (set new at 1) start size soon last d.place
    down_marked at here =
        subst (λ k. Passed work (set new k 1) start size soon last d.place) (sym (here ∙ row_is))
        (let row = c.rows d.place d.caught.inside in
        passed_on d.passed d.caught (let z : entry_row work start d.place < length work = omega (arith, c.cells) in z))

    departs_is : key / key_step ≡ entry_departure work start d.place
    departs_is = ap (λ k. k / key_step) d.key_is

    -- an entry that departs too early is not the last
    not_last : key / key_step < last → 1 ≤ d.place
    not_last early = go d.place departs_is
      where
        go : (p : ℕ) → key / key_step ≡ entry_departure work start p → 1 ≤ p
        go zero e = absurd (let z : ⊥ = omega (arith, c.safe) in z)
        go (suc p) e = omega arith

    pub down_on : (at : ℕ) → at ≡ key % key_step → key / key_step < last
        → Down work (set new at 1) start size soon last (entry - 2) (get_or (set new at 1) (entry - 2) 0)
    down_on at here early =
        let marked : Passed work (set new at 1) start size soon last d.place = down_marked at here in
        let first : 1 ≤ d.place = not_last early in
        let below : entry - 2 ≡ start + 2 * (d.place - 1) = omega (arith, d.stands) in
        let next : suc (d.place - 1) ≡ d.place = omega arith in
        record {
          place = d.place - 1;
          stands = below;
          key_is = (marks_only marked).behind (entry - 2) (let z : 2000 ≤ entry - 2 = omega (arith, below) in z) ∙ ap (λ k. get_or work k 0) below;
          caught =
              record {
                inside = (let z : d.place - 1 < size = omega (arith, d.caught.inside) in z);
                opens =
                    (let falls : entry_departure work start d.place < entry_departure work start (d.place - 1) =
                    c.falling.falls (d.place - 1) d.place (omega arith) d.caught.inside in
                    omega (arith, d.caught.opens));
                needed =
                    λ k above h.
                    ⊎_elim (λ same. omega (arith, ap (entry_departure work start) (sym next ∙ same), departs_is))
                    (λ higher. d.caught.needed k (let z : d.place < k = omega arith in z) h) (eq-or-lt_of_le above);
              };
          passed = subst (λ p. Passed work (set new at 1) start size soon last p) (sym next) marked;
        }

    pub down_last : (at : ℕ) → at ≡ key % key_step → last ≤ key / key_step → AllPassed work (set new at 1) land soon last
    down_last at here opened =
        let marked : Passed work (set new at 1) start size soon last d.place = down_marked at here in
        record {
          same_length = marked.same_length;
          marked =
              λ k _ caught.
              marked.marked k
              (ifb (λ _. d.place ≤ k) (leb d.place k) (leb-true d.place k)
              (λ below. absurd (let early = caught.needed d.place (leb-false d.place k below) d.caught.inside in
              let z : ⊥ = omega (arith, departs_is) in z))) caught;
          only = marked.only;
        }
