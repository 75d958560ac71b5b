-- A stop's stack, cell by cell: what stands at a place from the bottom, what leaves it as it is, and a new top. Assumes nothing.
use Prim.Native.Nat.{ℕ, zero, suc, ◌+◌, ◌*◌, ◌/◌, ◌≤◌, ◌<◌}
use mathlib.Core.List.{List, [], ◌∷◌, map}
use mathlib.Core.Path.{◌≡◌, refl, sym, ap, ap₂, subst, ◌∙◌}
use native.Mathlib.Nat.{lt_trans}
use native.Mathlib.Omega.{arith}
use borrow.Author.Tests.{ltb-true, ltb-false}
use lib.Dec.{ltb}
use lib.ListN.{length, get_or, length-map, get_or-map}
use Rattle.laws.proofs.Tests.{ifb}
use Rattle.plan_stacks.specs.Stacks.{Entry, key_step, key_of, entry_at, stack_at, stack_start, stack_size, stack_of, start_pair, Falling, entry_departure, entry_worth, with_entry}
use Rattle.plans.specs.Worth.{Valued}
use Rattle.plan_cells.specs.Cells.{pair_cell, two_at}
use Rattle.plan_cells.proofs.TwoCells.{two_front, two_behind, two_other}
use Rattle.plan_stacks.specs.Chosen.{EntryFits, entry_of}

-- an entry that has left, and all above it
pub falls_behind : {work : List ℕ} {start size bottom minute middle : ℕ} → Falling work start size bottom
    → entry_departure work start middle < minute → (k : ℕ) → middle ≤ k → k < size → entry_departure work start k < minute
falls_behind {work} {start} {size} {bottom} {minute} {middle} stack missed k h below =
    ifb (λ _. entry_departure work start k < minute) (ltb middle k)
    (λ above. lt_trans (stack.falls middle k (ltb-true middle k above) below) missed)
    (λ same.
    let here : middle ≡ k = omega (arith, ltb-false middle k same) in
    subst (λ p. entry_departure work start p < minute) here missed)

pub length_stack : (work : List ℕ) (at size : ℕ) → length (stack_at work at size) ≡ size
unfolding stack_at
length_stack work at zero = refl
length_stack work at (suc size) = ap suc (length_stack work at size)

-- the entry at a place from the bottom stands as many below the top
pub stack_entry : (work : List ℕ) (at size down place : ℕ) (d : Entry) → down + suc place ≡ size
    → get_or (stack_at work at size) down d ≡ entry_at work (at + 2 * place)
unfolding stack_at
stack_entry work at zero down place d e = absurd (let z : ⊥ = omega arith in z)
stack_entry work at (suc size) zero place d e =
    let same : size ≡ place = omega arith in ap (λ p. entry_at work (at + 2 * p)) same
stack_entry work at (suc size) (suc down) place d e = stack_entry work at size down place d (omega arith)

-- a stack that holds these rides, the first of them on top
module _ (work : List ℕ) (start size : ℕ) (vs : List Valued) (holds : stack_at work start size ≡ map entry_of vs) where
  pub stack_size_lem : size ≡ length vs
  stack_size_lem = sym (length_stack work start size) ∙ ap length holds ∙ length-map vs entry_of

  pub entry_at_lem : (down place : ℕ) (d : Valued) → down + suc place ≡ size
      → entry_at work (start + 2 * place) ≡ entry_of (get_or vs down d)
  entry_at_lem down place d e =
      sym (stack_entry work start size down place (entry_of d) e) ∙ ap (λ l. get_or l down (entry_of d)) holds
      ∙ get_or-map entry_of vs down d

  pub worth_at : (down place : ℕ) (d : Valued) → down + suc place ≡ size → entry_worth work start place ≡ (get_or vs down d).worth
  worth_at down place d e = ap (λ (x : Entry). x.worth) (entry_at_lem down place d e)

  pub departure_at : (down place : ℕ) (d : Valued) → down + suc place ≡ size → EntryFits (get_or vs down d)
      → entry_departure work start place ≡ (get_or vs down d).ride.departs
  departure_at down place d e fits =
      let ride = (get_or vs down d).ride in
      let whole : (key_step * ride.departs + ride.board) / key_step ≡ ride.departs = omega (arith, fits.row) in
      ap (λ (x : Entry). x.key / key_step) (entry_at_lem down place d e) ∙ whole

abbrev pub entry : (key worth : ℕ) → Entry
entry key worth = record { key = key; worth = worth }

-- a stack none of whose cells changed
pub stack_same :
    (w w' : List ℕ) (at size : ℕ) → ((k : ℕ) → at ≤ k → k < at + 2 * size → get_or w' k 0 ≡ get_or w k 0) → stack_at w' at size ≡ stack_at w at size
unfolding stack_at
stack_same w w' at zero same = refl
stack_same w w' at (suc size) same =
    ap₂ (λ (e : Entry) (es : List Entry). e ∷ es)
    (ap₂ entry (same (at + 2 * size) (omega arith) (omega arith)) (same (at + 2 * size + 1) (omega arith) (omega arith)))
    (stack_same w w' at size (λ k low high. same k low (omega arith)))

-- an entry k places up from the bottom is the top of k + 1 entries
pub stack_pushed :
    (w : List ℕ) (start k departure row worth : ℕ) → start + 2 * k + 1 < length w
    → stack_at (with_entry w start k departure row worth) start (suc k) ≡ entry (key_of departure row) worth ∷ stack_at w start k
unfolding stack_at
stack_pushed w start k departure row worth h =
    let at = start + 2 * k in
    let key = key_of departure row in
    ap₂ (λ (e : Entry) (es : List Entry). e ∷ es)
    (ap₂ entry (two_front w at key worth h) (two_behind w at key worth h))
    (stack_same w (two_at w at key worth) start k (λ j low high. two_other w at key worth j (λ e. omega arith) (λ e. omega arith)))

-- the cells of the stack are as they were
pub stack_kept :
    (w w' : List ℕ) (stop : ℕ) → start_pair w' stop ≡ start_pair w stop → stack_size w' stop ≡ stack_size w stop
    → ((k : ℕ) → stack_start w stop ≤ k → k < stack_start w stop + 2 * stack_size w stop → get_or w' k 0 ≡ get_or w k 0) → stack_of w' stop ≡ stack_of w stop
stack_kept w w' stop start size same =
    ap₂ (λ (a n : ℕ). stack_at w' (pair_cell a) n) start size ∙ stack_same w w' (stack_start w stop) (stack_size w stop) same

-- an empty stack
pub stack_none : (w : List ℕ) (at : ℕ) (vs : List Valued) → stack_at w at 0 ≡ map entry_of vs → vs ≡ []
unfolding stack_at
stack_none w at [] e = refl
stack_none w at (v ∷ vs) e = absurd (let z : ◌≡◌ {A = ℕ} 0 1 = cc in let y : ⊥ = omega arith in y)

-- a stack's top is its stop's first chosen ride
pub record Top (w : List ℕ) (at k : ℕ) (vs : List Valued) : Type 0 where
  pub first : Valued
  pub rest : List Valued
  pub all : vs ≡ first ∷ rest
  pub key : get_or w (at + 2 * k) 0 ≡ (entry_of first).key
  pub worth : get_or w (at + 2 * k + 1) 0 ≡ first.worth
  pub below : stack_at w at k ≡ map entry_of rest

pub stack_top : (w : List ℕ) (at k : ℕ) (vs : List Valued) → stack_at w at (suc k) ≡ map entry_of vs → Top w at k vs
unfolding stack_at
stack_top w at k [] e = absurd (let z : ◌≡◌ {A = ℕ} 0 1 = cc in let y : ⊥ = omega arith in y)
stack_top w at k (v ∷ vs) e =
    let top : entry_at w (at + 2 * k) ≡ entry_of v = cc in
    record {
      first = v;
      rest = vs;
      all = refl;
      key = ap (λ (x : Entry). x.key) top;
      worth = ap (λ (x : Entry). x.worth) top;
      below = (cc);
    }
