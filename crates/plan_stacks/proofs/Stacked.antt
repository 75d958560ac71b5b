-- A stop's stack and the chosen rides that board there: each entry is such a ride, and each such ride has an entry. Assumes nothing.
use Prim.Native.Nat.{ℕ, suc, ◌+◌, ◌-◌, ◌*◌, ◌/◌, ◌%◌, ◌<◌}
use mathlib.Core.Bool.{cond}
use mathlib.Core.List.{List, [], ◌∷◌, Memᴰ}
use mathlib.Core.Path.{◌≡◌, refl, sym, ap, subst, ◌∙◌}
use native.Mathlib.Omega.{arith}
use borrow.Author.Tests.{eqb-false}
use lib.Dec.{eqb}
use lib.ListN.{length, get_or}
use Rattle.laws.proofs.Members.{head_or_later}
use Rattle.laws.proofs.Places.{member_at, place_of}
use Rattle.laws.proofs.Tests.{ifb}
use Rattle.plans.specs.Worth.{Valued}
use Rattle.plan_stacks.specs.Stacks.{key_step, Entry, stack_start, stack_size, entry_departure, entry_row}
use Rattle.plan_stacks.specs.Chosen.{at_stop, StackHolds, EntryFits, Climbing}
use Rattle.plan_stacks.proofs.AtStop.{at_stop_from, at_stop_member}
use Rattle.plan_stacks.proofs.Entries.{stack_size_lem, entry_at_lem}

-- a chosen ride that boards at the stop is one of its rides
at_stop_holds : (stop : ℕ) (vs : List Valued) {v : Valued} → Memᴰ v vs → v.ride.from ≡ stop → Memᴰ v (at_stop stop vs)
unfolding at_stop
at_stop_holds stop [] m there = m
at_stop_holds stop (x ∷ vs) {v} m there =
    ifb (λ b. eqb x.ride.from stop ≡ b → Memᴰ v (cond b (x ∷ at_stop stop vs) (at_stop stop vs))) (eqb x.ride.from stop)
    (λ _ _. head_or_later (Memᴰ v (x ∷ at_stop stop vs)) m (λ e. Memᴰ.head e) (λ n. Memᴰ.tail (at_stop_holds stop vs n there)))
    (λ e _. head_or_later (Memᴰ v (at_stop stop vs)) m
    (λ q. absurd (eqb-false x.ride.from stop e (ap (λ (u : Valued). u.ride.from) (sym q) ∙ there))) (λ n. at_stop_holds stop vs n there)) refl

-- the ride of the entry at a place from the bottom
pub record Stands (work : List ℕ) (stop : ℕ) (chosen : List Valued) (place : ℕ) (v : Valued) : Type 0 where
  pub inside : place < stack_size work stop
  pub member : Memᴰ v chosen
  pub from : v.ride.from ≡ stop
  pub departs : entry_departure work (stack_start work stop) place ≡ v.ride.departs
  pub row : entry_row work (stack_start work stop) place ≡ v.ride.board

module _ (work : List ℕ) (stop : ℕ) (chosen : List Valued) (holds : StackHolds work stop chosen) (climbing : Climbing stop chosen) where
  abbrev there : List Valued
  there = at_stop stop chosen

  size_is : stack_size work stop ≡ length there
  size_is = stack_size_lem work (stack_start work stop) (stack_size work stop) there holds

  stands_at : (d : Valued) (down place : ℕ) → down + suc place ≡ stack_size work stop → Stands work stop chosen place (get_or there down d)
  stands_at d down place e =
      let v = get_or there down d in
      let below : down < length there = omega (arith, size_is) in
      let fits : EntryFits v = climbing.fits v (member_at there down d below) in
      let key : get_or work (stack_start work stop + 2 * place) 0 ≡ key_step * v.ride.departs + v.ride.board =
      ap (λ (x : Entry). x.key) (entry_at_lem work (stack_start work stop) (stack_size work stop) there holds down place d e) in
      record {
        inside = (let z : place < stack_size work stop = omega arith in z);
        member = at_stop_member stop chosen v (member_at there down d below);
        from = at_stop_from stop chosen down d below;
        departs = (let z : get_or work (stack_start work stop + 2 * place) 0 / key_step ≡ v.ride.departs = omega (arith, fits.row) in z);
        row = (let z : get_or work (stack_start work stop + 2 * place) 0 % key_step ≡ v.ride.board = omega (arith, fits.row) in z);
      }

  -- each entry is a ride, whatever stands for one where there is none
  pub entry_ride : (d : Valued) (place : ℕ) → place < stack_size work stop → (v : Valued) × Stands work stop chosen place v
  entry_ride d place h =
      let down = stack_size work stop - suc place in
      (get_or there down d, stands_at d down place (let z : stack_size work stop - suc place + suc place ≡ stack_size work stop = omega arith in z))

  -- each ride has an entry
  pub ride_entry : (v : Valued) → Memᴰ v chosen → v.ride.from ≡ stop → (place : ℕ) × Stands work stop chosen place v
  ride_entry v m from =
      let found = place_of there v (at_stop_holds stop chosen m from) in
      let place = stack_size work stop - suc found.0 in
      let down : found.0 + suc place ≡ stack_size work stop = omega (arith, found.1, size_is) in (
        place,
        subst (λ (u : Valued). Stands work stop chosen place u) found.2
            (stands_at v found.0 place down),
      )

  -- departures fall from the bottom up
  pub falls : (d : Valued) (k l : ℕ) → k < l → l < stack_size work stop
      → entry_departure work (stack_start work stop) l < entry_departure work (stack_start work stop) k
  falls d k l h below =
      let size = stack_size work stop in
      let low : size - suc k + suc k ≡ size = omega arith in
      let high : size - suc l + suc l ≡ size = omega arith in
      let rises : (get_or there (size - suc l) d).ride.departs < (get_or there (size - suc k) d).ride.departs =
      climbing.climbs (size - suc l) (size - suc k) d (omega arith) (omega (arith, size_is)) in
      omega (arith, (stands_at d (size - suc k) k low).departs, (stands_at d (size - suc l) l high).departs)
