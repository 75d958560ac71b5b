-- Changing boats, one ride caught at a time: what is known at each turn, and that a turn keeps it. Assumes nothing.
use Prim.Native.Nat.{ℕ, suc, ◌+◌, ◌-◌, ◌*◌, ◌/◌, ◌≤◌, ◌<◌}
use mathlib.Core.List.{List}
use mathlib.Core.Path.{◌≡◌, refl, sym, ap, subst, ◌∙◌}
use native.Mathlib.Nat.{add-zero, mul-le-mul_left, le_trans}
use native.Mathlib.Omega.{arith}
use borrow.Author.Tests.{ltb-true, ltb-false}
use lib.Dec.{ltb}
use lib.ListN.{length, get_or, take, drop}
use Rattle.laws.proofs.Tests.{ifb}
use Rattle.timetable.specs.Classes.{sum}
use Rattle.plans.specs.Worth.{weigh}
use Rattle.plan_stacks.specs.Stacks.{key_step, entry_departure}
use Rattle.plan_landing.specs.Boarding.{Boarding, SomeBoarding}
use Rattle.plan_landing.proofs.Runs.{longest_on, sum_rest, sum_take_grows, weigh_on, weigh_end}

-- `entry` is the cell of the entry at `place`; `passed` delays are counted, which catch the entries above it
pub record Turn (work : List ℕ) (start first soon : ℕ) (shares : List ℕ) (caught : ℕ → ℕ) (entry departure done total : ℕ) : Type 0 where
  pub place : ℕ
  pub passed : ℕ
  pub below : place ≤ first
  pub stands : entry ≡ start + 2 * place
  pub departs : departure ≡ entry_departure work start place
  pub few : passed ≤ length shares
  pub counted : done ≡ sum (take passed shares)
  pub missed : (l : ℕ) → place < l → l ≤ first → entry_departure work start l < soon + passed
  pub onward : soon + passed ≤ departure
  pub so_far : weigh shares soon caught ≡ total + weigh (drop passed shares) (soon + passed) caught
  pub small : total ≤ done * 16777216

-- what a turn's cells and numbers keep to
pub record Room (work : List ℕ) (soon entry departure done total : ℕ) : Type 0 where
  pub inside : entry + 1 < length work
  pub within_whole : done ≤ 4096
  pub small : total ≤ done * 16777216
  pub worth_fits : get_or work (entry + 1) 0 ≤ 16777216
  pub after : soon ≤ departure

-- and, where this entry departs too early to be safe, the cells of its share and of the entry below
pub record MoreRoom (tables : List ℕ) (soon cell entry departure done : ℕ) : Type 0 where
  pub lower : 2 ≤ entry
  pub share_inside : cell + (departure - soon) < length tables
  pub share_grows : done ≤ get_or tables (cell + (departure - soon)) 0
  pub share_whole : get_or tables (cell + (departure - soon)) 0 ≤ 4096

module _ {work tables : List ℕ} {start first soon last cell : ℕ} {shares : List ℕ} {caught : ℕ → ℕ}
    (b : Boarding work tables start first soon last cell shares caught) where
  pub begins : (at departure : ℕ) → at ≡ start + 2 * first → departure ≡ entry_departure work start first
      → Turn work start first soon shares caught at departure 0 0
  unfolding sum
  begins at departure stands departs =
      let none : weigh shares (soon + 0) caught ≡ 0 + weigh shares (soon + 0) caught = omega arith in
      record {
        place = first;
        passed = 0;
        below = omega arith;
        stands = stands;
        departs = departs;
        few = omega arith;
        counted = refl;
        missed = λ l h k. absurd (let z : ⊥ = omega arith in z);
        onward = omega (arith, b.opens);
        so_far = ap (λ m. weigh shares m caught) (sym (add-zero soon)) ∙ none;
        small = omega arith;
      }

  module _ {entry departure done total : ℕ} (t : Turn work start first soon shares caught entry departure done total) where
    delay_inside : departure < last → departure - soon < length shares
    delay_inside early = omega (arith, b.lands, longest_on shares b.shares_fit.some_shares, t.onward)

    share_is : departure < last → get_or tables (cell + (departure - soon)) 0 ≡ sum (take (suc (departure - soon)) shares)
    share_is early = b.held (departure - soon) (delay_inside early)

    -- the bottom entry departs late enough, so one below this is left
    lower_place : departure < last → 1 ≤ t.place
    lower_place early =
        ifb (λ _. 1 ≤ t.place) (ltb 0 t.place) (λ some. ltb-true 0 t.place some)
        (λ none.
        let bottom : t.place ≡ 0 = omega (arith, ltb-false 0 t.place none) in
        let departs : departure ≡ entry_departure work start 0 = t.departs ∙ ap (entry_departure work start) bottom in
        absurd (let z : ⊥ = omega (arith, b.safe) in z))

    pub room : Room work soon entry departure done total
    room =
        record {
          inside = omega (arith, b.inside, t.stands, t.below);
          within_whole = omega (arith, sum_rest t.passed shares, b.shares_fit.shares_whole, t.counted);
          small = t.small;
          worth_fits = subst (λ e. get_or work (e + 1) 0 ≤ 16777216) (sym t.stands) (b.worth_fits t.place t.below);
          after = omega (arith, t.onward);
        }

    pub more_room : departure < last → MoreRoom tables soon cell entry departure done
    more_room early =
        let grows = sum_take_grows t.passed (suc (departure - soon)) shares (omega (arith, t.onward)) in
        record {
          lower = omega (arith, t.stands, lower_place early);
          share_inside = omega (arith, b.room, delay_inside early);
          share_grows = omega (arith, share_is early, t.counted);
          share_whole = omega (arith, share_is early, sum_rest (suc (departure - soon)) shares, b.shares_fit.shares_whole);
        }

    -- delays from the counted ones up to this departure catch this entry
    run : (v : ℕ) → soon + t.passed ≤ v → v ≤ departure → caught v ≡ get_or work (entry + 1) 0
    run v counted reached =
        b.catches t.place v t.below (omega arith) (omega (arith, t.departs)) (λ l h k. le_trans (t.missed l h k) counted)
        ∙ ap (λ e. get_or work (e + 1) 0) (sym t.stands)

    pub turns : (share next : ℕ) → departure < last → share ≡ get_or tables (cell + (departure - soon)) 0
        → next ≡ get_or work (entry - 2) 0 / key_step
        → Turn work start first soon shares caught (entry - 2) next share (total + (share - done) * get_or work (entry + 1) 0)
    turns share next early held departs =
        let upto = suc (departure - soon) in
        let lower = lower_place early in
        let place : entry - 2 ≡ start + 2 * (t.place - 1) = omega (arith, t.stands) in
        let worth = get_or work (entry + 1) 0 in
        let departs_there : next ≡ entry_departure work start (t.place - 1) = departs ∙ ap (λ e. get_or work e 0 / key_step) place in
        let share_held : share ≡ sum (take upto shares) = held ∙ share_is early in
        let on = weigh_on shares soon t.passed upto worth caught (omega (arith, t.onward)) (omega (arith, delay_inside early))
        (λ v l u. run v l (omega (arith, t.onward)))
        in
        let grown : (sum (take upto shares) - sum (take t.passed shares)) * worth ≡ (share - done) * worth =
        ap (λ x. (x - sum (take t.passed shares)) * worth) (sym share_held) ∙ ap (λ x. (share - x) * worth) (sym t.counted)
        in
        record {
          place = t.place - 1;
          passed = upto;
          below = omega (arith, t.below);
          stands = place;
          departs = departs_there;
          few = omega (arith, delay_inside early);
          counted = share_held;
          missed = λ l h k. missed_on l h k;
          onward = omega (arith, t.onward, t.departs, b.falls (t.place - 1) t.place (omega arith) t.below);
          so_far = omega (arith, t.so_far);
          small = omega (arith, t.small, (more_room early).share_grows, held, mul-le-mul_left (share - done) room.worth_fits);
        }
      where
        missed_on : (l : ℕ) → t.place - 1 < l → l ≤ first → entry_departure work start l < soon + suc (departure - soon)
        missed_on l h k =
            ifb (λ _. entry_departure work start l < soon + suc (departure - soon)) (ltb t.place l)
            (λ above. omega (arith, t.missed l (ltb-true t.place l above) k, t.onward))
            (λ same.
            let here : t.place ≡ l = omega (arith, ltb-false t.place l same) in
            subst (λ p. entry_departure work start p < soon + suc (departure - soon)) here (omega (arith, t.departs, t.onward)))

    -- the last one catches all delays that are left
    pub ends : last ≤ departure → weigh shares soon caught ≡ total + (4096 - done) * get_or work (entry + 1) 0
    ends late =
        let rest = weigh_end shares soon t.passed (get_or work (entry + 1) 0) caught t.few
        (λ v l u. run v l (omega (arith, b.lands, longest_on shares b.shares_fit.some_shares)))
        in
        let left : (sum shares - sum (take t.passed shares)) * get_or work (entry + 1) 0 ≡ (4096 - done) * get_or work (entry + 1) 0 =
        ap (λ x. (x - sum (take t.passed shares)) * get_or work (entry + 1) 0) b.shares_fit.shares_whole
        ∙ ap (λ x. (4096 - x) * get_or work (entry + 1) 0) (sym t.counted)
        in
        omega (arith, t.so_far)

-- what each turn begins with, for every stack, shares and worths that the cells stand for
pub record Going (work tables : List ℕ) (at soon last cell entry departure done total : ℕ) : Type 0 where
  pub room : Room work soon entry departure done total
  pub more : departure < last → MoreRoom tables soon cell entry departure done
  pub turn :
      (start first : ℕ) (shares : List ℕ) (caught : ℕ → ℕ) → at ≡ start + 2 * first
      → Boarding work tables start first soon last cell shares caught
      → Turn work start first soon shares caught entry departure done total

pub going : {work tables : List ℕ} {at soon last cell entry departure done total : ℕ} → SomeBoarding work tables at soon last cell
    → ((start first : ℕ) (shares : List ℕ) (caught : ℕ → ℕ) → at ≡ start + 2 * first
    → Boarding work tables start first soon last cell shares caught
    → Turn work start first soon shares caught entry departure done total)
    → Going work tables at soon last cell entry departure done total
going some turn =
    let here = turn some.start some.first some.shares some.caught some.stands some.boarding in
    record { room = room some.boarding here; more = more_room some.boarding here; turn = turn }
