-- The pass forward over the rows: what the marks, the plan slice and the two counts hold at row i. Assumes nothing.
use Prim.Native.Nat.{ℕ, zero, suc, max, ◌+◌, ◌*◌, ◌≤◌, ◌<◌}
use mathlib.Core.Bool.{true, false, false≢true}
use mathlib.Core.List.{List, [], ◌∷◌, ◌++◌, Memᴰ}
use mathlib.Core.Logic.{⊎_elim, ◌≢◌}
use mathlib.Core.Option.{some}
use mathlib.Core.Path.{◌≡◌, refl, sym, ap, subst, ◌∙◌}
use native.Mathlib.Omega.{arith}
use lib.ListN.{length, get_or}
use Rattle.laws.proofs.Options.{same_thing}
use Rattle.laws.proofs.Tests.{ifb, either}
use Rattle.plans.specs.Rides.{Ride, lands_by, boards, ready}
use Rattle.plans.specs.Worth.{Valued}
use Rattle.plans.specs.Plan.{Window, in_window, wanted, up_to, windows_of, latest_of}
use Rattle.plans.proofs.Extracted.{up_to_wants, window_boards, window_until}
use Rattle.plans.proofs.Open.{boards_stop, found_member, found_boards}
use Rattle.plans.proofs.Order.{Ordered, members_apart, first_before}
use Rattle.plans.proofs.OwnWorth.{OwnWorth}
use Rattle.plan_stacks.specs.Chosen.{StackHolds, Climbing}
use Rattle.plan_slice.specs.Slice.{written, with_ride}
use Rattle.plan_slice.proofs.Written.{length_over, length_more, over_none, over_more}
use Rattle.plan_extract.specs.Extracted.{FirstRide, plan_from}
use Rattle.numbers.specs.Over.{over}
use Rattle.plan_extract.specs.Marks.{MarkedAlone, AllPassed}
use Rattle.plan_extract.proofs.Going.{Going, Taken, going_start, going_pass, going_take, going_end}
use Rattle.plan_extract.proofs.Windows.{none_more}
use Rattle.plan_extract.proofs.Wanting.{Marking, Lands, unmarked, marking_on}

latest_more : (past : List Valued) (v : Valued) → latest_of (past ++ v ∷ []) ≡ max (latest_of past) (lands_by v.ride)
unfolding latest_of
latest_more [] v = omega arith
latest_more (u ∷ past) v = let rest = latest_more past v in omega arith

-- chosen rides of one row are one
same_row : (chosen : List Valued) → Ordered chosen → (u v : Valued) → Memᴰ u chosen → Memᴰ v chosen → u.ride.board ≡ v.ride.board
    → u ≡ v
same_row chosen o u v m n e =
    members_apart chosen o u v m n (λ same. same) (λ b. absurd (let z : ⊥ = omega (arith, b.rows) in z))
    (λ b. absurd (let z : ⊥ = omega (arith, b.rows) in z))

-- at row i: what is written so far and what the windows still take are the whole plan
pub record Writing (gate target n : ℕ) (whole chosen : List Valued) (plan₀ work plan : List ℕ) (rides last i : ℕ) : Type 0 where
  pub windows : List Window
  pub past : List Valued
  pub going : Going gate target whole chosen windows past i
  pub marking : Marking work n chosen windows
  pub plan_is : plan ≡ over (written past) plan₀
  pub rides_is : rides ≡ length past
  pub last_is : last ≡ latest_of past

module _ (chosen : List Valued) (ordered : Ordered chosen) {boarding : ℕ} (f : FirstRide chosen boarding) where
  abbrev start : List Window
  start = up_to f.stop f.minute (some f.ride)

  first_member : Memᴰ f.ride chosen
  first_member = found_member chosen f.stop f.minute f.is_first

  -- the first window wants the first ride, and no other
  first_boards : boards f.ride.ride f.stop f.minute ≡ true
  first_boards = found_boards chosen f.stop f.minute f.is_first

  first_wanted : wanted start f.ride.ride ≡ true
  first_wanted = up_to_wants f.stop f.minute f.ride refl f.ride.ride first_boards (omega arith)

  one_window : (r : Ride) → wanted start r ≡ true
      → in_window (record { stop = f.stop; minute = f.minute; until = f.ride.ride.departs }) r ≡ true
  unfolding up_to wanted
  one_window r e = ⊎_elim (λ k. k) (λ k. absurd (false≢true k)) (either _ false e)

  first_alone : (u : Valued) → Memᴰ u chosen → wanted start u.ride ≡ true → u ≡ f.ride
  first_alone u m e =
      let boarded = window_boards _ u.ride (one_window u.ride e) in
      let until : u.ride.departs ≤ f.ride.ride.departs = window_until _ u.ride (one_window u.ride e) in
      let found = first_before chosen ordered f.stop f.minute u m boarded in
      let same : f.ride ≡ found.0 = same_thing (sym f.is_first ∙ found.1) in
      let from : found.0.ride.from ≡ u.ride.from =
      ap (λ (x : Valued). x.ride.from) (sym same) ∙ boards_stop f.ride.ride f.stop f.minute first_boards
      ∙ sym (boards_stop u.ride f.stop f.minute boarded) in
      ⊎_elim (λ q. sym (same ∙ q))
      (λ b. absurd (let z : ⊥ = omega (arith, ap (λ (x : Valued). x.ride.departs) same, b.apart from) in z)) found.2

  module _ (gate target n : ℕ) (own_worth : OwnWorth gate target chosen) (plan work : List ℕ) (alone : MarkedAlone work n boarding) where
    going_to : (k : ℕ) → k ≤ boarding → Going gate target (plan_from gate target f) chosen start [] k
    going_to zero h = going_start gate target (plan_from gate target f) chosen start ordered own_worth refl
    going_to (suc k) h =
        going_pass gate target (plan_from gate target f) chosen (going_to k (omega arith))
        (λ v m here. ifb (λ b. wanted start v.ride ≡ b → b ≡ false) (wanted start v.ride)
        (λ _ e. absurd (let same = ap (λ (x : Valued). x.ride.board) (first_alone v m e) in let z : ⊥ = omega (arith, f.boards_at) in z))
        (λ _ _. refl) refl)

    -- nothing is written yet, and the first ride alone is wanted
    pub writing_start : Writing gate target n (plan_from gate target f) chosen plan work plan 0 0 boarding
    unfolding latest_of
    writing_start =
        record {
          windows = start;
          past = [];
          going = going_to boarding (omega arith);
          marking =
              record {
                marked = λ v m e.
                    ap (λ (x : Valued). get_or work x.ride.board 0) (first_alone v m e) ∙ ap (λ k. get_or work k 0) f.boards_at ∙ alone.marked;
                only = λ i h e. (f.ride, first_member, f.boards_at ∙ sym (alone.only i h e), first_wanted);
              };
          plan_is = over_none plan;
          rides_is = refl;
          last_is = refl;
        }

module _ {gate target n : ℕ} {whole chosen : List Valued} {plan₀ work plan : List ℕ} {rides last i : ℕ}
    (w : Writing gate target n whole chosen plan₀ work plan rides last i) where
  -- a row that is not marked is passed
  pub writing_pass : get_or work i 0 ≢ 1 → Writing gate target n whole chosen plan₀ work plan rides last (i + 1)
  writing_pass unset =
      let next : suc i ≡ i + 1 = omega arith in
      record {
        windows = w.windows;
        past = w.past;
        going =
            subst (λ k. Going gate target whole chosen w.windows w.past k) next
            (going_pass gate target whole chosen w.going (unmarked w.marking i unset));
        marking = w.marking;
        plan_is = w.plan_is;
        rides_is = w.rides_is;
        last_is = w.last_is;
      }

  -- the ride of a row that is marked
  pub marked_ride : i < n → get_or work i 0 ≡ 1 → (v : Valued) × Memᴰ v chosen × (v.ride.board ≡ i)
  marked_ride h e = let found = w.marking.only i h e in (found.0, found.1, found.2)

  -- behind the last row the plan is written
  pub writing_end : ((v : Valued) → Memᴰ v chosen → v.ride.board < i)
      → (plan ≡ over (written whole) plan₀) × (rides ≡ length whole) × (last ≡ latest_of whole)
  writing_end all =
      let same : w.past ≡ whole = sym (going_end gate target whole chosen w.going all) in
      (w.plan_is ∙ ap (λ l. over (written l) plan₀) same, w.rides_is ∙ ap length same, w.last_is ∙ ap latest_of same)

  pub plan_length : 3 * rides ≤ length plan₀ → length plan ≡ length plan₀
  plan_length room =
      ap length w.plan_is ∙ length_over w.past plan₀ (let z : 3 * length w.past ≤ length plan₀ = omega (arith, w.rides_is) in z)

  module _ (ordered : Ordered chosen) (v : Valued) (member : Memᴰ v chosen) (here : v.ride.board ≡ i) (inside : i < n)
      (mark : get_or work i 0 ≡ 1) where
    is_wanted : wanted w.windows v.ride ≡ true
    is_wanted =
        let found = w.marking.only i inside mark in
        let same = same_row chosen ordered found.0 v found.1 member (found.2 ∙ sym here) in
        subst (λ (u : Valued). wanted w.windows u.ride ≡ true) same found.3

    pub taken : Taken gate target whole chosen w.windows w.past i v
    taken = going_take gate target whole chosen w.going v member here is_wanted

    -- it lands away from the gate target, and can be followed
    pub lands : v.ride.to ≢ target → (safe : Valued) × Lands gate chosen taken.behind v safe
    lands away =
        let found = taken.safe away in (
          found.0,
          record {
            member = member;
            ordered = ordered;
            moves = taken.moves;
            behind_ordered = taken.ordered;
            among = taken.among;
            left = λ u m h. taken.left u m (let z : i < u.ride.board = omega arith in z);
            first = found.1;
          },
        )

    module _ (room : 3 * suc rides ≤ length plan₀) (plan' : List ℕ) (laid : plan' ≡ with_ride plan rides v.ride.board v.ride.leave v.worth)
        (last' : ℕ) (later : last' ≡ max last (lands_by v.ride)) where
      writing_with : (new : List ℕ) → Marking new n chosen (windows_of gate target v.ride taken.behind ++ w.windows)
          → Writing gate target n whole chosen plan₀ new plan' (rides + 1) last' (i + 1)
      writing_with new marks =
          let next : suc i ≡ i + 1 = omega arith in
          record {
            windows = windows_of gate target v.ride taken.behind ++ w.windows;
            past = w.past ++ v ∷ [];
            going =
                subst (λ k. Going gate target whole chosen (windows_of gate target v.ride taken.behind ++ w.windows) (w.past ++ v ∷ []) k) next
                taken.going;
            marking = marks;
            plan_is =
                laid ∙ ap (λ l. with_ride l rides v.ride.board v.ride.leave v.worth) w.plan_is
                ∙ over_more w.past v plan₀ rides w.rides_is
                (let z : 3 * suc (length w.past) ≤ length plan₀ = omega (arith, w.rides_is) in z);
            rides_is = ap (λ k. k + 1) w.rides_is ∙ sym (length_more w.past v);
            last_is = later ∙ ap (λ k. max k (lands_by v.ride)) w.last_is ∙ sym (latest_more w.past v);
          }

      -- it ends at the gate target, and leads no further
      pub writing_arrived : v.ride.to ≡ target → Writing gate target n whole chosen plan₀ work plan' (rides + 1) last' (i + 1)
      writing_arrived there =
          writing_with work
          (subst (λ (l : List Window). Marking work n chosen l) (sym (none_more gate target v.ride taken.behind w.windows there)) w.marking)

      -- it lands elsewhere, and those that can be caught there are marked
      pub writing_changed : (away : v.ride.to ≢ target) → StackHolds work v.ride.to chosen → Climbing v.ride.to chosen → (new : List ℕ)
          → AllPassed work new v.ride.to (ready gate v.ride.arrives) (ready gate (lands_by v.ride))
          → Writing gate target n whole chosen plan₀ new plan' (rides + 1) last' (i + 1)
      writing_changed away holds climbing new passed =
          writing_with new (marking_on (lands away).1 work holds climbing target n w.windows new away w.marking passed)
