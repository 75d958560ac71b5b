-- Every safe plan, a set of rides in any order, is one by boarding row rising. Assumes nothing.
use Prim.Native.Nat.{ℕ, ◌≤◌, ◌<◌}
use native.Mathlib.Omega.{arith}
use mathlib.Core.Bool.{cond}
use mathlib.Core.List.Memᴰ
use mathlib.Core.List.{List, [], ◌∷◌, Memᴰ}
use mathlib.Core.Logic.{◌↔◌}
use mathlib.Core.Path.{◌≡◌, refl, sym, ap, subst, ◌∙◌}
use lib.Dec.{eqb, ltb}
use borrow.Author.Tests.{eqb-true, eqb-false, ltb-true, ltb-false}
use Rattle.laws.proofs.Tests.{ifb}
use Rattle.laws.proofs.Members.{head_or_later}
use Rattle.timetable.specs.Timetable.{Timetable, row_of}
use Rattle.query.specs.declared.Query.{Query}
use Rattle.plans.specs.Rides.{Ride}
use Rattle.plans.specs.Journeys.{ready_at}
use Rattle.plans.specs.Worth.{valued, first_open}
use Rattle.plans.specs.Chosen.{worth_of}
use Rattle.demands.specs.SafePlan.{SafePlan, ByBoardingRow, no_rides, before_all, insert, sorted, expected_of}

-- the place of one more ride: before the head, at it, or behind it
pub on_place {ℓ} :
    (P : Type ℓ) (r x : Ride) (rides : List Ride) → (r.board < x.board → insert r (x ∷ rides) ≡ r ∷ x ∷ rides → P)
    → (r.board ≡ x.board → insert r (x ∷ rides) ≡ x ∷ rides → P) → (x.board < r.board → insert r (x ∷ rides) ≡ x ∷ insert r rides → P) → P
unfolding insert
on_place P r x rides before same behind =
    ifb (λ b. cond b (r ∷ x ∷ rides) (cond (eqb r.board x.board) (x ∷ rides) (x ∷ insert r rides)) ≡ insert r (x ∷ rides) → P)
    (ltb r.board x.board)
    (λ e h. before (ltb-true r.board x.board e) (sym h))
    (λ e h. ifb (λ b. cond b (x ∷ rides) (x ∷ insert r rides) ≡ insert r (x ∷ rides) → P) (eqb r.board x.board)
    (λ q k. same (eqb-true r.board x.board q) (sym k))
    (λ q k. behind (let a : x.board ≤ r.board = ltb-false r.board x.board e in
    let b : r.board ≡ x.board → ⊥ = eqb-false r.board x.board q in let z : x.board < r.board = omega arith in z) (sym k)) h) refl

insert_member : (r : Ride) (rides : List Ride) {x : Ride} → Memᴰ x (insert r rides) → Memᴰ x (r ∷ rides)
unfolding insert
insert_member r [] m = m
insert_member r (y ∷ rides) {x} m =
    on_place (Memᴰ x (r ∷ y ∷ rides)) r y rides (λ _ h. subst (λ (l : List Ride). Memᴰ x l) h m)
    (λ _ h. Memᴰ.tail (subst (λ (l : List Ride). Memᴰ x l) h m))
    (λ _ h. head_or_later (Memᴰ x (r ∷ y ∷ rides)) (subst (λ (l : List Ride). Memᴰ x l) h m) (λ e. Memᴰ.tail (Memᴰ.head e))
    (λ n. head_or_later (Memᴰ x (r ∷ y ∷ rides)) (insert_member r rides n) (λ e. Memᴰ.head e) (λ k. Memᴰ.tail (Memᴰ.tail k))))

insert_keeps : (r : Ride) (rides : List Ride) {x : Ride} → Memᴰ x rides → Memᴰ x (insert r rides)
unfolding insert
insert_keeps r [] m = absurd (Memᴰ.not-nil m)
insert_keeps r (y ∷ rides) {x} m =
    on_place (Memᴰ x (insert r (y ∷ rides))) r y rides (λ _ h. subst (λ (l : List Ride). Memᴰ x l) (sym h) (Memᴰ.tail m))
    (λ _ h. subst (λ (l : List Ride). Memᴰ x l) (sym h) m)
    (λ _ h. subst (λ (l : List Ride). Memᴰ x l) (sym h)
    (head_or_later (Memᴰ x (y ∷ insert r rides)) m (λ e. Memᴰ.head e) (λ n. Memᴰ.tail (insert_keeps r rides n))))

-- the new ride is there, where one boarding row has one ride
insert_holds : (r : Ride) (rides : List Ride) → ((x : Ride) → Memᴰ x rides → r.board ≡ x.board → r ≡ x) → Memᴰ r (insert r rides)
unfolding insert
insert_holds r [] alone = Memᴰ.head refl
insert_holds r (y ∷ rides) alone =
    on_place (Memᴰ r (insert r (y ∷ rides))) r y rides (λ _ h. subst (λ (l : List Ride). Memᴰ r l) (sym h) (Memᴰ.head refl))
    (λ e h. subst (λ (l : List Ride). Memᴰ r l) (sym h) (Memᴰ.head (alone y (Memᴰ.head refl) e)))
    (λ _ h. subst (λ (l : List Ride). Memᴰ r l) (sym h) (Memᴰ.tail (insert_holds r rides (λ x n. alone x (Memᴰ.tail n)))))

insert_rising : (r : Ride) {rides : List Ride} → ByBoardingRow rides → ByBoardingRow (insert r rides)
unfolding insert
insert_rising r no_rides = before_all (λ next m. absurd (Memᴰ.not-nil m)) no_rides
insert_rising r (before_all {r = y} {rides} before rising) =
    on_place (ByBoardingRow (insert r (y ∷ rides))) r y rides
    (λ b h. subst (λ (l : List Ride). ByBoardingRow l) (sym h)
    (before_all (λ next m. head_or_later (r.board < next.board) m (λ e. subst (λ (x : Ride). r.board < x.board) (sym e) b)
    (λ n. omega (arith, before next n)))
    (before_all before rising)))
    (λ _ h. subst (λ (l : List Ride). ByBoardingRow l) (sym h) (before_all before rising))
    (λ b h. subst (λ (l : List Ride). ByBoardingRow l) (sym h)
    (before_all (λ next m. head_or_later (y.board < next.board) (insert_member r rides m) (λ e. subst (λ (x : Ride). y.board < x.board) (sym e) b)
    (λ n. before next n))
    (insert_rising r rising)))

pub sorted_rising : (rides : List Ride) → ByBoardingRow (sorted rides)
unfolding sorted
sorted_rising [] = no_rides
sorted_rising (r ∷ rides) = insert_rising r (sorted_rising rides)

pub sorted_member : (rides : List Ride) (x : Ride) → Memᴰ x (sorted rides) → Memᴰ x rides
unfolding sorted
sorted_member [] x m = m
sorted_member (r ∷ rides) x m =
    head_or_later (Memᴰ x (r ∷ rides)) (insert_member r (sorted rides) m) (λ e. Memᴰ.head e) (λ n. Memᴰ.tail (sorted_member rides x n))

pub sorted_holds :
    (rides : List Ride) → ((x y : Ride) → Memᴰ x rides → Memᴰ y rides → x.board ≡ y.board → x ≡ y) → (x : Ride) → Memᴰ x rides
    → Memᴰ x (sorted rides)
unfolding sorted
sorted_holds [] alone x m = m
sorted_holds (r ∷ rides) alone x m =
    head_or_later (Memᴰ x (insert r (sorted rides))) m
    (λ e. subst (λ (y : Ride). Memᴰ y (insert r (sorted rides))) (sym e)
    (insert_holds r (sorted rides) (λ y n. alone r y (Memᴰ.head refl) (Memᴰ.tail (sorted_member rides y n)))))
    (λ n. insert_keeps r (sorted rides) (sorted_holds rides (λ y z k l. alone y z (Memᴰ.tail k) (Memᴰ.tail l)) x n))

-- what rises already stays as it is
insert_first : (r : Ride) (rides : List Ride) → ((next : Ride) → Memᴰ next rides → r.board < next.board) → insert r rides ≡ r ∷ rides
unfolding insert
insert_first r [] before = refl
insert_first r (x ∷ rides) before =
    let later : r.board < x.board = before x (Memᴰ.head refl) in
    on_place (insert r (x ∷ rides) ≡ r ∷ x ∷ rides) r x rides (λ _ h. h) (λ e _. absurd (let z : ⊥ = omega arith in z))
    (λ b _. absurd (let z : ⊥ = omega arith in z))

pub sorted_same : {rides : List Ride} → ByBoardingRow rides → sorted rides ≡ rides
unfolding sorted
sorted_same no_rides = refl
sorted_same (before_all {r} {rides} before rising) = ap (insert r) (sorted_same rising) ∙ insert_first r rides before

-- so a set has the same worths and expected arrival in that order
pub expected_sorted : (q : Query) (rides : List Ride) → expected_of q (sorted rides) ≡ expected_of q rides
unfolding expected_of
expected_sorted q rides =
    ap (λ (l : List Ride). worth_of (first_open (valued q.gate q.target l) q.source (ready_at q))) (sorted_same (sorted_rising rides))

module _ (t : Timetable) (q : Query) (bound : ℕ) where
  -- a safe plan is its set of rides
  pub safe_members :
      (rides others : List Ride) → ((x : Ride) → Memᴰ x rides → Memᴰ x others) → ((x : Ride) → Memᴰ x others → Memᴰ x rides)
      → SafePlan t q bound rides → SafePlan t q bound others
  safe_members rides others to from plan =
      record {
        are_rides = λ r m. plan.are_rides r (from r m);
        none_at_target = λ r m. plan.none_at_target r (from r m);
        no_two = λ r s m n. plan.no_two r s (from r m) (from s n);
        each_within = λ r m. plan.each_within r (from r m);
        begins = (plan.begins.0, to plan.begins.0 plan.begins.1, plan.begins.2);
        goes_on = λ r m away. let next = plan.goes_on r (from r m) away in (next.0, to next.0 next.1, next.2);
      }

  -- a boarding row has one ride of it
  safe_alone : (rides : List Ride) → SafePlan t q bound rides → (x y : Ride) → Memᴰ x rides → Memᴰ y rides → x.board ≡ y.board → x ≡ y
  safe_alone rides plan x y m n same =
      let a = (plan.are_rides x m).as_timed in
      let b = (plan.are_rides y n).as_timed in
      plan.no_two x y m n (ap (λ (r : Ride). r.from) a ∙ ap (λ i. (row_of t.rows i).board) same ∙ sym (ap (λ (r : Ride). r.from) b))
      (ap (λ (r : Ride). r.departs) a ∙ ap (λ i. (row_of t.rows i).departure) same ∙ sym (ap (λ (r : Ride). r.departs) b))

  pub safe_sorted :
      (rides : List Ride) → SafePlan t q bound rides
      → SafePlan t q bound (sorted rides) × ByBoardingRow (sorted rides) × ((r : Ride) → Memᴰ r (sorted rides) ↔ Memᴰ r rides)
  safe_sorted rides plan =
      let holds = sorted_holds rides (safe_alone rides plan) in
      (safe_members rides (sorted rides) holds (sorted_member rides) plan, sorted_rising rides, λ r. (sorted_member rides r, holds r))
