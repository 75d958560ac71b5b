-- The pass forward over the rows, on lists: what is written so far and what the windows still take are the plan. Assumes nothing.
use Prim.Native.Nat.{ℕ, suc, ◌≤◌, ◌<◌}
use mathlib.Core.Bool.{true, false, false≢true}
use mathlib.Core.List.Memᴰ
use mathlib.Core.List.{List, [], ◌∷◌, ◌++◌, append_assoc, append-nil, Memᴰ}
use mathlib.Core.Logic.{◌≢◌}
use mathlib.Core.Option.{some}
use mathlib.Core.Path.{◌≡◌, refl, sym, ap, subst, ◌∙◌}
use native.Mathlib.Omega.{arith}
use borrow.Author.Tests.{eqb-true, eqb-false}
use lib.Dec.{eqb}
use Rattle.laws.proofs.Tests.{ifb}
use Rattle.laws.proofs.Members.{head_or_later}
use Rattle.plans.specs.Rides.{lands_by, ready}
use Rattle.plans.specs.Worth.{Valued, first_open}
use Rattle.plans.specs.Plan.{Window, wanted, windows_of, extract}
use Rattle.plans.proofs.Extracted.{on_taking}
use Rattle.plans.proofs.Order.{Ordered, ahead}
use Rattle.plans.proofs.OwnWorth.{Moves, OwnWorth}
use Rattle.plans.proofs.OwnWorth as own

-- at row i: `past` is written, and the windows take what is left from the chosen rows from row i on
pub record Going (gate target : ℕ) (whole chosen : List Valued) (ws : List Window) (past : List Valued) (i : ℕ) : Type 0 where
  pub rest : List Valued
  pub splits : whole ≡ past ++ extract gate target ws rest
  pub ordered : Ordered rest
  pub own_worth : OwnWorth gate target rest
  pub among : (v : Valued) → Memᴰ v rest → Memᴰ v chosen
  pub later : (v : Valued) → Memᴰ v rest → i ≤ v.ride.board
  pub left : (v : Valued) → Memᴰ v chosen → i ≤ v.ride.board → Memᴰ v rest

-- the ride of row i is taken: what is behind it, and that one who lands late finds a ride there
pub record Taken (gate target : ℕ) (whole chosen : List Valued) (ws : List Window) (past : List Valued) (i : ℕ) (v : Valued) : Type 0 where
  pub behind : List Valued
  pub going : Going gate target whole chosen (windows_of gate target v.ride behind ++ ws) (past ++ v ∷ []) (suc i)
  pub moves : Moves v.ride
  pub safe : v.ride.to ≢ target → (u : Valued) × (first_open behind v.ride.to (ready gate (lands_by v.ride)) ≡ some u)
  pub ordered : Ordered behind
  pub among : (u : Valued) → Memᴰ u behind → Memᴰ u chosen
  pub left : (u : Valued) → Memᴰ u chosen → i < u.ride.board → Memᴰ u behind

module _ (gate target : ℕ) (whole chosen : List Valued) where
  -- all chosen rows are still ahead
  pub going_start : (ws : List Window) → Ordered chosen → OwnWorth gate target chosen → whole ≡ extract gate target ws chosen
      → Going gate target whole chosen ws [] 0
  going_start ws o w e =
      record { rest = chosen; splits = e; ordered = o; own_worth = w; among = λ v m. m; later = λ v m. omega arith; left = λ v m h. m }

  -- a row whose ride no window wants is passed
  pub going_pass :
      {ws : List Window} {past : List Valued} {i : ℕ} → Going gate target whole chosen ws past i
      → ((v : Valued) → Memᴰ v chosen → v.ride.board ≡ i → wanted ws v.ride ≡ false) → Going gate target whole chosen ws past (suc i)
  going_pass {ws} {past} {i} g unwanted = go g.rest g.splits g.ordered g.own_worth g.among g.later g.left
    where
      go :
          (rest : List Valued) → whole ≡ past ++ extract gate target ws rest → Ordered rest → OwnWorth gate target rest
          → ((v : Valued) → Memᴰ v rest → Memᴰ v chosen) → ((v : Valued) → Memᴰ v rest → i ≤ v.ride.board)
          → ((v : Valued) → Memᴰ v chosen → i ≤ v.ride.board → Memᴰ v rest) → Going gate target whole chosen ws past (suc i)
      go [] e o w among later left =
          record {
            rest = [];
            splits = e;
            ordered = o;
            own_worth = w;
            among = among;
            later = λ v m. absurd (Memᴰ.not-nil m);
            left = λ v m h. left v m (omega arith);
          }
      go (v ∷ vs) e (ahead before o) (own.ahead moves worth on w) among later left =
          ifb (λ b. Going gate target whole chosen ws past (suc i)) (eqb v.ride.board i)
          (λ q. let here : v.ride.board ≡ i = eqb-true v.ride.board i q in
          record {
            rest = vs;
            splits =
                e
                ∙ ap (λ l. past ++ l)
                (on_taking gate target (extract gate target ws (v ∷ vs) ≡ extract gate target ws vs) ws v vs
                (λ t _. absurd (false≢true (sym (unwanted v (among v (Memᴰ.head refl)) here) ∙ t))) (λ _ p. p));
            ordered = o;
            own_worth = w;
            among = λ u m. among u (Memᴰ.tail m);
            later = λ u m. omega (arith, (before u m).rows);
            left =
                λ u m h.
                head_or_later (Memᴰ u vs) (left u m (omega arith))
                (λ same. absurd (let z : ⊥ = omega (arith, ap (λ (x : Valued). x.ride.board) same) in z)) (λ n. n);
          })
          (λ q. let apart : v.ride.board ≢ i = eqb-false v.ride.board i q in
          let from : i ≤ v.ride.board = later v (Memᴰ.head refl) in
          record {
            rest = v ∷ vs;
            splits = e;
            ordered = ahead before o;
            own_worth = own.ahead moves worth on w;
            among = among;
            later =
                λ u m.
                head_or_later (suc i ≤ u.ride.board) m (λ same. omega (arith, ap (λ (x : Valued). x.ride.board) same))
                (λ n. omega (arith, (before u n).rows));
            left = λ u m h. left u m (omega arith);
          })

  -- a row whose ride a window wants is taken
  pub going_take :
      {ws : List Window} {past : List Valued} {i : ℕ} → Going gate target whole chosen ws past i → (v : Valued) → Memᴰ v chosen → v.ride.board ≡ i
      → wanted ws v.ride ≡ true → Taken gate target whole chosen ws past i v
  going_take {ws} {past} {i} g v member here want =
      go g.rest g.splits g.ordered g.own_worth g.among g.later g.left
      (g.left v member (let z : i ≤ v.ride.board = omega arith in z))
    where
      go :
          (rest : List Valued) → whole ≡ past ++ extract gate target ws rest → Ordered rest → OwnWorth gate target rest
          → ((u : Valued) → Memᴰ u rest → Memᴰ u chosen) → ((u : Valued) → Memᴰ u rest → i ≤ u.ride.board)
          → ((u : Valued) → Memᴰ u chosen → i ≤ u.ride.board → Memᴰ u rest) → Memᴰ v rest → Taken gate target whole chosen ws past i v
      go [] e o w among later left m = absurd (Memᴰ.not-nil m)
      go (x ∷ vs) e (ahead before o) (own.ahead moves worth on w) among later left m =
          let same : v ≡ x = head_or_later (v ≡ x) m (λ q. q)
          (λ n. absurd (let z : ⊥ = omega (arith, (before v n).rows, later x (Memᴰ.head refl)) in z)) in
          subst (λ (y : Valued). Taken gate target whole chosen ws past i y) (sym same)
          (let there : x.ride.board ≡ i = sym (ap (λ (y : Valued). y.ride.board) same) ∙ here in
          let wants : wanted ws x.ride ≡ true = subst (λ (y : Valued). wanted ws y.ride ≡ true) same want in
          let behind : (u : Valued) → Memᴰ u chosen → i < u.ride.board → Memᴰ u vs =
          (λ u n h. head_or_later (Memᴰ u vs) (left u n (omega arith))
          (λ q. absurd (let z : ⊥ = omega (arith, ap (λ (y : Valued). y.ride.board) q) in z)) (λ k. k)) in
          record {
            behind = vs;
            going =
                record {
                  rest = vs;
                  splits =
                      e
                      ∙ ap (λ l. past ++ l)
                      (on_taking gate target (extract gate target ws (x ∷ vs) ≡ x ∷ extract gate target (windows_of gate target x.ride vs ++ ws) vs) ws x vs (λ _ t. t)
                      (λ p _. absurd (false≢true (sym p ∙ wants))))
                      ∙ sym (append_assoc past (x ∷ []) (extract gate target (windows_of gate target x.ride vs ++ ws) vs));
                  ordered = o;
                  own_worth = w;
                  among = λ u n. among u (Memᴰ.tail n);
                  later = λ u n. omega (arith, (before u n).rows);
                  left = λ u n h. behind u n h;
                };
            moves = moves;
            safe = on;
            ordered = o;
            among = λ u n. among u (Memᴰ.tail n);
            left = behind;
          })

  -- behind the last chosen row nothing is left
  pub going_end :
      {ws : List Window} {past : List Valued} {i : ℕ} → Going gate target whole chosen ws past i
      → ((v : Valued) → Memᴰ v chosen → v.ride.board < i) → whole ≡ past
  unfolding extract
  going_end {ws} {past} {i} g all = go g.rest g.splits g.among g.later
    where
      go : (rest : List Valued) → whole ≡ past ++ extract gate target ws rest → ((v : Valued) → Memᴰ v rest → Memᴰ v chosen)
          → ((v : Valued) → Memᴰ v rest → i ≤ v.ride.board) → whole ≡ past
      go [] e among later = e ∙ append-nil past
      go (v ∷ vs) e among later =
          absurd (let z : ⊥ = omega (arith, all v (among v (Memᴰ.head refl)), later v (Memᴰ.head refl)) in z)
